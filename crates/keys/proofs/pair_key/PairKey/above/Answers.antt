-- `keys::Pair::above` meets its contract: the order of pairs is lexicographic.
use mathlib.Core.Path.{sym}
use borrow.Author.Rules.{rules}
use Rattle.keys.proofs.Ordered.{order_first, order_second}
use Rattle.keys.proofs.pair_key.PairKey.above.Goals as goal

pub returns-then-self-other : goal.returns-then-self-other
returns-then-self-other c =
    let x = c.args in
    sym (order_second x.self.0 x.self.1 (search rules) (search rules) x.other.0 x.other.1 (search rules) (search rules) c.if-self-other.true)

pub returns : goal.returns
returns c =
    let x = c.args in
    sym (order_first x.self.0 x.self.1 (search rules) (search rules) x.other.0 x.other.1 (search rules) (search rules) c.if-self-other.false)
