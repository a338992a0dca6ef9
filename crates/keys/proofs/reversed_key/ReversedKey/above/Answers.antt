-- `keys::Reversed::above` meets its contract: the order of reversed numbers is turned round.
use mathlib.Core.Path.{sym}
use borrow.Author.Rules.{rules}
use Rattle.keys.specs.Parts.{formed}
use Rattle.keys.proofs.Order.{reverse_order}
use Rattle.keys.proofs.reversed_key.ReversedKey.above.Goals as goal

pub returns : goal.returns
unfolding formed
returns c =
    let a = c.args.self.0 in
    let b = c.args.other.0 in
    sym (reverse_order 64 a b (search rules) (search rules))
