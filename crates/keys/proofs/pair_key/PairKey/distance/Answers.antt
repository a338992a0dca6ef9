-- `keys::Pair::distance` meets its contract: the second words count only if the first are equal.
use mathlib.Core.Path.{sym, ap, subst, ◌∙◌}
use Prim.Native.Nat.{ℕ, ◌+◌, ◌≤◌}
use native.Mathlib.Omega.{arith}
use borrow.Author.Rules.{rules}
use Rattle.rule.proofs.Width.{distance_le}
use Rattle.keys.proofs.Ordered.{distance_first, distance_second}
use Rattle.keys.proofs.pair_key.PairKey.distance.Goals as goal

pub returns-then-self-other : goal.returns-then-self-other
returns-then-self-other c =
    let x = c.args in
    c.apart.ensures ∙ sym (distance_second x.self.0 x.self.1 (search rules) (search rules) x.other.0 x.other.1 (search rules) (search rules) c.if-self-other.true)

pub overflow_add-result : goal.overflow_add-result
overflow_add-result c = omega (arith, subst (λ (n : ℕ). n ≤ 64) (sym c.apart-2.ensures) (distance_le 64 _ _))

pub returns : goal.returns
returns c =
    let x = c.args in
    ap (λ (n : ℕ). 64 + n) c.apart-2.ensures
    ∙ sym (distance_first x.self.0 x.self.1 (search rules) (search rules) x.other.0 x.other.1 (search rules) (search rules) c.if-self-other.false)
