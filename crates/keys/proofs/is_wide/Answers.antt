-- `keys::is_wide` meets its contract.
use mathlib.Core.Path.{sym, ◌∙◌}
use mathlib.Core.Logic.{inl, inr}
use Rattle.keys.proofs.Names.{pair_is, mixed_is, not_pair, not_mixed}
use Rattle.keys.proofs.Ordered.{wide_pair, wide_mixed, wide_word}
use Rattle.keys.proofs.is_wide.Goals as goal

pub returns-in-Pair : goal.returns-in-Pair
returns-in-Pair c =
    let n = c.args.kind in
    elim c.in-Pair.is [
      | inl e ↦ sym (wide_pair n (pair_is n.number (sym e ∙ c.name.ensures)))
      | inr e ↦ sym (wide_mixed n (mixed_is n.number (sym e ∙ c.name.ensures)))
    ]

pub returns-in_default : goal.returns-in_default
returns-in_default c =
    let n = c.args.kind in
    let e = c.name.ensures in
    sym (wide_word n (not_pair n.number e c.in_default.not-Pair) (not_mixed n.number e c.in_default.not-Mixed))
