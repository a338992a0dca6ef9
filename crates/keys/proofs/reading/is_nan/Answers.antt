-- `keys::reading::is_nan` meets its contract.
use mathlib.Core.Path.{sym, ◌∙◌}
use borrow.Author.Tests.{eq-eqb}
use Rattle.keys.specs.Ordered.{nan_key}
use Rattle.keys.proofs.Names.{float_is, not_float}
use Rattle.keys.proofs.Ordered.{nan_other}
use Rattle.keys.proofs.reading.is_nan.Goals as goal

pub returns-in-Float : goal.returns-in-Float
unfolding nan_key
returns-in-Float c = c.is_nan.ensures ∙ simp (eq-eqb c.args.kind.number 6 (float_is _ c.in-Float.ensures))

pub returns-in_default : goal.returns-in_default
returns-in_default c =
    let x = c.args in
    sym (nan_other x.kind x.key.first (not_float x.kind.number c.name.ensures c.in_default.not-Float))
