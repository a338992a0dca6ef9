-- `engine::pushing::test_key` meets its contract: each way out gives the code of `key_code` under the tests before it.
use mathlib.Core.Path.{sym, ◌∙◌}
use Rattle.pool.specs.Codes.{told, refusal_code}
use Rattle.engine.proofs.CodePush.{key_malformed, key_nan, key_done}
use Rattle.engine.proofs.pushing.test_key.Goals as goal

pub returns-then-not-well_formed : goal.returns-then-not-well_formed
unfolding told refusal_code
returns-then-not-well_formed c = key_malformed _ _ _ (sym c.well_formed-2.ensures ∙ c.if-not-well_formed.true)

pub returns-then-is_nan : goal.returns-then-is_nan
unfolding told refusal_code
returns-then-is_nan c =
    key_nan _ _ _ (sym c.well_formed-2.ensures ∙ c.if-not-well_formed.false) (sym c.is_nan.ensures ∙ c.if-is_nan.true)

pub returns : goal.returns
unfolding told
returns c =
    key_done _ _ _ (sym c.well_formed-2.ensures ∙ c.if-not-well_formed.false) (sym c.is_nan.ensures ∙ c.if-is_nan.false)
