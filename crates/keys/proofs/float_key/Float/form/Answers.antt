-- `keys::Float::form` meets its contract.
use borrow.Author.Tests.{lt-ltb, le-ltb}
use Rattle.keys.specs.Floats.{float_form}
use Rattle.keys.proofs.float_key.Float.form.Goals as goal

pub returns-then-self-lt9223372036854775808 : goal.returns-then-self-lt9223372036854775808
unfolding float_form
returns-then-self-lt9223372036854775808 c = simp (lt-ltb c.args.self.0 9223372036854775808 c.if-self-lt9223372036854775808.true)

pub returns : goal.returns
unfolding float_form
returns c = simp (le-ltb c.args.self.0 9223372036854775808 c.if-self-lt9223372036854775808.false)
