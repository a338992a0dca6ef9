-- The kinds by name. "A kind that the table does not have is read as 1."
use Rattle.std.specs.Prelude.{ℕ, cond, eqb}
use Rattle.keys.specs.declared.kind.KindName.{KindName}
use Rattle.keys.specs.declared.kind.KindName.TheVariants.{Plain, Signed, Reversed, Pair, Mixed, Float}

unfoldable pub name_of : ℕ → KindName
name_of n =
    cond (eqb n 2) Signed (cond (eqb n 3) Reversed (cond (eqb n 4) Pair (cond (eqb n 5) Mixed (cond (eqb n 6) Float Plain))))
