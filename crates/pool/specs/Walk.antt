-- What a walk gives, as the definitions of the examination count it: 0 for refused, else one more than what is left of the budget.
use Rattle.std.specs.Prelude.{ℕ, suc, Option, Some, None}

unfoldable pub left_over : Option ℕ → ℕ
left_over None = 0
left_over (Some left) = suc left
