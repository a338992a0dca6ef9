-- What a batch was told, in numbers: the code, and how many records were answered.
use mathlib.Core.Path.{◌≡◌, refl, ◌∙◌}
use mathlib.Core.List.{List}
use Prim.Native.Nat.{ℕ}
use Rattle.std.specs.Prelude.{Result, Ok, Err}
use Rattle.std.specs.Result.{result_unwrap_or}
use Rattle.pool.specs.declared.refusal.Refusal.{Refusal}
use Rattle.pool.specs.Codes.{told}
use Rattle.pool.specs.World.{World}
use Rattle.batch.specs.Batch.{Batched, batched, batch_answered}

in_numbers : (t : Result ℕ Refusal) (w : World) (as' : List ℕ) → batched (told t) w as' (result_unwrap_or t 0) ≡ batch_answered t w as'
unfolding told batch_answered
in_numbers (Ok n) w as' = refl
in_numbers (Err r) w as' = refl

pub told_batch : (t : Result ℕ Refusal) {w u : World} {as' : List ℕ} {code n : ℕ} {o : Batched} → code ≡ told t → n ≡ result_unwrap_or t 0 → u ≡ w → batch_answered t w as' ≡ o → batched code u as' n ≡ o
told_batch t {w} {as' = as'} e f g h = (λ i. batched (e i) (g i) as' (f i)) ∙ in_numbers t w as' ∙ h
