-- "Numbers given back": the number of each refusal, and of what a call was told.
use Rattle.std.specs.Prelude.{◌≡◌, ℕ, Result, Ok, Err}
use Rattle.pool.specs.declared.refusal.Refusal.{Refusal}
use Rattle.pool.specs.declared.refusal.Refusal.TheVariants.{Unfit, Unsound, Ragged, NoRoom, Malformed, Nan, AboveTop, Full, Empty}
use Rattle.pool.specs.declared.refusal.UnknownCode.{UnknownCode}

unfoldable pub refusal_code : Refusal → ℕ
refusal_code Unfit = 1
refusal_code Unsound = 2
refusal_code Ragged = 3
refusal_code NoRoom = 4
refusal_code Malformed = 5
refusal_code Nan = 9
refusal_code AboveTop = 6
refusal_code Full = 7
refusal_code Empty = 8

-- 0 for done
unfoldable pub told : {T : Type 0} → Result T Refusal → ℕ
unfolding refusal_code
told (Ok x) = 0
told (Err r) = refusal_code r

-- the refusal that a number names; else the number itself, which names none
unfoldable pub Names : ℕ → Result Refusal UnknownCode → Type 0
unfolding refusal_code
Names n (Ok r) = refusal_code r ≡ n
Names n (Err e) = (e.0 ≡ n) × ((r : Refusal) → refusal_code r ≡ n → ⊥)
