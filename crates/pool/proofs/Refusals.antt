-- A refusal is told by its number: that is not 0, and no other refusal has it.
use mathlib.Core.Path.{◌≡◌, refl, sym, ◌∙◌, ap}
use mathlib.Core.Bool.{cond}
use Prim.Native.Nat.{ℕ}
use native.Mathlib.Omega.{arith}
use borrow.Author.Tests.{ne_eqb}
use lib.Dec.{eqb}
use Rattle.std.proofs.Common.{Result, Ok, Err}
use Rattle.pool.specs.declared.refusal.Refusal.{Refusal}
use Rattle.pool.specs.declared.refusal.Refusal.TheVariants.{Unfit, Unsound, Ragged, NoRoom, Malformed, Nan, AboveTop, Full, Empty}
use Rattle.pool.specs.Codes.{refusal_code}

pub refusal_some : (r : Refusal) → refusal_code r ≡ 0 → ⊥
unfolding refusal_code
refusal_some Unfit e = omega arith
refusal_some Unsound e = omega arith
refusal_some Ragged e = omega arith
refusal_some NoRoom e = omega arith
refusal_some Malformed e = omega arith
refusal_some Nan e = omega arith
refusal_some AboveTop e = omega arith
refusal_some Full e = omega arith
refusal_some Empty e = omega arith

-- the refusal of a number
unfoldable pub refusal_of : ℕ → Refusal
refusal_of n =
    cond (eqb n 1) Unfit (cond (eqb n 2) Unsound (cond (eqb n 3) Ragged (cond (eqb n 4) NoRoom (cond (eqb n 5) Malformed (cond (eqb n 9) Nan (cond (eqb n 6) AboveTop (cond (eqb n 7) Full Empty)))))))

pub refusal_named : (r : Refusal) → refusal_of (refusal_code r) ≡ r
unfolding refusal_code refusal_of
refusal_named Unfit = refl
refusal_named Unsound = refl
refusal_named Ragged = refl
refusal_named NoRoom = refl
refusal_named Malformed = refl
refusal_named Nan = refl
refusal_named AboveTop = refl
refusal_named Full = refl
refusal_named Empty = refl

pub refusal_determined : (r r' : Refusal) → refusal_code r ≡ refusal_code r' → r ≡ r'
refusal_determined r r' e = sym (refusal_named r) ∙ ap refusal_of e ∙ refusal_named r'

-- a result of its number, and of what it gives if that is 0
unfoldable pub result_of : {A : Type 0} → ℕ → A → Result A Refusal
result_of n a = cond (eqb n 0) (Ok a) (Err (refusal_of n))

pub result_err : {A : Type 0} (r : Refusal) (a : A) → result_of (refusal_code r) a ≡ Err r
unfolding result_of
result_err r a = rw (ne_eqb (refusal_code r) 0 (refusal_some r), refusal_named r)
