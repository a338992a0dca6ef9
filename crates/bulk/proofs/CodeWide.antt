-- Three slices that are lent to a bulk push, on plain values: how many entries they hold, and what each entry is.
use mathlib.Core.Path.{◌≡◌, refl}
use mathlib.Core.List.{List, [], ◌∷◌}
use Prim.Native.Nat.{ℕ, zero, suc, ◌≤◌, ◌<◌, min, zero-le}
use native.Mathlib.Omega.{arith}
use lib.ListN.{length, get_or}
use Rattle.bulk.specs.Wide.{entry, zipped, no_entry}

many_le : (n : ℕ) (hs ks vs : List ℕ) → n ≤ length hs → n ≤ length ks → n ≤ length vs → n ≤ length (zipped hs ks vs)
unfolding zipped
many_le zero hs ks vs p q r = zero-le
many_le (suc n) [] ks vs p q r = p
many_le (suc n) (a ∷ hs) [] vs p q r = q
many_le (suc n) (a ∷ hs) (b ∷ ks) [] p q r = r
many_le (suc n) (a ∷ hs) (b ∷ ks) (v ∷ vs) p q r = let l = many_le n hs ks vs (omega arith) (omega arith) (omega arith) in omega arith

-- so many entries are in all three
pub record Within (n : ℕ) (hs ks vs : List ℕ) : Type 0 where
  pub in0 : n ≤ length hs
  pub in1 : n ≤ length ks
  pub in2 : n ≤ length vs

pub zipped_within : (hs ks vs : List ℕ) → Within (length (zipped hs ks vs)) hs ks vs
unfolding zipped
zipped_within [] ks vs = record { in0 = zero-le; in1 = zero-le; in2 = zero-le }
zipped_within (a ∷ hs) [] vs = record { in0 = zero-le; in1 = zero-le; in2 = zero-le }
zipped_within (a ∷ hs) (b ∷ ks) [] = record { in0 = zero-le; in1 = zero-le; in2 = zero-le }
zipped_within (a ∷ hs) (b ∷ ks) (v ∷ vs) = let l = zipped_within hs ks vs in record { in0 = omega arith; in1 = omega arith; in2 = omega arith }

-- the shortest of the three lengths
pub count_is : (hs ks vs : List ℕ) → min (min (length hs) (length ks)) (length vs) ≡ length (zipped hs ks vs)
count_is hs ks vs =
    let n : ℕ = min (min (length hs) (length ks)) (length vs) in
    let m = many_le n hs ks vs (omega arith) (omega arith) (omega arith) in
    let l = zipped_within hs ks vs in
    omega arith

pub zipped_at : (hs ks vs : List ℕ) (i : ℕ) → i < length (zipped hs ks vs) → entry (get_or hs i 0) (get_or ks i 0) (get_or vs i 0) ≡ get_or (zipped hs ks vs) i no_entry
unfolding zipped
zipped_at [] ks vs i l = absurd (omega arith)
zipped_at (a ∷ hs) [] vs i l = absurd (omega arith)
zipped_at (a ∷ hs) (b ∷ ks) [] i l = absurd (omega arith)
zipped_at (a ∷ hs) (b ∷ ks) (v ∷ vs) zero l = refl
zipped_at (a ∷ hs) (b ∷ ks) (v ∷ vs) (suc i) l = zipped_at hs ks vs i (omega arith)
