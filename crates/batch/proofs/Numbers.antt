-- Numbers as bytes and back: what is written is what is read, and an answer's fields stand where document 01 says.
use mathlib.Core.Path.{◌≡◌, refl, sym, ap, ap₂, ◌∙◌}
use mathlib.Core.Bool.{Bool, cond}
use mathlib.Core.List.{List, ◌∷◌}
use Prim.Native.Nat.{ℕ, zero, suc, ◌+◌, ◌*◌, ◌/◌, ◌%◌, ◌^◌, ◌≤◌, ◌<◌}
use native.Mathlib.Nat.{mod-one, mod-eq_of_lt, pow-suc}
use native.Mathlib.Numerals.{add-one}
use native.Mathlib.Omega.{arith}
use lib.Arith.{mod-mul}
use lib.ListN.{length, get_or, take, drop}
use lib.Seq.{drop-cons}
use Rattle.batch.specs.Bytes.{number, bytes_of}
use Rattle.batch.specs.Batch.{answer}

-- ---- numbers

pub length_bytes : (n x : ℕ) → length (bytes_of n x) ≡ n
unfolding bytes_of
length_bytes zero x = refl
length_bytes (suc n) x = ap suc (length_bytes n (x / 256))

-- a byte in front moves every place by one
number_cons : (n b : ℕ) (bs : List ℕ) (at : ℕ) → number n (b ∷ bs) (at + 1) ≡ number n bs at
unfolding number
number_cons zero b bs at = refl
number_cons (suc n) b bs at = ap₂ (λ (x y : ℕ). x + 256 * y) (ap (λ (k : ℕ). get_or (b ∷ bs) k 0) (add-one at)) (number_cons n b bs (at + 1))

pow_pos : (n : ℕ) → 0 < 256 ^ n
pow_pos zero = omega arith
pow_pos (suc n) = let p = pow-suc 256 n in let h = pow_pos n in omega arith

-- written and read: the number as far as its n bytes hold it
pub number_low : (n x : ℕ) → number n (bytes_of n x) 0 ≡ x % 256 ^ n
unfolding number bytes_of
number_low zero x = sym (mod-one x)
number_low (suc n) x =
    ap (λ (y : ℕ). x % 256 + 256 * y) (number_cons n (x % 256) (bytes_of n (x / 256)) 0 ∙ number_low n (x / 256))
    ∙ turned (x / 256 % 256 ^ n) (x % 256) ∙ sym (ap (λ (m : ℕ). x % m) (pow-suc 256 n) ∙ mod-mul x (pow_pos n) (omega arith))
  where
    turned : (a b : ℕ) → b + 256 * a ≡ a * 256 + b
    turned a b = omega arith

-- .. which is all of it where it fits
pub number_bytes : (n x : ℕ) → x < 256 ^ n → number n (bytes_of n x) 0 ≡ x
number_bytes n x h = number_low n x ∙ mod-eq_of_lt h

-- n bytes make a number below 256^n
pub number_small : (n : ℕ) (bs : List ℕ) → ((k : ℕ) → get_or bs k 0 < 256) → (at : ℕ) → number n bs at < 256 ^ n
unfolding number
number_small zero bs small at = omega arith
number_small (suc n) bs small at =
    let p = pow-suc 256 n in
    let b = small at in
    let rest = number_small n bs small (at + 1) in
    omega (arith, p, b, rest)

pub low_byte : (b m : ℕ) → b < 256 → (b + 256 * m) % 256 ≡ b
low_byte b m h = omega arith

pub high_bytes : (b m : ℕ) → b < 256 → (b + 256 * m) / 256 ≡ m
high_bytes b m h = omega arith

-- read and written: the bytes that were there
pub bytes_number : (n : ℕ) (bs : List ℕ) (at : ℕ) → ((k : ℕ) → get_or bs k 0 < 256) → at + n ≤ length bs → bytes_of n (number n bs at) ≡ take n (drop at bs)
unfolding number bytes_of
bytes_number zero bs at small enough = refl
bytes_number (suc n) bs at small enough =
    let b = get_or bs at 0 in
    let m = number n bs (at + 1) in
    ap₂ (λ (x : ℕ) (y : ℕ). x ∷ bytes_of n y) (low_byte b m (small at)) (high_bytes b m (small at))
    ∙ ap (λ (l : List ℕ). b ∷ l) (bytes_number n bs (at + 1) small (omega arith))
    ∙ sym (ap (take (suc n)) (drop-cons bs at 0 (omega arith) ∙ ap (λ (k : ℕ). b ∷ drop k bs) (sym (add-one at))))

-- ---- answers

pub length_answer : (code : ℕ) (present : Bool) (moves len key0 key1 value : ℕ) → length (answer code present moves len key0 key1 value) ≡ 40
unfolding answer bytes_of
length_answer code present moves len key0 key1 value = refl

-- what the bytes of an answer say at their places
pub record Fields (bs : List ℕ) (code flag moves len key0 key1 value : ℕ) : Type 0 where
  pub code' : get_or bs 0 0 ≡ code
  pub flag' : get_or bs 1 0 ≡ flag
  pub gap : number 2 bs 2 ≡ 0
  pub moves' : number 4 bs 4 ≡ moves
  pub len' : number 4 bs 8 ≡ len
  pub gap' : number 4 bs 12 ≡ 0
  pub key0' : number 8 bs 16 ≡ key0
  pub key1' : number 8 bs 24 ≡ key1
  pub value' : number 8 bs 32 ≡ value

pub answer_fields : (code : ℕ) (present : Bool) (moves len key0 key1 value : ℕ) → moves < 2 ^ 32 → len < 2 ^ 32 → key0 < 2 ^ 64 → key1 < 2 ^ 64 → value < 2 ^ 64
    → Fields (answer code present moves len key0 key1 value) code (cond present 1 0) moves len key0 key1 value
unfolding answer number bytes_of
answer_fields code present moves len key0 key1 value hm hl h0 h1 hv = record {
  code' = refl;
  flag' = refl;
  gap = refl;
  moves' = number_bytes 4 moves hm;
  len' = number_bytes 4 len hl;
  gap' = refl;
  key0' = number_bytes 8 key0 h0;
  key1' = number_bytes 8 key1 h1;
  value' = number_bytes 8 value hv;
}
