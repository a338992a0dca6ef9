-- "Ordered as numbers": of two patterns that are no NaN's and not both zeros, the ordered forms compare as IEEE 754 compares the
-- numbers that the patterns stand for. In either format.
use mathlib.Core.Path.{◌≡◌, refl, sym, ap, ap₂, subst, ◌∙◌}
use mathlib.Core.Bool.{Bool, true, false, cond, not, ◌&&◌}
use mathlib.Core.Logic.{◌⊎◌, inl, inr}
use Prim.Native.Nat.{ℕ, zero, suc, ◌+◌, ◌-◌, ◌*◌, ◌/◌, ◌%◌, ◌^◌, ◌≤◌, ◌<◌}
use native.Mathlib.Nat.{mul-one, mul_assoc, mul_comm, mul-pos, mul_right_comm, mul-le-mul_right, mul-le-mul_left, mul-lt-mul_of_pos_right, lt_of_mul-lt-mul_right, le_of_mul-le-mul_right, mod-lt, div-add-mod', le_of_eq, le_of_lt, pow-suc, add-mul, zero-mul, zero-div, zero-mod, one-mul, suc-mul, mod-eq_of_lt, mod-eq-sub-mod, two-pow-succ, mod-mod_of_dvd, dvd-mul_right}
use native.Mathlib.Decide.{dec_lt, dec_le, ℕ_discrete}
use native.Mathlib.Omega.{arith}
use borrow.Author.Tests.{lt-ltb, le-ltb, le-leb, lt-leb, ltb-true, ltb-false, eq-eqb, ne_eqb}
use lib.Dec.{ltb, leb, eqb}
use lib.Pow.{pow_pos, pow_mono, shr_mono, split, high, low as low'}
use lib.Ieee.{Float, nan, inf, fin, lt, eq, up, down, below, Format, binary64, prec, emax, low, hid, ones, top, odd, of_fields, of_bits}
use lib.Ieee.Exact.{HasValue, odd_sign}
use lib.Ieee.Fits.{down_pos}
use Rattle.keys.specs.Floats.{float_form, is_nan}
use Rattle.keys.proofs.Order.{same_test}
use Rattle.keys.proofs.Floats.{turned, turned_plus, turned_minus}

-- ---- the size of a number, from the exponent's field and the digits below it, in units of the format's smallest value
module _ (h : ℕ) where
  unfoldable pub units : ℕ → ℕ → ℕ
  units zero t = t * 2 ^ 0
  units (suc y) t = (h + t) * 2 ^ y

  -- it grows with the digits, and with the field
  units_digits : (x : ℕ) {t u : ℕ} → t < u → units x t < units x u
  unfolding units
  units_digits zero l = mul-lt-mul_of_pos_right l (pow_pos 0)
  units_digits (suc y) l = mul-lt-mul_of_pos_right (omega arith) (pow_pos y)

  units_field : (x y : ℕ) {t : ℕ} (u : ℕ) → x < y → t < h → units x t < units y u
  unfolding units
  units_field x zero u l k = absurd (omega arith)
  units_field zero (suc y) {t} u l k =
      let a : 1 ≤ 2 ^ y = pow_pos y in
      let b : (h + u) * 1 ≤ (h + u) * 2 ^ y = mul-le-mul_left (h + u) a in
      omega (arith, mul-one t, mul-one (h + u))
  units_field (suc x) (suc y) {t} u l k =
      let a : (h + t) * 2 ^ x < (h + h) * 2 ^ x = mul-lt-mul_of_pos_right (omega arith) (pow_pos x) in
      let b : (h + h) * 2 ^ x ≡ h * 2 ^ suc x = add-mul h h (2 ^ x) ∙ sym (ap (λ n. h * n) (pow-suc 2 x) ∙ sym (mul_assoc h (2 ^ x) 2) ∙ omega arith) in
      let c : h * 2 ^ suc x ≤ h * 2 ^ y = mul-le-mul_left h (pow_mono (omega arith)) in
      let d : h * 2 ^ y ≤ (h + u) * 2 ^ y = mul-le-mul_right (2 ^ y) (omega arith) in
      omega arith

  -- of a pattern without its sign
  unfoldable pub sized : ℕ → ℕ
  sized r = units (r / h) (r % h)

-- with h the weight of the exponent's field
module _ (j : ℕ) where
  pub sized_grows : {r q : ℕ} → r < q → sized (2 ^ j) r < sized (2 ^ j) q
  unfolding sized
  sized_grows {r} {q} l = elim (dec_lt (r / 2 ^ j) (q / 2 ^ j)) [
    | yes k ↦ units_field (2 ^ j) (r / 2 ^ j) (q / 2 ^ j) (q % 2 ^ j) k (mod-lt r (pow_pos j))
    | no k ↦
        let g : r / 2 ^ j ≤ q / 2 ^ j = shr_mono j (omega arith) in
        let e : r / 2 ^ j ≡ q / 2 ^ j = omega arith in
        let m : r % 2 ^ j < q % 2 ^ j = omega (arith, split r j, split q j, ap (λ n. n * 2 ^ j) e) in
        subst (λ x. units (2 ^ j) (r / 2 ^ j) (r % 2 ^ j) < units (2 ^ j) x (q % 2 ^ j)) e (units_digits (2 ^ j) (r / 2 ^ j) m)
  ]

  sized_test : (r q : ℕ) → ltb (sized (2 ^ j) r) (sized (2 ^ j) q) ≡ ltb r q
  sized_test r q = sym (same_test r q (sized (2 ^ j) r) (sized (2 ^ j) q) (λ l. sized_grows l) (λ l. elim (ℕ_discrete q r) [
    | yes e ↦ le_of_eq (ap (sized (2 ^ j)) e)
    | no n ↦ le_of_lt (sized_grows (omega arith))
  ]))

-- ---- a value that a sign and a pattern without its sign stand for; L is 2 to the format's lowest place, N the infinity's pattern
module _ (j N L : ℕ) (lp : 0 < L) where
  unfoldable pub Stands : Float → Bool → ℕ → Type 0
  Stands v s r = (HasValue v s (sized (2 ^ j) r) L × (r < N)) ⊎ ((v ≡ inf s) × (r ≡ N))

  -- a number m * up e that is a / L, against n * up d that is b / L
  cross : (m n a b e d : ℕ) → 0 < e → 0 < d → m * L ≡ a * e → n * L ≡ b * d → ltb (m * d) (n * e) ≡ ltb a b
  cross m n a b e d pe pd p q =
      let left : m * d * L ≡ a * (e * d) = mul_right_comm m d L ∙ ap (λ x. x * d) p ∙ mul_assoc a e d in
      let right : n * e * L ≡ b * (e * d) = mul_right_comm n e L ∙ ap (λ x. x * e) q ∙ mul_assoc b d e ∙ ap (λ x. b * x) (mul_comm d e) in
      same_test (m * d) (n * e) a b
      (λ l. lt_of_mul-lt-mul_right (e * d) (subst (λ x. x < b * (e * d)) left (subst (λ x. m * d * L < x) right (mul-lt-mul_of_pos_right l lp))))
      (λ l. le_of_mul-le-mul_right (subst (λ x. x ≤ a * (e * d)) right (subst (λ x. n * e * L ≤ x) left (mul-le-mul_right L l))) (mul-pos pe pd))

  sized_zero : sized (2 ^ j) 0 ≡ 0
  unfolding sized units
  sized_zero = ap₂ (units (2 ^ j)) (zero-div (2 ^ j)) (zero-mod (2 ^ j))

  -- which sizes are not zero
  some_test : (n d q : ℕ) (e : ℕ) → 0 < e → 0 < d → n * L ≡ sized (2 ^ j) q * d → ltb 0 (n * e) ≡ ltb 0 q
  some_test n d q e pe pd p =
      ap (λ x. ltb x (n * e)) (sym (zero-mul d)) ∙ cross 0 n 0 (sized (2 ^ j) q) e d pe pd (zero-mul L ∙ sym (zero-mul e)) p
      ∙ ap (λ x. ltb x (sized (2 ^ j) q)) (sym sized_zero) ∙ sized_test j 0 q

  pos_to : (x r : ℕ) → ltb 0 x ≡ ltb 0 r → 0 < x → 0 < r
  pos_to x r e l = ltb-true 0 r (sym e ∙ lt-ltb 0 x l)

  sum_to : (x y r q : ℕ) → ltb 0 x ≡ ltb 0 r → ltb 0 y ≡ ltb 0 q → 0 < x + y → 0 < r + q
  sum_to x y r q e f l = elim (dec_lt 0 x) [ yes k ↦ omega (arith, pos_to x r e k) | no k ↦ omega (arith, pos_to y q f (omega arith)) ]

  sum_test : (x y r q : ℕ) → ltb 0 x ≡ ltb 0 r → ltb 0 y ≡ ltb 0 q → ltb 0 (x + y) ≡ ltb 0 (r + q)
  sum_test x y r q e f = same_test 0 (x + y) 0 (r + q) (sum_to x y r q e f) (λ l. elim (dec_le (r + q) 0) [ yes k ↦ k | no k ↦ absurd (omega (arith, sum_to r q x y (sym e) (sym f) (omega arith))) ])

  -- two finite numbers
  fin_test : (s t : Bool) (m n e d r q : ℕ) → 0 < e → 0 < d → m * L ≡ sized (2 ^ j) r * e → n * L ≡ sized (2 ^ j) q * d → below s (m * d) t (n * e) ≡ below s r t q
  fin_test false false m n e d r q pe pd p p' = cross m n (sized (2 ^ j) r) (sized (2 ^ j) q) e d pe pd p p' ∙ sized_test j r q
  fin_test false true m n e d r q pe pd p p' = refl
  fin_test true false m n e d r q pe pd p p' = sum_test (m * d) (n * e) r q (some_test m e r d pd pe p) (some_test n d q e pe pd p')
  fin_test true true m n e d r q pe pd p p' = cross n m (sized (2 ^ j) q) (sized (2 ^ j) r) d e pd pe p' p ∙ sized_test j q r

  -- an infinity against itself, above every number, and below
  inf_inf : (s t : Bool) → 0 < N → (s && not t) ≡ below s N t N
  inf_inf false false p = sym (le-ltb N N (omega arith))
  inf_inf false true p = refl
  inf_inf true false p = sym (lt-ltb 0 (N + N) (omega arith))
  inf_inf true true p = sym (le-ltb N N (omega arith))

  inf_fin : (s t : Bool) (q : ℕ) → q < N → s ≡ below s N t q
  inf_fin false false q l = sym (le-ltb N q (omega arith))
  inf_fin false true q l = refl
  inf_fin true false q l = sym (lt-ltb 0 (N + q) (omega arith))
  inf_fin true true q l = sym (lt-ltb q N l)

  fin_inf : (s t : Bool) (r : ℕ) → r < N → not t ≡ below s r t N
  fin_inf false false r l = sym (lt-ltb r N l)
  fin_inf false true r l = refl
  fin_inf true false r l = sym (lt-ltb 0 (r + N) (omega arith))
  fin_inf true true r l = sym (le-ltb N r (omega arith))

  pub lt_stands : (v w : Float) (s t : Bool) (r q : ℕ) → 0 < N → Stands v s r → Stands w t q → lt v w ≡ below s r t q
  unfolding lt Stands
  lt_stands nan w s t r q z (inl p) g = absurd p.0
  lt_stands (inf x) w s t r q z (inl p) g = absurd p.0
  lt_stands (fin x m e) nan s t r q z (inl p) (inl g) = absurd g.0
  lt_stands (fin x m e) (inf y) s t r q z (inl p) (inl g) = absurd g.0
  lt_stands (fin x m e) (fin y n d) s t r q z (inl p) (inl g) =
      ap₂ (λ (a b : Bool). below a (m * up e * down d) b (n * up d * down e)) p.0.0 g.0.0
      ∙ fin_test s t (m * up e) (n * up d) (down e) (down d) r q (down_pos e) (down_pos d) p.0.1 g.0.1
  lt_stands (fin x m e) w s t r q z (inl p) (inr g) = ap (lt (fin x m e)) g.0 ∙ fin_inf s t r p.1 ∙ ap (λ n. below s r t n) (sym g.1)
  lt_stands v w s t r q z (inr p) (inr g) = ap₂ lt p.0 g.0 ∙ inf_inf s t z ∙ ap₂ (λ m n. below s m t n) (sym p.1) (sym g.1)
  lt_stands v nan s t r q z (inr p) (inl g) = absurd g.0
  lt_stands v (inf y) s t r q z (inr p) (inl g) = absurd g.0
  lt_stands v (fin y n d) s t r q z (inr p) (inl g) = ap (λ x. lt x (fin y n d)) p.0 ∙ inf_fin s t q g.1 ∙ ap (λ m. below s m t q) (sym p.1)

-- ---- the patterns of a format: what a pattern that is no NaN's stands for
module _ (f : Format) where
  sized_fields : (x t : ℕ) → t < hid f → sized (hid f) (x * hid f + t) ≡ units (hid f) x t
  unfolding sized
  sized_fields x t l = ap₂ (units (hid f)) (high x (prec f - 1) l) (low' x (prec f - 1) l)

  Means : Float → Bool → ℕ → Type 0
  Means = Stands (prec f - 1) (ones f * hid f) (2 ^ low f) (pow_pos (low f))

  fields_mean : (s : Bool) (x t : ℕ) → t < hid f → x * hid f + t ≤ ones f * hid f → Means (of_fields f s x t) s (x * hid f + t)
  unfolding Means Stands of_fields units
  fields_mean s zero t l m =
      inl (
        subst (λ n. HasValue (odd (prec f) s t 0 (low f)) s n (2 ^ low f)) (sym (sized_fields 0 t l)) (odd_sign (prec f) s t 0 (low f)),
        omega (arith, zero-mul (hid f), add-mul (2 * emax f) 1 (hid f), one-mul (hid f)),
      )
  fields_mean s (suc y) t l m = elim (ℕ_discrete (suc y) (ones f)) [
    | yes e ↦
        let g : suc y * hid f ≡ ones f * hid f = ap (λ n. n * hid f) e in
        inr (ap₂ (λ (a b : Bool). cond a (cond b (inf s) nan) (odd (prec f) s (hid f + t) y (low f))) (eq-eqb (suc y) (ones f) e) (eq-eqb t 0 (omega arith)), omega arith)
    | no n ↦
        let h : suc y * hid f ≤ ones f * hid f = omega arith in
        let k : suc y ≤ ones f = le_of_mul-le-mul_right h (pow_pos (prec f - 1)) in
        let g : suc (suc y) * hid f ≤ ones f * hid f = mul-le-mul_right (hid f) (omega arith) in
        inl (
          subst (λ (v : Float). HasValue v s (sized (hid f) (suc y * hid f + t)) (2 ^ low f))
              (sym (ap (λ (a : Bool). cond a (cond (eqb t 0) (inf s) nan) (odd (prec f) s (hid f + t) y (low f))) (ne_eqb (suc y) (ones f) n)))
              (subst (λ n. HasValue (odd (prec f) s (hid f + t) y (low f)) s n (2 ^ low f)) (sym (sized_fields (suc y) t l)) (odd_sign (prec f) s (hid f + t) y (low f))),
          omega (arith, suc-mul (suc y) (hid f)),
        )
  ]

  two_fields : (b : ℕ) → b % top f / hid f * hid f + b % hid f ≡ b % top f
  two_fields b = ap (λ (y : ℕ). b % top f / hid f * hid f + y) (sym (mod-mod_of_dvd (hid f) b (dvd-mul_right (hid f) (suc (ones f))))) ∙ div-add-mod' (b % top f) (hid f)

  bits_mean : (b : ℕ) → b % top f ≤ ones f * hid f → Means (of_bits f b) (leb (top f) b) (b % top f)
  unfolding of_bits
  bits_mean b l =
      subst (λ n. Means (of_fields f (leb (top f) b) (b % top f / hid f) (b % hid f)) (leb (top f) b) n) (two_fields b)
      (fields_mean (leb (top f) b) (b % top f / hid f) (b % hid f) (mod-lt b (pow_pos (prec f - 1))) (subst (λ n. n ≤ ones f * hid f) (sym (two_fields b)) l))

  pub lt_bits : (a b : ℕ) → 0 < ones f * hid f → a % top f ≤ ones f * hid f → b % top f ≤ ones f * hid f → lt (of_bits f a) (of_bits f b) ≡ below (leb (top f) a) (a % top f) (leb (top f) b) (b % top f)
  unfolding Means
  lt_bits a b z l m = lt_stands (prec f - 1) (ones f * hid f) (2 ^ low f) (pow_pos (low f)) (of_bits f a) (of_bits f b) (leb (top f) a) (leb (top f) b) (a % top f) (b % top f) z (bits_mean a l) (bits_mean b m)

-- ---- and the ordered form compares as signs and sizes do, but for the two zeros
module _ (k : ℕ) (a b : ℕ) (ha : a < 2 ^ suc k) (hb : b < 2 ^ suc k) (some : 0 < a % 2 ^ k + b % 2 ^ k) where
  below_plus : (x : ℕ) → x < 2 ^ k → (leb (2 ^ k) x ≡ false) × (x % 2 ^ k ≡ x)
  below_plus x l = (lt-leb (2 ^ k) x l, mod-eq_of_lt l)

  below_minus : (x : ℕ) → 2 ^ k ≤ x → x < 2 ^ suc k → (leb (2 ^ k) x ≡ true) × (x % 2 ^ k ≡ x - 2 ^ k)
  below_minus x l u = (le-leb (2 ^ k) x l, mod-eq-sub-mod l ∙ mod-eq_of_lt (omega (arith, two-pow-succ k)))

  pub below_turned : below (leb (2 ^ k) a) (a % 2 ^ k) (leb (2 ^ k) b) (b % 2 ^ k) ≡ ltb (turned k a) (turned k b)
  below_turned = elim (dec_lt a (2 ^ k)) [
    | yes l ↦ elim (dec_lt b (2 ^ k)) [
      | yes m ↦ rw ((below_plus a l).0, (below_plus b m).0, (below_plus a l).1, (below_plus b m).1) (same_test a b (turned k a) (turned k b) (λ h. omega (arith, turned_plus k a l, turned_plus k b m)) (λ h. omega (arith, turned_plus k a l, turned_plus k b m)))
      | no m ↦
          let n : 2 ^ k ≤ b = omega arith in
          rw ((below_plus a l).0, (below_minus b n hb).0) (sym (le-ltb (turned k a) (turned k b) (omega (arith, turned_plus k a l, turned_minus k b n, two-pow-succ k))))
    ]
    | no l ↦
        let i : 2 ^ k ≤ a = omega arith in
        elim (dec_lt b (2 ^ k)) [
          | yes m ↦ rw ((below_minus a i ha).0, (below_plus b m).0) (lt-ltb 0 (a % 2 ^ k + b % 2 ^ k) some ∙ sym (lt-ltb (turned k a) (turned k b) (omega (arith, turned_minus k a i, turned_plus k b m, two-pow-succ k))))
          | no m ↦
              let n : 2 ^ k ≤ b = omega arith in
              rw ((below_minus a i ha).0, (below_minus b n hb).0, (below_minus a i ha).1, (below_minus b n hb).1)
              (same_test (b - 2 ^ k) (a - 2 ^ k) (turned k a) (turned k b) (λ h. omega (arith, turned_minus k a i, turned_minus k b n, two-pow-succ k)) (λ h. omega (arith, turned_minus k a i, turned_minus k b n, two-pow-succ k)))
        ]
  ]

-- Of two f64 patterns, no NaN among them and not both zeros: the ordered forms compare as the numbers.
pub ordered_as_numbers : (a b : ℕ) → a < 2 ^ 64 → b < 2 ^ 64 → is_nan a ≡ false → is_nan b ≡ false → 0 < a % 2 ^ 63 + b % 2 ^ 63 → lt (of_bits binary64 a) (of_bits binary64 b) ≡ ltb (float_form a) (float_form b)
unfolding is_nan float_form turned
ordered_as_numbers a b ha hb na nb some =
    lt_bits binary64 a b (ltb-true 0 (2047 * 2 ^ 52) refl) (ltb-false (2047 * 2 ^ 52) (a % 2 ^ 63) na) (ltb-false (2047 * 2 ^ 52) (b % 2 ^ 63) nb) ∙ below_turned 63 a b ha hb some

-- and the two zeros, which are equal as numbers
pub zeros_equal : (eq (of_bits binary64 0) (of_bits binary64 (2 ^ 63)) ≡ true) × (lt (of_bits binary64 0) (of_bits binary64 (2 ^ 63)) ≡ false) × (lt (of_bits binary64 (2 ^ 63)) (of_bits binary64 0) ≡ false)
unfolding eq lt of_bits
zeros_equal = (refl, refl, refl)
