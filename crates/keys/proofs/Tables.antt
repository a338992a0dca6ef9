-- The table of a mixed key: what its limits give, and the masks of a list of parts with one more.
use mathlib.Core.Path.{◌≡◌, refl, sym, ap, ap₂, subst, ◌∙◌}
use mathlib.Core.Bool.{Bool, true, false, cond, ◌&&◌, ◌||◌}
use mathlib.Core.List.{List, [], ◌∷◌, ◌++◌}
use mathlib.Core.Logic.{◌≢◌}
use Prim.Native.Nat.{ℕ, ◌+◌, ◌-◌, ◌*◌, ◌%◌, ◌^◌, ◌≤◌, ◌<◌}
use native.Mathlib.Nat.{add-zero, zero-add, add_assoc, sub-zero, mod-eq_of_lt, zero-mod, mul_assoc, add-mul, one-mul}
use native.Mathlib.Decide.{ℕ_discrete}
use native.Mathlib.Omega.{arith}
use borrow.Author.Tests.{ne_eqb, eq-eqb, eqb-true, leb-true, le-leb, lt-leb}
use lib.Dec.{eqb, leb}
use lib.Pow.{pow_pos, pow-add, pow-lt, pow_mono, ones_split}
use Rattle.keys.specs.declared.kind.Kind.{Kind}
use Rattle.keys.specs.declared.kind.Table.{Table}
use Rattle.keys.specs.declared.mask.Masks.{Masks}
use Rattle.keys.specs.Parts.{unsigned, signed, reversed, Part, total, formed, form}
use Rattle.keys.specs.Table.{code_bits, code_sort, code_part, is_part, table_parts, table_fits, table_zero, kind_fits}
use Rattle.keys.specs.Ordered.{pair_form}
use Rattle.keys.specs.Masks.{Masked, Shifts}
use Rattle.keys.proofs.PartLaws.{lead_zero, form_cons, form_fits}

-- ---- Booleans
and_left : (x y : Bool) → (x && y) ≡ true → x ≡ true
and_left true y e = refl
and_left false y e = e

and_right : (x y : Bool) → (x && y) ≡ true → y ≡ true
and_right true y e = e
and_right false y e = absurd (let z : ◌≡◌ {A = ℕ} 0 1 = cc in omega arith)

-- `x && y` as it is computed: y is looked at only if x holds
pub and_then : {x y v : Bool} → x ≡ true → v ≡ y → v ≡ (x && y)
and_then {x} {y} {v} e f = f ∙ sym (ap (λ (z : Bool). z && y) e)

pub and_else : {x v : Bool} (y : Bool) → x ≡ false → v ≡ x → v ≡ (x && y)
and_else {x} {v} y e f = f ∙ e ∙ sym (ap (λ (z : Bool). z && y) e)

pub and_four : (x y z w : Bool) → (x && (y && (z && w))) ≡ (x && y && z && w)
and_four true true z w = refl
and_four true false z w = refl
and_four false y z w = refl

-- ---- one code
bits_by : (x y z w : Bool) (b : ℕ) → eqb b 8 ≡ x → eqb b 16 ≡ y → eqb b 32 ≡ z → eqb b 64 ≡ w → (x || (y || (z || w))) ≡ true → (8 ≤ b) × (b ≤ 64)
bits_by true y z w b p q r s e = (omega (arith, eqb-true b 8 p), omega (arith, eqb-true b 8 p))
bits_by false true z w b p q r s e = (omega (arith, eqb-true b 16 q), omega (arith, eqb-true b 16 q))
bits_by false false true w b p q r s e = (omega (arith, eqb-true b 32 r), omega (arith, eqb-true b 32 r))
bits_by false false false true b p q r s e = (omega (arith, eqb-true b 64 s), omega (arith, eqb-true b 64 s))
bits_by false false false false b p q r s e = absurd (let z : ◌≡◌ {A = ℕ} 0 1 = cc in omega arith)

pub part_bits : (c : ℕ) → is_part c ≡ true → (8 ≤ code_bits c) × (code_bits c ≤ 64)
unfolding is_part
part_bits c e =
    let b = code_bits c in
    bits_by (eqb b 8) (eqb b 16) (eqb b 32) (eqb b 64) b refl refl refl refl (and_right (leb (c % 8) 2) (eqb b 8 || (eqb b 16 || (eqb b 32 || eqb b 64))) e)

-- the bits that a part's ordered form flips
pub flip_reversed : (c b : ℕ) → c % 8 ≡ 2 → formed b (code_sort c) 0 ≡ 2 ^ b - 1
unfolding code_sort formed
flip_reversed c b e = ap (λ (x : Bool). formed b (cond x reversed (cond (eqb (c % 8) 1) signed unsigned)) 0) (eq-eqb (c % 8) 2 e) ∙ sub-zero (2 ^ b - 1)

pub flip_signed : (c b : ℕ) → c % 8 ≢ 2 → c % 8 ≡ 1 → 1 ≤ b → b ≤ 64 → formed b (code_sort c) 0 ≡ 1 * 2 ^ (b - 1) % 2 ^ 64
unfolding code_sort formed
flip_signed c b q e l m =
    ap₂ (λ (x y : Bool). formed b (cond x reversed (cond y signed unsigned)) 0) (ne_eqb (c % 8) 2 q) (eq-eqb (c % 8) 1 e)
    ∙ ap (λ (n : ℕ). n % 2 ^ b) (zero-add (2 ^ (b - 1))) ∙ mod-eq_of_lt (pow-lt {i = b - 1} {j = b} (omega arith))
    ∙ sym (ap (λ (n : ℕ). n % 2 ^ 64) (one-mul (2 ^ (b - 1))) ∙ mod-eq_of_lt (pow-lt {i = b - 1} {j = 64} (omega arith)))

pub flip_plain : (c b : ℕ) → c % 8 ≢ 2 → c % 8 ≢ 1 → formed b (code_sort c) 0 ≡ 0
unfolding code_sort formed
flip_plain c b q p = ap₂ (λ (x y : Bool). formed b (cond x reversed (cond y signed unsigned)) 0) (ne_eqb (c % 8) 2 q) (ne_eqb (c % 8) 1 p)

-- the test as the code makes it
pub no_sort : (c : ℕ) → 2 < c % 8 → is_part c ≡ false
unfolding is_part
no_sort c l = ap (λ (x : Bool). x && (eqb (code_bits c) 8 || (eqb (code_bits c) 16 || (eqb (code_bits c) 32 || eqb (code_bits c) 64)))) (lt-leb (c % 8) 2 l)

pub by_bits : (c b : ℕ) → c % 8 ≤ 2 → b ≡ code_bits c → is_part c ≡ (eqb b 8 || (eqb b 16 || (eqb b 32 || eqb b 64)))
unfolding is_part
by_bits c b l e =
    ap₂ (λ (x : Bool) (n : ℕ). x && (eqb n 8 || (eqb n 16 || (eqb n 32 || eqb n 64)))) (le-leb (c % 8) 2 l) (sym e)

pub part_none : is_part 0 ≡ false
unfolding is_part
part_none = refl

-- ---- a table within the limits
pub record Fit (t : Table) : Type 0 where
  pub one : is_part t.first ≡ true
  pub two : is_part t.second ≡ true
  pub gap : t.third ≡ 0 → t.fourth ≡ 0
  pub three : t.third ≢ 0 → is_part t.third ≡ true
  pub four : t.third ≢ 0 → t.fourth ≢ 0 → is_part t.fourth ≡ true
  pub sum : total (table_parts t) ≤ 128

third_by : (x : Bool) (p q r : Bool) → x ≡ false → cond x p (q && r) ≡ true → (q ≡ true) × (r ≡ true)
third_by false p q r f e = (and_left q r e, and_right q r e)
third_by true p q r f e = absurd (let z : ◌≡◌ {A = ℕ} 0 1 = cc in omega arith)

or_right : (x y : Bool) → x ≡ false → (x || y) ≡ true → y ≡ true
or_right false y f e = e
or_right true y f e = absurd (let z : ◌≡◌ {A = ℕ} 0 1 = cc in omega arith)

pub fit : (t : Table) → table_fits t ≡ true → Fit t
unfolding table_fits
fit t e =
    let p = is_part t.first in
    let q = is_part t.second in
    let r = cond (eqb t.third 0) (eqb t.fourth 0) (is_part t.third && (eqb t.fourth 0 || is_part t.fourth)) in
    let s = leb (total (table_parts t)) 128 in
    let pqr = and_left (p && q && r) s e in
    let pq = and_left (p && q) r pqr in
    let third : t.third ≢ 0 → (is_part t.third ≡ true) × ((eqb t.fourth 0 || is_part t.fourth) ≡ true) =
    λ n. third_by (eqb t.third 0) (eqb t.fourth 0) (is_part t.third) (eqb t.fourth 0 || is_part t.fourth) (ne_eqb t.third 0 n) (and_right (p && q) r pqr) in
    record {
      one = and_left p q pq;
      two = and_right p q pq;
      gap = λ z. eqb-true t.fourth 0 (sym (ap (λ (x : Bool). cond x (eqb t.fourth 0) (is_part t.third && (eqb t.fourth 0 || is_part t.fourth))) (eq-eqb t.third 0 z)) ∙ and_right (p && q) r pqr);
      three = λ n. (third n).0;
      four = λ n m. or_right (eqb t.fourth 0) (is_part t.fourth) (ne_eqb t.fourth 0 m) (third n).1;
      sum = leb-true (total (table_parts t)) 128 (and_right (p && q && r) s e);
    }

-- the parts of a table, by how many there are
module _ (t : Table) where
  pub parts_two : t.third ≡ 0 → table_parts t ≡ code_part t.first ∷ code_part t.second ∷ []
  unfolding table_parts
  parts_two e = ap (λ (x : Bool). code_part t.first ∷ code_part t.second ∷ cond x [] (code_part t.third ∷ cond (eqb t.fourth 0) [] (code_part t.fourth ∷ []))) (eq-eqb t.third 0 e)

  pub parts_three : t.third ≢ 0 → t.fourth ≡ 0 → table_parts t ≡ code_part t.first ∷ code_part t.second ∷ code_part t.third ∷ []
  unfolding table_parts
  parts_three n e =
      ap₂ (λ (x y : Bool). code_part t.first ∷ code_part t.second ∷ cond x [] (code_part t.third ∷ cond y [] (code_part t.fourth ∷ []))) (ne_eqb t.third 0 n) (eq-eqb t.fourth 0 e)

  pub parts_four : t.third ≢ 0 → t.fourth ≢ 0 → table_parts t ≡ code_part t.first ∷ code_part t.second ∷ code_part t.third ∷ code_part t.fourth ∷ []
  unfolding table_parts
  parts_four n m =
      ap₂ (λ (x y : Bool). code_part t.first ∷ code_part t.second ∷ cond x [] (code_part t.third ∷ cond y [] (code_part t.fourth ∷ []))) (ne_eqb t.third 0 n) (ne_eqb t.fourth 0 m)

  pub bits_two : Fit t → code_bits t.first + code_bits t.second ≤ 128
  unfolding table_parts code_part total
  bits_two f = omega (arith, f.sum)

  pub sum_two : t.third ≡ 0 → total (table_parts t) ≡ code_bits t.first + code_bits t.second
  unfolding code_part total
  sum_two e = ap total (parts_two e) ∙ omega arith

  pub sum_three : t.third ≢ 0 → t.fourth ≡ 0 → total (table_parts t) ≡ code_bits t.first + code_bits t.second + code_bits t.third
  unfolding code_part total
  sum_three n e = ap total (parts_three n e) ∙ omega arith

  pub sum_four : t.third ≢ 0 → t.fourth ≢ 0 → total (table_parts t) ≡ code_bits t.first + code_bits t.second + code_bits t.third + code_bits t.fourth
  unfolding code_part total
  sum_four n m = ap total (parts_four n m) ∙ omega arith

  pub bits_three : Fit t → t.third ≢ 0 → code_bits t.first + code_bits t.second + code_bits t.third ≤ 128
  bits_three f n = elim (ℕ_discrete t.fourth 0) [
    | yes e ↦ omega (arith, f.sum, sum_three n e)
    | no m ↦ omega (arith, f.sum, sum_four n m)
  ]

  -- the test of the entries after the second
  abbrev pub third : Bool
  third = cond (eqb t.third 0) (eqb t.fourth 0) (is_part t.third && (eqb t.fourth 0 || is_part t.fourth))

  third_none : t.third ≡ 0 → third ≡ eqb t.fourth 0
  third_none e = ap (λ (x : Bool). cond x (eqb t.fourth 0) (is_part t.third && (eqb t.fourth 0 || is_part t.fourth))) (eq-eqb t.third 0 e)

  third_some : t.third ≢ 0 → third ≡ (is_part t.third && (eqb t.fourth 0 || is_part t.fourth))
  third_some n = ap (λ (x : Bool). cond x (eqb t.fourth 0) (is_part t.third && (eqb t.fourth 0 || is_part t.fourth))) (ne_eqb t.third 0 n)

  no_bits : code_bits 0 ≡ 0
  unfolding code_bits
  no_bits = refl

  -- an entry that is not used has no bits, so that all four may be added
  pub all_bits : third ≡ true → total (table_parts t) ≡ code_bits t.first + code_bits t.second + code_bits t.third + code_bits t.fourth
  all_bits e = elim (ℕ_discrete t.third 0) [
    | yes z ↦ (let f : t.fourth ≡ 0 = eqb-true t.fourth 0 (sym (third_none z) ∙ e) in sum_two z ∙ omega (arith, ap code_bits z ∙ no_bits, ap code_bits f ∙ no_bits))
    | no n ↦ elim (ℕ_discrete t.fourth 0) [
      | yes f ↦ sum_three n f ∙ omega (arith, ap code_bits f ∙ no_bits)
      | no m ↦ sum_four n m
    ]
  ]

  -- the tests of a table in the code's order
  pub fits_all : table_fits t ≡ (is_part t.first && is_part t.second && third && leb (code_bits t.first + code_bits t.second + code_bits t.third + code_bits t.fourth) 128)
  unfolding table_fits
  fits_all = under (is_part t.first && is_part t.second) third _ _ (λ e. ap (λ (n : ℕ). leb n 128) (all_bits e))
    where
      under : (x y z w : Bool) → (y ≡ true → z ≡ w) → (x && y && z) ≡ (x && y && w)
      under true true z w h = h refl
      under true false z w h = refl
      under false y z w h = refl

  -- and in turn, as far as they decide it
  pub unfit_first : is_part t.first ≡ false → table_fits t ≡ false
  unfolding table_fits
  unfit_first e = ap (λ (x : Bool). x && is_part t.second && third && leb (total (table_parts t)) 128) e

  pub unfit_second : is_part t.first ≡ true → is_part t.second ≡ false → table_fits t ≡ false
  unfolding table_fits
  unfit_second e f = ap₂ (λ (x y : Bool). x && y && third && leb (total (table_parts t)) 128) e f

  module _ (one : is_part t.first ≡ true) (two : is_part t.second ≡ true) where
    both : table_fits t ≡ (third && leb (total (table_parts t)) 128)
    unfolding table_fits
    both = ap₂ (λ (x y : Bool). x && y && third && leb (total (table_parts t)) 128) one two

    pub unfit_gap : t.third ≡ 0 → t.fourth ≢ 0 → table_fits t ≡ false
    unfit_gap e n = both ∙ ap (λ (x : Bool). x && leb (total (table_parts t)) 128) (third_none e ∙ ne_eqb t.fourth 0 n)

    pub fits_two : t.third ≡ 0 → t.fourth ≡ 0 → table_fits t ≡ leb (code_bits t.first + code_bits t.second) 128
    fits_two e f = both ∙ ap₂ (λ (x : Bool) (n : ℕ). x && leb n 128) (third_none e ∙ eq-eqb t.fourth 0 f) (sum_two e)

    pub unfit_third : t.third ≢ 0 → is_part t.third ≡ false → table_fits t ≡ false
    unfit_third n e =
        both ∙ ap (λ (x : Bool). x && leb (total (table_parts t)) 128) (third_some n ∙ ap (λ (x : Bool). x && (eqb t.fourth 0 || is_part t.fourth)) e)

    module _ (n : t.third ≢ 0) (three : is_part t.third ≡ true) where
      third_is : third ≡ (eqb t.fourth 0 || is_part t.fourth)
      third_is = third_some n ∙ ap (λ (x : Bool). x && (eqb t.fourth 0 || is_part t.fourth)) three

      pub fits_three : t.fourth ≡ 0 → table_fits t ≡ leb (code_bits t.first + code_bits t.second + code_bits t.third) 128
      fits_three f = both ∙ ap₂ (λ (x : Bool) (k : ℕ). x && leb k 128) (third_is ∙ ap (λ (x : Bool). x || is_part t.fourth) (eq-eqb t.fourth 0 f)) (sum_three n f)

      module _ (m : t.fourth ≢ 0) where
        fourth : table_fits t ≡ (is_part t.fourth && leb (code_bits t.first + code_bits t.second + code_bits t.third + code_bits t.fourth) 128)
        fourth = both ∙ ap₂ (λ (x : Bool) (k : ℕ). x && leb k 128) (third_is ∙ ap (λ (x : Bool). x || is_part t.fourth) (ne_eqb t.fourth 0 m)) (sum_four n m)

        pub unfit_fourth : is_part t.fourth ≡ false → table_fits t ≡ false
        unfit_fourth e = fourth ∙ ap (λ (x : Bool). x && leb (code_bits t.first + code_bits t.second + code_bits t.third + code_bits t.fourth) 128) e

        pub fits_four : is_part t.fourth ≡ true → table_fits t ≡ leb (code_bits t.first + code_bits t.second + code_bits t.third + code_bits t.fourth) 128
        fits_four e = fourth ∙ ap (λ (x : Bool). x && leb (code_bits t.first + code_bits t.second + code_bits t.third + code_bits t.fourth) 128) e

-- ---- one more part, below the others
pub total_more : (ps : List Part) (p : Part) → total (ps ++ p ∷ []) ≡ total ps + p.bits
unfolding total
total_more [] p = add-zero p.bits ∙ sym (zero-add p.bits)
total_more (q ∷ ps) p = ap (λ (n : ℕ). q.bits + n) (total_more ps p) ∙ sym (add_assoc q.bits (total ps) p.bits)

-- the flipped bits of some parts are those of the first, and below them those of the rest
pub flips_cons : (p : Part) (ps : List Part) → form (p ∷ ps) 0 ≡ formed p.bits p.sort 0 * 2 ^ total ps + form ps 0
flips_cons p ps = form_cons p ps 0 ∙ ap₂ (λ (x y : ℕ). x * 2 ^ total ps + form ps y) (lead_zero p ps) (zero-mod (2 ^ total ps))

pub flips_more : (ps : List Part) (p : Part) → form (ps ++ p ∷ []) 0 ≡ form ps 0 * 2 ^ p.bits + formed p.bits p.sort 0
unfolding form total
flips_more [] p = flips_cons p [] ∙ omega arith
flips_more (q ∷ ps) p =
    let f = formed q.bits q.sort 0 in
    let g = form ps 0 in
    let x = formed p.bits p.sort 0 in
    let top : f * 2 ^ total (ps ++ p ∷ []) ≡ f * 2 ^ total ps * 2 ^ p.bits = ap (λ (n : ℕ). f * 2 ^ n) (total_more ps p) ∙ ap (λ (n : ℕ). f * n) (pow-add 2 (total ps) p.bits) ∙ sym (mul_assoc f (2 ^ total ps) (2 ^ p.bits)) in
    let whole : form (q ∷ ps) 0 * 2 ^ p.bits ≡ f * 2 ^ total ps * 2 ^ p.bits + g * 2 ^ p.bits = ap (λ (n : ℕ). n * 2 ^ p.bits) (flips_cons q ps) ∙ add-mul (f * 2 ^ total ps) g (2 ^ p.bits) in
    flips_cons q (ps ++ p ∷ []) ∙ ap₂ ◌+◌ top (flips_more ps p) ∙ sym (add_assoc (f * 2 ^ total ps * 2 ^ p.bits) (g * 2 ^ p.bits) x) ∙ ap (λ (n : ℕ). n + x) (sym whole)

-- ---- masks
abbrev pub no_masks : Masks
no_masks = record { full = record { 0 = 0; 1 = 0 }; flip = record { 0 = 0; 1 = 0 } }

pub masked_none : Masked no_masks []
unfolding total form
masked_none = record { full = refl; flip = refl }

pub masked_more : (m r : Masks) (ps : List Part) (c : ℕ) → Masked m ps
    → pair_form r.full.0 r.full.1 ≡ pair_form m.full.0 m.full.1 * 2 ^ code_bits c + (2 ^ code_bits c - 1)
    → pair_form r.flip.0 r.flip.1 ≡ pair_form m.flip.0 m.flip.1 * 2 ^ code_bits c + formed (code_bits c) (code_sort c) 0
    → Masked r (ps ++ code_part c ∷ [])
unfolding code_part
masked_more m r ps c h full flip = record {
  full = full ∙ ap (λ (n : ℕ). n * 2 ^ code_bits c + (2 ^ code_bits c - 1)) h.full ∙ sym (ap (λ (n : ℕ). 2 ^ n - 1) (total_more ps (code_part c)) ∙ ones_split (total ps) (code_bits c));
  flip = flip ∙ ap (λ (n : ℕ). n * 2 ^ code_bits c + formed (code_bits c) (code_sort c) 0) h.flip ∙ sym (flips_more ps (code_part c));
}

-- while the parts have room for one more, so have their masks
module _ (m : Masks) (ps : List Part) (b : ℕ) (h : Masked m ps) (l : total ps + b ≤ 128) where
  room : 2 ^ total ps ≤ 2 ^ (128 - b)
  room = pow_mono (omega arith)

  pub full_room : pair_form m.full.0 m.full.1 < 2 ^ (128 - b)
  full_room = omega (arith, room, h.full, pow_pos (total ps))

  pub flip_room : pair_form m.flip.0 m.flip.1 < 2 ^ (128 - b)
  flip_room = omega (arith, room, h.flip, form_fits ps 0)

-- what `shifted` is called with
pub to_shift : (h l b x c : ℕ) → b ≡ code_bits c → is_part c ≡ true → pair_form h l < 2 ^ (128 - code_bits c) → x < 2 ^ code_bits c → Shifts h l b x
to_shift h l b x c e p room under =
    let w = part_bits c p in
    subst (λ n. Shifts h l n x) (sym e) (record { some = omega (arith, w.0); most = w.1; under = under; room = room })

pub ones_under : (x b c : ℕ) → x ≡ 2 ^ b - 1 → b ≡ code_bits c → x < 2 ^ code_bits c
ones_under x b c e f = subst (λ n. x < 2 ^ n) f (omega (arith, pow_pos b))

-- ---- a kind
module _ (kind : Kind) where
  pub kind_tested : kind.number ≢ 5
      → kind_fits kind ≡ (leb 1 kind.number && leb kind.number 6 && (eqb kind.table.first 0 && eqb kind.table.second 0 && eqb kind.table.third 0 && eqb kind.table.fourth 0))
  unfolding kind_fits table_zero
  kind_tested q = ap (λ (x : Bool). leb 1 kind.number && leb kind.number 6 && cond x (table_fits kind.table) (table_zero kind.table)) (ne_eqb kind.number 5 q)

  pub kind_mixed : kind.number ≡ 5 → kind_fits kind ≡ table_fits kind.table
  unfolding kind_fits
  kind_mixed e =
      ap₂ (λ (x y : Bool). x && y && cond (eqb kind.number 5) (table_fits kind.table) (table_zero kind.table)) (le-leb 1 kind.number (omega arith)) (le-leb kind.number 6 (omega arith))
      ∙ ap (λ (x : Bool). cond x (table_fits kind.table) (table_zero kind.table)) (eq-eqb kind.number 5 e)

  pub kind_none : kind.number ≡ 0 → kind_fits kind ≡ false
  unfolding kind_fits
  kind_none e = ap (λ (x : Bool). x && leb kind.number 6 && cond (eqb kind.number 5) (table_fits kind.table) (table_zero kind.table)) (lt-leb 1 kind.number (omega arith))

  pub kind_past : kind.number ≢ 0 → 6 < kind.number → kind_fits kind ≡ false
  unfolding kind_fits
  kind_past n l = ap₂ (λ (x y : Bool). x && y && cond (eqb kind.number 5) (table_fits kind.table) (table_zero kind.table)) (le-leb 1 kind.number (omega arith)) (lt-leb kind.number 6 l)

  module _ (n : kind.number ≢ 0) (l : kind.number ≤ 6) where
    kind_rest : kind_fits kind ≡ cond (eqb kind.number 5) (table_fits kind.table) (table_zero kind.table)
    unfolding kind_fits
    kind_rest = ap₂ (λ (x y : Bool). x && y && cond (eqb kind.number 5) (table_fits kind.table) (table_zero kind.table)) (le-leb 1 kind.number (omega arith)) (le-leb kind.number 6 l)

    pub kind_other : kind.number ≢ 5 → kind_fits kind ≡ (eqb kind.table.first 0 && eqb kind.table.second 0 && eqb kind.table.third 0 && eqb kind.table.fourth 0)
    unfolding table_zero
    kind_other q = kind_rest ∙ ap (λ (x : Bool). cond x (table_fits kind.table) (table_zero kind.table)) (ne_eqb kind.number 5 q)
