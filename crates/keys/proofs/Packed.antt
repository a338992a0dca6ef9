-- A mixed key made from its parts. What this ends in: parts that fit are read back as they were (`unpack_pack`), a key is its parts
-- packed (`pack_unpack`), a packed key is well-formed (`packed_well`) and ordered by its parts' ordered forms (`packed_ordered`).
use mathlib.Core.Path.{◌≡◌, refl, sym, ap, ap₂, subst, ◌∙◌}
use mathlib.Core.Bool.{Bool, true, false, cond, ◌&&◌, true≢false}
use mathlib.Core.List.{List, [], ◌∷◌, ◌++◌}
use mathlib.Core.Logic.{◌≢◌}
use Prim.Native.Nat.{ℕ, ◌+◌, ◌-◌, ◌*◌, ◌/◌, ◌%◌, ◌^◌, ◌≤◌, ◌<◌}
use native.Mathlib.Nat.{mod-lt, mod-one, div-one, mod-eq_of_lt, add_comm, add-mul, mul_assoc, mul-one, add-zero, one-mul}
use native.Mathlib.Decide.{ℕ_discrete}
use native.Mathlib.Omega.{arith}
use borrow.Author.Tests.{ne_eqb, eq-eqb, ltb-true, lt-ltb}
use lib.Arith.{lt-one}
use lib.Dec.{eqb, ltb}
use lib.Pow.{pow_pos, pow-add, pow-lt, pow_mono, shr-shr, mod-mod-pow, field as middle}
use Rattle.keys.specs.declared.kind.Table.{Table}
use Rattle.keys.specs.declared.packing.Parts.{Parts}
use Rattle.keys.specs.Parts.{Part, total, field, fields, forms, joined, form}
use Rattle.keys.specs.Table.{code_bits, code_part, table_parts, table_fits, mixed}
use Rattle.keys.specs.Ordered.{width, pair_form, ordered, well_formed}
use Rattle.keys.specs.Masks.{Shifts}
use Rattle.keys.specs.Packing.{part_fits, parts_fit, used_parts, packed_of, as_parts, parts_of}
use Rattle.keys.proofs.Order.{pair_fits}
use Rattle.keys.proofs.PartLaws.{Parted, none, some, joined_fits, fields_joined, joined_fields, form_joined}
use Rattle.keys.proofs.Ordered.{mixed_fit, width_mixed, well_formed_mixed, ordered_mixed}
use Rattle.keys.proofs.Tables.{Fit, fit, part_bits, total_more, parts_two, parts_three, parts_four, sum_two, sum_three, sum_four}

-- ---- any list of parts
-- one more part, below the others
pub joined_more : {ps : List Part} {xs : List ℕ} → Parted ps xs → (q : Part) (y : ℕ) → joined (ps ++ q ∷ []) (xs ++ y ∷ []) ≡ joined ps xs * 2 ^ q.bits + y
unfolding joined total
joined_more none q y = omega arith
joined_more (some {p} {ps} {x} {xs} l h) q y =
    let top : x * 2 ^ total (ps ++ q ∷ []) ≡ x * 2 ^ total ps * 2 ^ q.bits = ap (λ (n : ℕ). x * 2 ^ n) (total_more ps q) ∙ ap (λ (n : ℕ). x * n) (pow-add 2 (total ps) q.bits) ∙ sym (mul_assoc x (2 ^ total ps) (2 ^ q.bits)) in
    omega (arith, top, joined_more h q y, add-mul (x * 2 ^ total ps) (joined ps xs) (2 ^ q.bits))

pub fields_more : (ps : List Part) (p : Part) (k : ℕ) → fields (ps ++ p ∷ []) k ≡ fields ps (k / 2 ^ p.bits) ++ k % 2 ^ p.bits ∷ []
unfolding fields field total
fields_more [] p k = ap (λ (n : ℕ). n % 2 ^ p.bits ∷ []) (div-one k)
fields_more (q ∷ ps) p k =
    let t = total ps in
    let b = p.bits in
    let n = total (ps ++ p ∷ []) in
    let first : k / 2 ^ n ≡ k / 2 ^ b / 2 ^ t = ap (λ (m : ℕ). k / 2 ^ m) (total_more ps p ∙ add_comm t b) ∙ sym (shr-shr k b t) in
    let low : k % 2 ^ n ≡ k % 2 ^ (t + b) = ap (λ (m : ℕ). k % 2 ^ m) (total_more ps p) in
    let rest : fields (ps ++ p ∷ []) (k % 2 ^ n) ≡ fields ps (k / 2 ^ b % 2 ^ t) ++ k % 2 ^ b ∷ [] = ap (fields (ps ++ p ∷ [])) low ∙ fields_more ps p (k % 2 ^ (t + b)) ∙ ap₂ (λ (m l : ℕ). fields ps m ++ l ∷ []) (middle k t b) (mod-mod-pow k t b) in
    ap₂ (λ (y : ℕ) (ys : List ℕ). y % 2 ^ q.bits ∷ ys) first rest

-- ---- a table within its limits
pub record Limits (t : Table) : Type 0 where
  pub one : code_bits t.first ≤ 64
  pub two : code_bits t.second ≤ 64
  pub three : code_bits t.third ≤ 64
  pub four : code_bits t.fourth ≤ 64
  pub sum : code_bits t.first + code_bits t.second + code_bits t.third + code_bits t.fourth ≤ 128

-- where there is no part there are no bits
no_bits : {c : ℕ} → c ≡ 0 → code_bits c ≡ 0
unfolding code_bits
no_bits e = ap code_bits e

module _ (t : Table) (h : table_fits t ≡ true) where
  known : Fit t
  known = fit t h

  -- two, three or four parts
  pub by_count : {P : Type 0} → (t.third ≡ 0 → t.fourth ≡ 0 → P) → (t.third ≢ 0 → t.fourth ≡ 0 → P) → (t.third ≢ 0 → t.fourth ≢ 0 → P) → P
  by_count two three four = elim (ℕ_discrete t.third 0) [
    | yes e ↦ two e (known.gap e)
    | no n ↦ elim (ℕ_discrete t.fourth 0) [ yes e ↦ three n e | no m ↦ four n m ]
  ]

  pub limits : Limits t
  limits =
      let p = (part_bits t.first known.one).1 in
      let q = (part_bits t.second known.two).1 in
      let s = known.sum in
      by_count
      (λ e g. record { one = p; two = q; three = omega (arith, no_bits e); four = omega (arith, no_bits g); sum = omega (arith, s, sum_two t e, no_bits e, no_bits g) })
      (λ n g. record { one = p; two = q; three = (part_bits t.third (known.three n)).1; four = omega (arith, no_bits g); sum = omega (arith, s, sum_three t n g, no_bits g) })
      (λ n m. record { one = p; two = q; three = (part_bits t.third (known.three n)).1; four = (part_bits t.fourth (known.four n m)).1; sum = omega (arith, s, sum_four t n m) })

-- the parts that a table has, by how many there are
module _ (t : Table) (x : Parts) where
  pub used_two : t.third ≡ 0 → used_parts t x ≡ x.first ∷ x.second ∷ []
  unfolding used_parts
  used_two e = ap (λ (b : Bool). x.first ∷ x.second ∷ cond b [] (x.third ∷ cond (eqb t.fourth 0) [] (x.fourth ∷ []))) (eq-eqb t.third 0 e)

  pub used_three : t.third ≢ 0 → t.fourth ≡ 0 → used_parts t x ≡ x.first ∷ x.second ∷ x.third ∷ []
  unfolding used_parts
  used_three n e = ap₂ (λ (b c : Bool). x.first ∷ x.second ∷ cond b [] (x.third ∷ cond c [] (x.fourth ∷ []))) (ne_eqb t.third 0 n) (eq-eqb t.fourth 0 e)

  pub used_four : t.third ≢ 0 → t.fourth ≢ 0 → used_parts t x ≡ x.first ∷ x.second ∷ x.third ∷ x.fourth ∷ []
  unfolding used_parts
  used_four n m = ap₂ (λ (b c : Bool). x.first ∷ x.second ∷ cond b [] (x.third ∷ cond c [] (x.fourth ∷ []))) (ne_eqb t.third 0 n) (ne_eqb t.fourth 0 m)

-- ---- parts that fit
pub record Fitting (t : Table) (x : Parts) : Type 0 where
  pub table : table_fits t ≡ true
  pub first : x.first < 2 ^ code_bits t.first
  pub second : x.second < 2 ^ code_bits t.second
  pub third : x.third < 2 ^ code_bits t.third
  pub fourth : x.fourth < 2 ^ code_bits t.fourth

pub part_fits_lem : (c x : ℕ) → part_fits c x ≡ true → x < 2 ^ code_bits c
unfolding part_fits
part_fits_lem c x e = ltb-true x (2 ^ code_bits c) e

pub fits_part : (c x : ℕ) → x < 2 ^ code_bits c → part_fits c x ≡ true
unfolding part_fits
fits_part c x l = lt-ltb x (2 ^ code_bits c) l

and_left : (x y : Bool) → (x && y) ≡ true → x ≡ true
and_left true y e = refl
and_left false y e = e

and_right : (x y : Bool) → (x && y) ≡ true → y ≡ true
and_right true y e = e
and_right false y e = absurd (true≢false (sym e))

module _ (t : Table) (x : Parts) where
  -- the tests in the code's order
  pub fits_by : {a b c d e : Bool} → table_fits t ≡ a → part_fits t.first x.first ≡ b → part_fits t.second x.second ≡ c
      → part_fits t.third x.third ≡ d → part_fits t.fourth x.fourth ≡ e → parts_fit t x ≡ (a && b && c && d && e)
  unfolding parts_fit
  fits_by p q r s u = ap₂ ◌&&◌ (ap₂ ◌&&◌ (ap₂ ◌&&◌ (ap₂ ◌&&◌ p q) r) s) u

  pub fitting : parts_fit t x ≡ true → Fitting t x
  unfolding parts_fit
  fitting h =
      let a = table_fits t in
      let b = part_fits t.first x.first in
      let c = part_fits t.second x.second in
      let d = part_fits t.third x.third in
      let e = part_fits t.fourth x.fourth in
      let abcd = and_left (a && b && c && d) e h in
      let abc = and_left (a && b && c) d abcd in
      let ab = and_left (a && b) c abc in
      record {
        table = and_left a b ab;
        first = part_fits_lem t.first x.first (and_right a b ab);
        second = part_fits_lem t.second x.second (and_right (a && b) c abc);
        third = part_fits_lem t.third x.third (and_right (a && b && c) d abcd);
        fourth = part_fits_lem t.fourth x.fourth (and_right (a && b && c && d) e h);
      }

  pub packed_fit : parts_fit t x ≡ true → packed_of t x ≡ joined (table_parts t) (used_parts t x)
  unfolding packed_of
  packed_fit h = ap (λ (b : Bool). cond b (joined (table_parts t) (used_parts t x)) 0) h

  pub packed_unfit : parts_fit t x ≡ false → packed_of t x ≡ 0
  unfolding packed_of
  packed_unfit h = ap (λ (b : Bool). cond b (joined (table_parts t) (used_parts t x)) 0) h

-- no part fits but 0 where there is no code
only_zero : {c x : ℕ} → c ≡ 0 → x < 2 ^ code_bits c → x ≡ 0
only_zero {c} {x} e l = lt-one (subst (λ n. x < 2 ^ n) (no_bits e) l)

module _ (t : Table) (x : Parts) (h : Fitting t x) where
  pub parted : Parted (table_parts t) (used_parts t x)
  unfolding code_part
  parted = by_count t h.table
      (λ e g. rw (parts_two t e, used_two t x e) (some h.first (some h.second none)))
      (λ n g. rw (parts_three t n g, used_three t x n g) (some h.first (some h.second (some h.third none))))
      (λ n m. rw (parts_four t n m, used_four t x n m) (some h.first (some h.second (some h.third (some h.fourth none)))))

  used_back : as_parts (used_parts t x) ≡ x
  unfolding as_parts
  used_back = by_count t h.table
      (λ e g. ap as_parts (used_two t x e) ∙ ap₂ {C = Parts} (λ (c d : ℕ). record { first = x.first; second = x.second; third = c; fourth = d }) (sym (only_zero e h.third)) (sym (only_zero g h.fourth)))
      (λ n g. ap as_parts (used_three t x n g) ∙ ap {B = Parts} (λ (d : ℕ). record { first = x.first; second = x.second; third = x.third; fourth = d }) (sym (only_zero g h.fourth)))
      (λ n m. ap as_parts (used_four t x n m))

-- ---- the parts of a packed number
module _ (t : Table) where
  pub parts_fit_lem : (k : ℕ) → table_fits t ≡ true → parts_of t k ≡ as_parts (fields (table_parts t) k)
  unfolding parts_of
  parts_fit_lem k h = ap (λ (b : Bool). as_parts (cond b (fields (table_parts t) k) [])) h

  pub parts_unfit : (k : ℕ) → table_fits t ≡ false → parts_of t k ≡ as_parts []
  unfolding parts_of
  parts_unfit k h = ap (λ (b : Bool). as_parts (cond b (fields (table_parts t) k) [])) h

  used_fields : (k : ℕ) → table_fits t ≡ true → used_parts t (as_parts (fields (table_parts t) k)) ≡ fields (table_parts t) k
  unfolding as_parts fields
  used_fields k h = by_count t h
      (λ e g. rw (parts_two t e) (used_two t _ e))
      (λ n g. rw (parts_three t n g) (used_three t _ n g))
      (λ n m. rw (parts_four t n m) (used_four t _ n m))

fields_one : (p : Part) (k : ℕ) → fields (p ∷ []) k ≡ k % 2 ^ p.bits ∷ []
unfolding fields
fields_one p k = fields_more [] p k

fields_two : (p q : Part) (k : ℕ) → fields (p ∷ q ∷ []) k ≡ k / 2 ^ q.bits % 2 ^ p.bits ∷ k % 2 ^ q.bits ∷ []
fields_two p q k = fields_more (p ∷ []) q k ∙ ap (λ (xs : List ℕ). xs ++ k % 2 ^ q.bits ∷ []) (fields_one p (k / 2 ^ q.bits))

fields_three : (p q r : Part) (k : ℕ) → fields (p ∷ q ∷ r ∷ []) k ≡ k / 2 ^ r.bits / 2 ^ q.bits % 2 ^ p.bits ∷ k / 2 ^ r.bits % 2 ^ q.bits ∷ k % 2 ^ r.bits ∷ []
fields_three p q r k = fields_more (p ∷ q ∷ []) r k ∙ ap (λ (xs : List ℕ). xs ++ k % 2 ^ r.bits ∷ []) (fields_two p q (k / 2 ^ r.bits))

fields_four : (p q r s : Part) (k : ℕ) → fields (p ∷ q ∷ r ∷ s ∷ []) k
    ≡ k / 2 ^ s.bits / 2 ^ r.bits / 2 ^ q.bits % 2 ^ p.bits ∷ k / 2 ^ s.bits / 2 ^ r.bits % 2 ^ q.bits ∷ k / 2 ^ s.bits % 2 ^ r.bits ∷ k % 2 ^ s.bits ∷ []
fields_four p q r s k = fields_more (p ∷ q ∷ r ∷ []) s k ∙ ap (λ (xs : List ℕ). xs ++ k % 2 ^ s.bits ∷ []) (fields_three p q r (k / 2 ^ s.bits))

-- parts of so many bits, read from the lowest up as the code does; there is none where there are no bits
abbrev read : ℕ → ℕ → ℕ → ℕ → ℕ → Parts
read a b c d k = record {
  first = k / 2 ^ d / 2 ^ c / 2 ^ b % 2 ^ a;
  second = k / 2 ^ d / 2 ^ c % 2 ^ b;
  third = k / 2 ^ d % 2 ^ c;
  fourth = k % 2 ^ d;
}

read_three : (a b c k : ℕ) → read a b c 0 k ≡ record { first = k / 2 ^ c / 2 ^ b % 2 ^ a; second = k / 2 ^ c % 2 ^ b; third = k % 2 ^ c; fourth = 0 }
read_three a b c k =
    ap₂ {C = Parts} (λ (m n : ℕ). record { first = m / 2 ^ c / 2 ^ b % 2 ^ a; second = m / 2 ^ c % 2 ^ b; third = m % 2 ^ c; fourth = n }) (div-one k) (mod-one k)

read_two : (a b k : ℕ) → read a b 0 0 k ≡ record { first = k / 2 ^ b % 2 ^ a; second = k % 2 ^ b; third = 0; fourth = 0 }
read_two a b k =
    read_three a b 0 k
    ∙ ap₂ {C = Parts} (λ (m n : ℕ). record { first = m / 2 ^ b % 2 ^ a; second = m % 2 ^ b; third = n; fourth = 0 }) (div-one k) (mod-one k)

pub parts_read : (t : Table) (k : ℕ) → table_fits t ≡ true → parts_of t k ≡ read (code_bits t.first) (code_bits t.second) (code_bits t.third) (code_bits t.fourth) k
unfolding as_parts code_part
parts_read t k h =
    let a = code_bits t.first in
    let b = code_bits t.second in
    let c = code_bits t.third in
    parts_fit_lem t k h
    ∙ by_count t h
    (λ e g. ap (λ (ps : List Part). as_parts (fields ps k)) (parts_two t e) ∙ ap as_parts (fields_two (code_part t.first) (code_part t.second) k)
    ∙ sym (ap₂ (λ (m n : ℕ). read a b m n k) (no_bits e) (no_bits g) ∙ read_two a b k))
    (λ n g. ap (λ (ps : List Part). as_parts (fields ps k)) (parts_three t n g) ∙ ap as_parts (fields_three (code_part t.first) (code_part t.second) (code_part t.third) k)
    ∙ sym (ap (λ (m : ℕ). read a b c m k) (no_bits g) ∙ read_three a b c k))
    (λ n m. ap (λ (ps : List Part). as_parts (fields ps k)) (parts_four t n m)
    ∙ ap as_parts (fields_four (code_part t.first) (code_part t.second) (code_part t.third) (code_part t.fourth) k))

-- ---- "made from its parts and read back"
-- parts that fit are read back as they were
pub unpack_pack : (t : Table) (x : Parts) → parts_fit t x ≡ true → parts_of t (packed_of t x) ≡ x
unpack_pack t x h =
    let f = fitting t x h in
    parts_fit_lem t (packed_of t x) f.table
    ∙ ap as_parts (ap (fields (table_parts t)) (packed_fit t x h) ∙ fields_joined (parted t x f)) ∙ used_back t x f

-- the parts of any number fit, and of one with no bit above the total they are the number, packed
module _ (t : Table) (k : ℕ) (h : table_fits t ≡ true) where
  pub unpacked_fit : parts_fit t (parts_of t k) ≡ true
  unpacked_fit = ap (parts_fit t) (parts_read t k h) ∙ fits_by t (read (code_bits t.first) (code_bits t.second) (code_bits t.third) (code_bits t.fourth) k) h
      (fits_part t.first _ (mod-lt _ (pow_pos (code_bits t.first))))
      (fits_part t.second _ (mod-lt _ (pow_pos (code_bits t.second))))
      (fits_part t.third _ (mod-lt _ (pow_pos (code_bits t.third))))
      (fits_part t.fourth _ (mod-lt _ (pow_pos (code_bits t.fourth))))

  pub pack_unpack : k < 2 ^ total (table_parts t) → packed_of t (parts_of t k) ≡ k
  pack_unpack l =
      packed_fit t (parts_of t k) unpacked_fit ∙ ap (λ (x : Parts). joined (table_parts t) (used_parts t x)) (parts_fit_lem t k h)
      ∙ ap (joined (table_parts t)) (used_fields t k h) ∙ joined_fields (table_parts t) k ∙ mod-eq_of_lt l

module _ (t : Table) (x : Parts) (a b : ℕ) (e : pair_form a b ≡ packed_of t x) where
  -- what is packed is a well-formed key; so is the zero key, where parts do not fit
  pub packed_well : well_formed (mixed t) a b ≡ true
  packed_well = well_formed_mixed (mixed t) a b refl ∙ ap (λ (n : ℕ). ltb n (2 ^ width (mixed t))) e ∙ lt-ltb (packed_of t x) (2 ^ width (mixed t)) (go (parts_fit t x) refl)
    where
      go : (y : Bool) → parts_fit t x ≡ y → packed_of t x < 2 ^ width (mixed t)
      go false u = subst (λ n. n < 2 ^ width (mixed t)) (sym (packed_unfit t x u)) (pow_pos (width (mixed t)))
      go true u =
          let f = fitting t x u in
          let w : width (mixed t) ≡ total (table_parts t) = width_mixed (mixed t) refl ∙ ap total (mixed_fit t f.table) in
          subst (λ n. packed_of t x < 2 ^ n) (sym w) (subst (λ n. n < 2 ^ total (table_parts t)) (sym (packed_fit t x u)) (joined_fits (parted t x f)))

  -- and ordered by the ordered forms of its parts
  pub packed_ordered : parts_fit t x ≡ true → ordered (mixed t) a b ≡ joined (table_parts t) (forms (table_parts t) (used_parts t x))
  packed_ordered u =
      let f = fitting t x u in
      ordered_mixed (mixed t) a b refl ∙ ap₂ form (mixed_fit t f.table) (e ∙ packed_fit t x u) ∙ form_joined (parted t x f)

-- ---- as the code goes
-- the test of one part, whose code has b bits
module _ (c x b : ℕ) (e : b ≡ code_bits c) where
  pub wide_fits : 63 < b → x < 2 ^ 64 → part_fits c x ≡ true
  wide_fits l h = fits_part c x (omega (arith, pow_mono {i = 64} {j = code_bits c} (omega arith)))

  pub narrow_fits : b ≤ 63 → ltb x (1 * 2 ^ b % 2 ^ 64) ≡ part_fits c x
  unfolding part_fits
  narrow_fits l = ap (ltb x) (ap (λ (n : ℕ). n % 2 ^ 64) (one-mul (2 ^ b)) ∙ mod-eq_of_lt (pow-lt {i = b} {j = 64} (omega arith)) ∙ ap (λ (n : ℕ). 2 ^ n) e)

-- one more part, whose code has b bits, below a number k
module _ (c x b : ℕ) (e : b ≡ code_bits c) (l : x < 2 ^ code_bits c) where
  pub none_below : (k : ℕ) → b ≡ 0 → k ≡ k * 2 ^ code_bits c + x
  none_below k z =
      let n : code_bits c ≡ 0 = sym e ∙ z in
      sym (ap₂ (λ (m y : ℕ). k * 2 ^ m + y) n (lt-one (subst (λ m. x < 2 ^ m) n l)) ∙ add-zero (k * 1) ∙ mul-one k)

  pub some_below : (high low : ℕ) → b ≢ 0 → code_bits c ≤ 64 → pair_form high low < 2 ^ (128 - code_bits c) → Shifts high low b x
  some_below high low n most room = subst (λ m. Shifts high low m x) (sym e) (record { some = omega (arith, n, e); most = most; under = l; room = room })

-- the parts of a key, joined one by one
joined_one : (p : Part) (x : ℕ) → joined (p ∷ []) (x ∷ []) ≡ x
unfolding joined total
joined_one p x = omega arith

module _ (p q : Part) {x y : ℕ} (hx : x < 2 ^ p.bits) (hy : y < 2 ^ q.bits) where
  joined_two : joined (p ∷ q ∷ []) (x ∷ y ∷ []) ≡ x * 2 ^ q.bits + y
  joined_two = joined_more (some hx none) q y ∙ ap (λ (n : ℕ). n * 2 ^ q.bits + y) (joined_one p x)

  module _ (r : Part) {z : ℕ} (hz : z < 2 ^ r.bits) where
    joined_three : joined (p ∷ q ∷ r ∷ []) (x ∷ y ∷ z ∷ []) ≡ (x * 2 ^ q.bits + y) * 2 ^ r.bits + z
    joined_three = joined_more (some hx (some hy none)) r z ∙ ap (λ (n : ℕ). n * 2 ^ r.bits + z) joined_two

    joined_four : (s : Part) (w : ℕ) → joined (p ∷ q ∷ r ∷ s ∷ []) (x ∷ y ∷ z ∷ w ∷ []) ≡ ((x * 2 ^ q.bits + y) * 2 ^ r.bits + z) * 2 ^ s.bits + w
    joined_four s w = joined_more (some hx (some hy (some hz none))) s w ∙ ap (λ (n : ℕ). n * 2 ^ s.bits + w) joined_three

lone : (x : ℕ) → pair_form 0 x ≡ x
lone x = omega arith

-- a number of n bits has room for b more below it
room : (n b : ℕ) {k : ℕ} → k < 2 ^ n → n + b ≤ 128 → k < 2 ^ (128 - b)
room n b l h = omega (arith, pow_mono {i = n} {j = 128 - b} (omega arith))

module _ (t : Table) (x : Parts) (h : parts_fit t x ≡ true) where
  known_parts : Fitting t x
  known_parts = fitting t x h

  known_table : Limits t
  known_table = limits t known_parts.table

  pub room_two : pair_form 0 x.first < 2 ^ (128 - code_bits t.second)
  room_two = subst (λ n. n < 2 ^ (128 - code_bits t.second)) (sym (lone x.first)) (room (code_bits t.first) (code_bits t.second) known_parts.first (omega (arith, known_table.sum)))

  module _ (two : ℕ) (e : two ≡ pair_form 0 x.first * 2 ^ code_bits t.second + x.second) where
    two_is : two ≡ x.first * 2 ^ code_bits t.second + x.second
    two_is = e ∙ ap (λ (n : ℕ). n * 2 ^ code_bits t.second + x.second) (lone x.first)

    two_fits : two < 2 ^ (code_bits t.first + code_bits t.second)
    two_fits = subst (λ n. n < 2 ^ (code_bits t.first + code_bits t.second)) (sym two_is) (pair_fits (code_bits t.second) (code_bits t.first) known_parts.first known_parts.second)

    pub room_three : two < 2 ^ (128 - code_bits t.third)
    room_three = room (code_bits t.first + code_bits t.second) (code_bits t.third) two_fits (omega (arith, known_table.sum))

    module _ (three : ℕ) (g : three ≡ two * 2 ^ code_bits t.third + x.third) where
      three_fits : three < 2 ^ (code_bits t.first + code_bits t.second + code_bits t.third)
      three_fits = subst (λ n. n < 2 ^ (code_bits t.first + code_bits t.second + code_bits t.third)) (sym g) (pair_fits (code_bits t.third) (code_bits t.first + code_bits t.second) two_fits known_parts.third)

      pub room_four : three < 2 ^ (128 - code_bits t.fourth)
      room_four = room (code_bits t.first + code_bits t.second + code_bits t.third) (code_bits t.fourth) three_fits known_table.sum

      pub joins : (four : ℕ) → four ≡ three * 2 ^ code_bits t.fourth + x.fourth → four ≡ packed_of t x
      unfolding code_part
      joins four u =
          let p = code_part t.first in
          let q = code_part t.second in
          let r = code_part t.third in
          let s = code_part t.fourth in
          let same = sym (packed_fit t x h) in
          by_count t known_parts.table
          (λ n m. u ∙ sym (none_below t.fourth x.fourth _ refl known_parts.fourth three (no_bits m)) ∙ g ∙ sym (none_below t.third x.third _ refl known_parts.third two (no_bits n)) ∙ two_is
          ∙ sym (ap₂ joined (parts_two t n) (used_two t x n) ∙ joined_two p q known_parts.first known_parts.second) ∙ same)
          (λ n m. u ∙ sym (none_below t.fourth x.fourth _ refl known_parts.fourth three (no_bits m)) ∙ g ∙ ap (λ (k : ℕ). k * 2 ^ code_bits t.third + x.third) two_is
          ∙ sym (ap₂ joined (parts_three t n m) (used_three t x n m) ∙ joined_three p q known_parts.first known_parts.second r known_parts.third) ∙ same)
          (λ n m. u ∙ ap (λ (k : ℕ). k * 2 ^ code_bits t.fourth + x.fourth) (g ∙ ap (λ (k : ℕ). k * 2 ^ code_bits t.third + x.third) two_is)
          ∙ sym (ap₂ joined (parts_four t n m) (used_four t x n m) ∙ joined_four p q known_parts.first known_parts.second r known_parts.third s x.fourth) ∙ same)

-- the lowest part, whose code has b bits, and the number above it
module _ (c b k : ℕ) (e : b ≡ code_bits c) where
  pub none_lowest : b ≡ 0 → 0 ≡ k % 2 ^ code_bits c
  none_lowest z = sym (ap (λ (n : ℕ). k % 2 ^ n) (sym e ∙ z) ∙ mod-one k)

  pub none_above : b ≡ 0 → k ≡ k / 2 ^ code_bits c
  none_above z = sym (ap (λ (n : ℕ). k / 2 ^ n) (sym e ∙ z) ∙ div-one k)

-- the parts that the code reads are those of the key
pub reads : (t : Table) (k three two one : ℕ) (x : Parts) → table_fits t ≡ true
    → three ≡ k / 2 ^ code_bits t.fourth → two ≡ three / 2 ^ code_bits t.third → one ≡ two / 2 ^ code_bits t.second
    → x.first ≡ one % 2 ^ code_bits t.first → x.second ≡ two % 2 ^ code_bits t.second
    → x.third ≡ three % 2 ^ code_bits t.third → x.fourth ≡ k % 2 ^ code_bits t.fourth → x ≡ parts_of t k
reads t k three two one x h e₃ e₂ e₁ f₁ f₂ f₃ f₄ =
    let a = code_bits t.first in
    let b = code_bits t.second in
    let c = code_bits t.third in
    let d = code_bits t.fourth in
    let g₂ = e₂ ∙ ap (λ (n : ℕ). n / 2 ^ c) e₃ in
    let g₁ = e₁ ∙ ap (λ (n : ℕ). n / 2 ^ b) g₂ in
    ap₂ {C = Parts} (λ (m n : ℕ). record { first = m; second = n; third = x.third; fourth = x.fourth }) (f₁ ∙ ap (λ (n : ℕ). n % 2 ^ a) g₁) (f₂ ∙ ap (λ (n : ℕ). n % 2 ^ b) g₂)
    ∙ ap₂ {C = Parts} (λ (m n : ℕ). record { first = (read a b c d k).first; second = (read a b c d k).second; third = m; fourth = n }) (f₃ ∙ ap (λ (n : ℕ). n % 2 ^ c) e₃) f₄
    ∙ sym (parts_read t k h)
