-- Keys of several parts compare part by part: over every list of parts, the order and the distance of packed keys are the
-- crate's rule for tuples. By induction on the parts, a step by order_lead, order_rest, distance_lead and distance_rest.
use mathlib.Core.Path.{◌≡◌, refl, sym, ap, ap₂, subst, ◌∙◌}
use mathlib.Core.Bool.{Bool, true, false, cond}
use mathlib.Core.List.{List, [], ◌∷◌}
use mathlib.Core.Logic.{◌≢◌}
use Prim.Native.Nat.{ℕ, zero, suc, ◌+◌, ◌-◌, ◌*◌, ◌%◌, ◌^◌, ◌≤◌, ◌<◌}
use native.Mathlib.Nat.{mod-eq_of_lt, add-zero, mul-one, two-pow-succ}
use native.Mathlib.Decide.{ℕ_discrete, dec_lt}
use native.Mathlib.Omega.{arith}
use borrow.Author.Tests.{ne_eqb, eq-eqb, lt-ltb, le-ltb}
use lib.Arith.{lt-one}
use lib.Dec.{eqb, ltb}
use lib.IntN.{ℤ, pos, negsuc, nat_abs, ◌+ℤ◌, ◌-ℤ◌}
use lib.Pow.{suc_ones, high, low}
use lib.Signed.{mag}
use Rattle.rule.specs.Width.{distance}
use Rattle.keys.specs.declared.kind.Kind.{Kind}
use Rattle.keys.specs.Parts.{Sort, unsigned, signed, reversed, Part, part, total, formed, field, fields, joined, form}
use Rattle.keys.specs.Table.{one_word, two_words, table_parts, table_fits}
use Rattle.keys.specs.Ordered.{word_sort, parts, width, packed, pair_form, ordered}
use Rattle.keys.specs.Tuple.{number_of, part_number, number_above, part_above, tuple_above, tuple_distance}
use Rattle.keys.proofs.Order.{reverse_order}
use Rattle.keys.proofs.Twos.{low_half, high_half, down, up, moved_order}
use Rattle.keys.proofs.PartLaws.{lead, formed_injective, formed_keeps, form_low, order_lead, order_rest, distance_lead, distance_rest, Parted, none, some, joined_fits, fields_joined, fields_parted, joined_fields}
use Rattle.keys.proofs.Ordered.{parts_mixed, parts_pair, parts_word, packed_wide, packed_word, wide_pair, wide_mixed, wide_word, ordered_parts, mixed_fit, distance_as, one_number}

-- ---- one part: its ordered form is in the order of its number
-- a signed part of k + 1 bits: half the range is 2 ^ k
module _ (k x : ℕ) (h : x < 2 ^ suc k) where
  half : 2 ^ (suc k - 1) ≡ 2 ^ k
  half = ap (λ (n : ℕ). 2 ^ n) (omega arith)

  form_is : formed (suc k) signed x ≡ (x + 2 ^ k) % 2 ^ suc k
  unfolding formed
  form_is = ap (λ (n : ℕ). (x + n) % 2 ^ suc k) half

  number_by : (t : Bool) → ltb x (2 ^ k) ≡ t → number_of (suc k) signed x ≡ cond t (pos x) (pos x -ℤ pos (2 ^ suc k))
  unfolding number_of
  number_by t e = ap (λ (b : Bool). cond b (pos x) (pos x -ℤ pos (2 ^ suc k))) (ap (ltb x) half ∙ e)

  number_low : x < 2 ^ k → number_of (suc k) signed x ≡ pos x
  number_low l = number_by true (lt-ltb x (2 ^ k) l)

  number_high : 2 ^ k ≤ x → number_of (suc k) signed x ≡ negsuc (2 ^ suc k - 1 - x)
  number_high l =
      number_by false (le-ltb x (2 ^ k) l)
      ∙ ap (λ (n : ℕ). pos x -ℤ pos n) (sym (suc_ones (suc k)))
      ∙ down (2 ^ suc k - 1) x (omega arith)

  -- as many numbers are below 0 as from 0 up
  number_fits : mag (number_of (suc k) signed x) < 2 ^ k
  number_fits = elim (dec_lt x (2 ^ k)) [
    | yes l ↦ subst (λ z. mag z < 2 ^ k) (sym (number_low l)) l
    | no l ↦ subst (λ z. mag z < 2 ^ k) (sym (number_high (omega arith))) (omega (arith, two-pow-succ k))
  ]

  -- "the number plus half the range", at every width
  pub number_formed : number_of (suc k) signed x +ℤ pos (2 ^ k) ≡ pos (formed (suc k) signed x)
  number_formed = elim (dec_lt x (2 ^ k)) [
    | yes l ↦ ap (λ (z : ℤ). z +ℤ pos (2 ^ k)) (number_low l) ∙ ap pos (sym (form_is ∙ low_half k x l))
    | no l ↦
        let m : 2 ^ k ≤ x = omega arith in
        ap (λ (z : ℤ). z +ℤ pos (2 ^ k)) (number_high m) ∙ up (2 ^ k) (2 ^ suc k - 1 - x) (omega (arith, two-pow-succ k))
        ∙ ap pos (omega (arith, two-pow-succ k, form_is ∙ high_half k x m h))
  ]

pub formed_order : (w : ℕ) (s : Sort) {x y : ℕ} → x < 2 ^ w → y < 2 ^ w → ltb (formed w s y) (formed w s x) ≡ number_above s (number_of w s x) (number_of w s y)
unfolding formed number_above number_of
formed_order w unsigned hx hy = refl
formed_order w reversed {x} {y} hx hy = reverse_order w x y hx hy
formed_order zero signed {x} {y} hx hy = rw (lt-one hx, lt-one hy) refl
formed_order (suc k) signed {x} {y} hx hy =
    sym (ap₂ (λ (m n : ℤ). ltb (nat_abs m) (nat_abs n)) (number_formed k y hy) (number_formed k x hx))
    ∙ moved_order (2 ^ k) (number_of (suc k) signed y) (number_of (suc k) signed x) (number_fits k y hy) (number_fits k x hx)

-- equal numbers have equal patterns, so the rule may test the patterns
pub one_pattern : (w : ℕ) (s : Sort) {x y : ℕ} → x < 2 ^ w → y < 2 ^ w → number_of w s x ≡ number_of w s y → x ≡ y
unfolding number_of
one_pattern w unsigned hx hy e = ap mag e
one_pattern w reversed hx hy e = ap mag e
one_pattern zero signed hx hy e = lt-one hx ∙ sym (lt-one hy)
one_pattern (suc k) signed {x} {y} hx hy e =
    formed_injective (suc k) signed hx hy (ap mag (sym (number_formed k x hx) ∙ ap (λ (z : ℤ). z +ℤ pos (2 ^ k)) e ∙ number_formed k y hy))

-- ---- the first part of a packed key, and the rest
module _ (p : Part) (ps : List Part) (x : ℕ) (xs : List ℕ) (l : x < 2 ^ p.bits) (h : Parted ps xs) where
  lead_joined : lead p ps (joined (p ∷ ps) (x ∷ xs)) ≡ formed p.bits p.sort x
  unfolding lead field joined
  lead_joined = ap (formed p.bits p.sort) (ap (λ (n : ℕ). n % 2 ^ p.bits) (high x (total ps) (joined_fits h)) ∙ mod-eq_of_lt l)

  rest_joined : form ps (joined (p ∷ ps) (x ∷ xs)) ≡ form ps (joined ps xs)
  unfolding joined
  rest_joined = sym (form_low ps (joined (p ∷ ps) (x ∷ xs))) ∙ ap (form ps) (low x (total ps) (joined_fits h))

module _ (p : Part) (ps : List Part) (x y : ℕ) (xs ys : List ℕ) (lx : x < 2 ^ p.bits) (ly : y < 2 ^ p.bits) (hx : Parted ps xs) (hy : Parted ps ys) where
  abbrev X : ℕ
  X = joined (p ∷ ps) (x ∷ xs)

  abbrev Y : ℕ
  Y = joined (p ∷ ps) (y ∷ ys)

  lead_x : lead p ps X ≡ formed p.bits p.sort x
  lead_x = lead_joined p ps x xs lx hx

  lead_y : lead p ps Y ≡ formed p.bits p.sort y
  lead_y = lead_joined p ps y ys ly hy

  leads_differ : x ≢ y → lead p ps X ≢ lead p ps Y
  leads_differ q e = q (formed_injective p.bits p.sort lx ly (sym lead_x ∙ e ∙ lead_y))

  leads_same : x ≡ y → lead p ps X ≡ lead p ps Y
  leads_same e = lead_x ∙ ap (formed p.bits p.sort) e ∙ sym lead_y

  order_differ : x ≢ y → ltb (form (p ∷ ps) Y) (form (p ∷ ps) X) ≡ part_above p x y
  unfolding part_above
  order_differ q =
      order_lead p ps Y X (λ e. leads_differ q (sym e)) ∙ ap₂ ltb lead_y lead_x ∙ formed_order p.bits p.sort lx ly

  order_same : x ≡ y → ltb (form (p ∷ ps) Y) (form (p ∷ ps) X) ≡ ltb (form ps (joined ps ys)) (form ps (joined ps xs))
  order_same e = order_rest p ps Y X (sym (leads_same e)) ∙ ap₂ ltb (rest_joined p ps y ys ly hy) (rest_joined p ps x xs lx hx)

  distance_differ : x ≢ y → distance (total (p ∷ ps)) (form (p ∷ ps) X) (form (p ∷ ps) Y) ≡ total ps + distance p.bits x y
  distance_differ q =
      distance_lead p ps X Y (leads_differ q) ∙ ap (λ (n : ℕ). total ps + n) (ap₂ (distance p.bits) lead_x lead_y ∙ formed_keeps p.bits p.sort lx ly)

  distance_same : x ≡ y → distance (total (p ∷ ps)) (form (p ∷ ps) X) (form (p ∷ ps) Y) ≡ distance (total ps) (form ps (joined ps xs)) (form ps (joined ps ys))
  distance_same e = distance_rest p ps X Y (leads_same e) ∙ ap₂ (distance (total ps)) (rest_joined p ps x xs lx hx) (rest_joined p ps y ys ly hy)

-- ---- the crate's rule, over every list of parts
-- a step of the rule, from what holds where the first parts differ and where they are equal
by_first : {A : Type 0} (x y : ℕ) {z rest first : A} → (x ≢ y → z ≡ first) → (x ≡ y → z ≡ rest) → z ≡ cond (eqb x y) rest first
by_first x y {z} {rest} {first} differ same = elim (ℕ_discrete x y) [
  | yes e ↦ same e ∙ sym (ap (λ (b : Bool). cond b rest first) (eq-eqb x y e))
  | no q ↦ differ q ∙ sym (ap (λ (b : Bool). cond b rest first) (ne_eqb x y q))
]

pub tuple_order : {ps : List Part} {xs ys : List ℕ} → Parted ps xs → Parted ps ys → ltb (form ps (joined ps ys)) (form ps (joined ps xs)) ≡ tuple_above ps xs ys
unfolding tuple_above form
tuple_order none none = refl
tuple_order (some {p} {ps} {x} {xs} lx hx) (some {x = y} {xs = ys} ly hy) =
    by_first x y (order_differ p ps x y xs ys lx ly hx hy) (λ e. order_same p ps x y xs ys lx ly hx hy e ∙ tuple_order hx hy)

pub tuple_distance_lem : {ps : List Part} {xs ys : List ℕ} → Parted ps xs → Parted ps ys → distance (total ps) (form ps (joined ps xs)) (form ps (joined ps ys)) ≡ tuple_distance ps xs ys
unfolding tuple_distance
tuple_distance_lem none none = refl
tuple_distance_lem (some {p} {ps} {x} {xs} lx hx) (some {x = y} {xs = ys} ly hy) =
    by_first x y (distance_differ p ps x y xs ys lx ly hx hy) (λ e. distance_same p ps x y xs ys lx ly hx hy e ∙ tuple_distance_lem hx hy)

-- ---- every packed number is made of its parts
-- its ordered form is that of its parts
form_fields : (ps : List Part) (k : ℕ) → form ps k ≡ form ps (joined ps (fields ps k))
form_fields ps k = sym (ap (form ps) (joined_fields ps k) ∙ form_low ps k)

module _ (ps : List Part) (k l : ℕ) where
  pub packed_order : ltb (form ps l) (form ps k) ≡ tuple_above ps (fields ps k) (fields ps l)
  packed_order = ap₂ ltb (form_fields ps l) (form_fields ps k) ∙ tuple_order (fields_parted ps k) (fields_parted ps l)

  pub packed_distance : distance (total ps) (form ps k) (form ps l) ≡ tuple_distance ps (fields ps k) (fields ps l)
  packed_distance = ap₂ (distance (total ps)) (form_fields ps k) (form_fields ps l) ∙ tuple_distance_lem (fields_parted ps k) (fields_parted ps l)

-- ---- keys of every kind that is made of parts, by their words
module _ (kind : Kind) (six : kind.number ≢ 6) (a b c d : ℕ) {ps : List Part} {k l : ℕ} (e : parts kind ≡ ps) (f : packed kind a b ≡ k) (g : packed kind c d ≡ l) where
  order_as : ltb (ordered kind c d) (ordered kind a b) ≡ tuple_above ps (fields ps k) (fields ps l)
  order_as = ap₂ ltb (ordered_parts kind c d six ∙ ap₂ form e g) (ordered_parts kind a b six ∙ ap₂ form e f) ∙ packed_order ps k l

  apart_as : distance (width kind) (ordered kind a b) (ordered kind c d) ≡ tuple_distance ps (fields ps k) (fields ps l)
  unfolding width
  apart_as = distance_as (ap total e) (ordered_parts kind a b six ∙ ap₂ form e f) (ordered_parts kind c d six ∙ ap₂ form e g) ∙ packed_distance ps k l

module _ (kind : Kind) (a b c d : ℕ) where
  pub kind_order : kind.number ≢ 6 → ltb (ordered kind c d) (ordered kind a b) ≡ tuple_above (parts kind) (fields (parts kind) (packed kind a b)) (fields (parts kind) (packed kind c d))
  kind_order six = order_as kind six a b c d refl refl refl

  pub kind_distance : kind.number ≢ 6 → distance (width kind) (ordered kind a b) (ordered kind c d) ≡ tuple_distance (parts kind) (fields (parts kind) (packed kind a b)) (fields (parts kind) (packed kind c d))
  kind_distance six = apart_as kind six a b c d refl refl refl

  -- a mixed key follows its table
  module _ (five : kind.number ≡ 5) (fits : table_fits kind.table ≡ true) where
    abbrev mixed : List Part
    mixed = table_parts kind.table

    pub mixed_order : ltb (ordered kind c d) (ordered kind a b) ≡ tuple_above mixed (fields mixed (pair_form a b)) (fields mixed (pair_form c d))
    mixed_order =
        let w = wide_mixed kind five in
        order_as kind (λ f. omega arith) a b c d (parts_mixed kind five ∙ mixed_fit kind.table fits) (packed_wide kind a b w) (packed_wide kind c d w)

    pub mixed_distance : distance (width kind) (ordered kind a b) (ordered kind c d) ≡ tuple_distance mixed (fields mixed (pair_form a b)) (fields mixed (pair_form c d))
    mixed_distance =
        let w = wide_mixed kind five in
        apart_as kind (λ f. omega arith) a b c d (parts_mixed kind five ∙ mixed_fit kind.table fits) (packed_wide kind a b w) (packed_wide kind c d w)

-- kinds 1 to 3 are lists of one part, and kind 4 is a list of two
word_fields : (s : Sort) {a : ℕ} → a < 2 ^ 64 → fields (one_word s) a ≡ a ∷ []
unfolding joined total
word_fields s {a} ha = ap (fields (one_word s)) (sym (add-zero (a * 1) ∙ mul-one a)) ∙ fields_joined (some {p = part 64 s} {ps = []} {x = a} ha none)

pair_fields : {a b : ℕ} → a < 2 ^ 64 → b < 2 ^ 64 → fields two_words (pair_form a b) ≡ a ∷ b ∷ []
unfolding joined total
pair_fields {a} {b} ha hb =
    ap (λ (n : ℕ). fields two_words (a * 2 ^ 64 + n)) (sym (add-zero (b * 1) ∙ mul-one b))
    ∙ fields_joined (some {p = part 64 unsigned} {x = a} ha (some {p = part 64 unsigned} {ps = []} {x = b} hb none))

module _ (kind : Kind) (a b : ℕ) (ha : a < 2 ^ 64) (c d : ℕ) (hc : c < 2 ^ 64) where
  module _ (four : kind.number ≢ 4) (five : kind.number ≢ 5) (six : kind.number ≢ 6) where
    abbrev word : Sort
    word = word_sort kind.number

    pub word_order : ltb (ordered kind c d) (ordered kind a b) ≡ tuple_above (one_word word) (a ∷ []) (c ∷ [])
    word_order =
        let w = wide_word kind four five in
        order_as kind six a b c d (parts_word kind four five) (packed_word kind a b w) (packed_word kind c d w)
        ∙ ap₂ (tuple_above (one_word word)) (word_fields word ha) (word_fields word hc)

    pub word_distance : distance (width kind) (ordered kind a b) (ordered kind c d) ≡ tuple_distance (one_word word) (a ∷ []) (c ∷ [])
    word_distance =
        let w = wide_word kind four five in
        apart_as kind six a b c d (parts_word kind four five) (packed_word kind a b w) (packed_word kind c d w)
        ∙ ap₂ (tuple_distance (one_word word)) (word_fields word ha) (word_fields word hc)

  module _ (hb : b < 2 ^ 64) (hd : d < 2 ^ 64) (four : kind.number ≡ 4) where
    pub pair_order : ltb (ordered kind c d) (ordered kind a b) ≡ tuple_above two_words (a ∷ b ∷ []) (c ∷ d ∷ [])
    pair_order =
        let w = wide_pair kind four in
        order_as kind (λ f. omega arith) a b c d (parts_pair kind four) (packed_wide kind a b w) (packed_wide kind c d w) ∙ ap₂ (tuple_above two_words) (pair_fields ha hb) (pair_fields hc hd)

    pub pair_distance : distance (width kind) (ordered kind a b) (ordered kind c d) ≡ tuple_distance two_words (a ∷ b ∷ []) (c ∷ d ∷ [])
    pair_distance =
        let w = wide_pair kind four in
        apart_as kind (λ f. omega arith) a b c d (parts_pair kind four) (packed_wide kind a b w) (packed_wide kind c d w) ∙ ap₂ (tuple_distance two_words) (pair_fields ha hb) (pair_fields hc hd)

-- ---- the number of kind 2's word is the one that the typed key `Signed` has by its contract
pub word_number : (z : ℤ) (w : ℕ) → w < 2 ^ 64 → z +ℤ pos (2 ^ 63) ≡ pos (formed 64 signed w) → z ≡ part_number (part 64 signed) w
unfolding part_number
word_number z w h e = one_number z (number_of 64 signed w) w e (number_formed 63 w h)

-- ---- computed: the numbers of a signed byte, and keys of a day, a signed height and a reversed priority
pub byte_numbers : (part_number (part 8 signed) 127 ≡ pos 127) × (part_number (part 8 signed) 128 ≡ negsuc 127) × (part_number (part 8 signed) 255 ≡ negsuc 0)
unfolding part_number
byte_numbers = (refl, refl, refl)

abbrev days : List Part
days = part 32 unsigned ∷ part 16 signed ∷ part 8 reversed ∷ []

-- on one day the height 1 is above -1, whose pattern is 65,535: these differ in place 16, with the priority's 8 places below
pub height_decides : (tuple_above days (7 ∷ 1 ∷ 9 ∷ []) (7 ∷ 65535 ∷ 0 ∷ []) ≡ true) × (tuple_distance days (7 ∷ 1 ∷ 9 ∷ []) (7 ∷ 65535 ∷ 0 ∷ []) ≡ 24)
unfolding tuple_above tuple_distance
height_decides = (refl, refl)

-- at one height the lower priority is above
pub priority_decides : (tuple_above days (7 ∷ 1 ∷ 3 ∷ []) (7 ∷ 1 ∷ 9 ∷ []) ≡ true) × (tuple_distance days (7 ∷ 1 ∷ 3 ∷ []) (7 ∷ 1 ∷ 9 ∷ []) ≡ 4)
unfolding tuple_above tuple_distance
priority_decides = (refl, refl)
