-- The kinds of keys: the table's equations, that ordered forms fit their width and tell well-formed keys apart, and what the
-- order and the distance of two keys are in their words. All follows from the laws of PartLaws, and for floats from those of Floats.
use mathlib.Core.Path.{◌≡◌, refl, sym, ap, ap₂, subst, ◌∙◌}
use mathlib.Core.Bool.{Bool, true, false, cond, not, ◌&&◌, ◌||◌, true≢false, or-false}
use mathlib.Core.List.{List, [], ◌∷◌}
use mathlib.Core.Logic.{◌≢◌}
use Prim.Native.Nat.{ℕ, ◌+◌, ◌-◌, ◌*◌, ◌/◌, ◌%◌, ◌^◌, ◌≤◌, ◌<◌}
use native.Mathlib.Nat.{mod-eq_of_lt, add-zero, mul-one, div-one, le_refl}
use native.Mathlib.Decide.{ℕ_discrete, dec_lt}
use native.Mathlib.Omega.{arith}
use borrow.Author.Tests.{ne_eqb, eq-eqb, eqb-true, ltb-true, leb-true, lt-ltb, le-ltb}
use lib.Bits.{xor_zero_r}
use lib.Dec.{eqb, ltb, leb}
use lib.IntN.{ℤ, pos, nat_abs, ◌+ℤ◌}
use lib.Pow.{pow_pos, high, low}
use lib.Signed.{lt_z, mag}
use Rattle.rule.specs.Width.{distance}
use Rattle.rule.proofs.Width.{pair_first, pair_second, wider}
use Rattle.keys.specs.declared.kind.Kind.{Kind}
use Rattle.keys.specs.declared.kind.Table.{Table}
use Rattle.keys.specs.declared.mask.Masks.{Masks}
use Rattle.keys.specs.Parts.{Sort, unsigned, signed, reversed, Part, part, total, formed, field, form}
use Rattle.keys.specs.Table.{one_word, two_words, table_parts, table_fits, is_part, mixed_parts, bare}
use Rattle.keys.specs.Floats.{float_form, is_nan}
use Rattle.keys.specs.Ordered.{word_sort, is_wide, words, parts, width, packed, pair_form, ordered, ordered_number, well_formed, nan_key, proper}
use Rattle.keys.specs.Masks.{Masked, masked}
use Rattle.keys.proofs.Order.{pair_fits, pair_order_first, pair_order_second}
use Rattle.keys.proofs.PartLaws.{lead, form_cons, form_fits, form_flips, form_injective, form_keeps, form_words, formed_injective}
use Rattle.keys.proofs.Twos.{moved_order, moved_injective}
use Rattle.keys.proofs.Floats.{float_fits, float_injective, float_keeps}

-- ---- the definitions, kind by kind
module _ (kind : Kind) where
  parts_by : Bool → Bool → List Part
  parts_by five four = cond five (mixed_parts kind.table) (cond four two_words (one_word (word_sort kind.number)))

  pub parts_mixed : kind.number ≡ 5 → parts kind ≡ mixed_parts kind.table
  unfolding parts
  parts_mixed e = ap (λ (x : Bool). cond x (mixed_parts kind.table) (cond (eqb kind.number 4) two_words (one_word (word_sort kind.number)))) (eq-eqb kind.number 5 e)

  pub parts_pair : kind.number ≡ 4 → parts kind ≡ two_words
  unfolding parts parts_by
  parts_pair e = ap₂ parts_by (ne_eqb kind.number 5 (λ f. omega arith)) (eq-eqb kind.number 4 e)

  pub parts_word : kind.number ≢ 4 → kind.number ≢ 5 → parts kind ≡ one_word (word_sort kind.number)
  unfolding parts parts_by
  parts_word four five = ap₂ parts_by (ne_eqb kind.number 5 five) (ne_eqb kind.number 4 four)

  -- what holds of pairs, of mixed keys and of keys of one word holds of every kind
  pub by_words : {P : Type 0} → (kind.number ≡ 4 → P) → (kind.number ≡ 5 → P) → (kind.number ≢ 4 → kind.number ≢ 5 → P) → P
  by_words pair mixed word = elim (ℕ_discrete kind.number 4) [ yes e ↦ pair e | no p ↦ elim (ℕ_discrete kind.number 5) [ yes e ↦ mixed e | no q ↦ word p q ] ]

  -- and what holds of floats and of keys made of parts
  by_float : {P : Type 0} → (kind.number ≡ 6 → P) → (kind.number ≢ 6 → P) → P
  by_float float parts = elim (ℕ_discrete kind.number 6) [ yes e ↦ float e | no q ↦ parts q ]

  pub wide_pair : kind.number ≡ 4 → is_wide kind ≡ true
  unfolding is_wide
  wide_pair e = ap (λ (x : Bool). x || eqb kind.number 5) (eq-eqb kind.number 4 e)

  pub wide_mixed : kind.number ≡ 5 → is_wide kind ≡ true
  unfolding is_wide
  wide_mixed e = ap₂ ◌||◌ (ne_eqb kind.number 4 (λ f. omega arith)) (eq-eqb kind.number 5 e)

  pub wide_word : kind.number ≢ 4 → kind.number ≢ 5 → is_wide kind ≡ false
  unfolding is_wide
  wide_word four five = ap₂ ◌||◌ (ne_eqb kind.number 4 four) (ne_eqb kind.number 5 five)

  -- of all kinds but 5 only pairs are
  pub wide_bare : kind.number ≢ 5 → is_wide kind ≡ eqb kind.number 4
  unfolding is_wide
  wide_bare q = ap (λ (x : Bool). eqb kind.number 4 || x) (ne_eqb kind.number 5 q) ∙ or-false (eqb kind.number 4)

  pub words_wide : is_wide kind ≡ true → words kind ≡ 2
  unfolding words
  words_wide e = ap (λ (x : Bool). cond x 2 1) e

  pub words_word : is_wide kind ≡ false → words kind ≡ 1
  unfolding words
  words_word e = ap (λ (x : Bool). cond x 2 1) e

  pub packed_wide : (a b : ℕ) → is_wide kind ≡ true → packed kind a b ≡ a * 2 ^ 64 + b
  unfolding packed
  packed_wide a b e = ap (λ (x : Bool). cond x (a * 2 ^ 64 + b) a) e

  pub packed_word : (a b : ℕ) → is_wide kind ≡ false → packed kind a b ≡ a
  unfolding packed
  packed_word a b e = ap (λ (x : Bool). cond x (a * 2 ^ 64 + b) a) e

  pub width_pair : kind.number ≡ 4 → width kind ≡ 128
  unfolding width
  width_pair e = ap total (parts_pair e)

  pub width_mixed : kind.number ≡ 5 → width kind ≡ total (mixed_parts kind.table)
  unfolding width
  width_mixed e = ap total (parts_mixed e)

  pub width_word : kind.number ≢ 4 → kind.number ≢ 5 → width kind ≡ 64
  unfolding width
  width_word four five = ap total (parts_word four five)

  -- of every kind but floats
  pub ordered_parts : (a b : ℕ) → kind.number ≢ 6 → ordered kind a b ≡ form (parts kind) (packed kind a b)
  unfolding ordered
  ordered_parts a b six = ap (λ (x : Bool). cond x (float_form a) (form (parts kind) (packed kind a b))) (ne_eqb kind.number 6 six)

  pub ordered_float : (a b : ℕ) → kind.number ≡ 6 → ordered kind a b ≡ float_form a
  unfolding ordered
  ordered_float a b e = ap (λ (x : Bool). cond x (float_form a) (form (parts kind) (packed kind a b))) (eq-eqb kind.number 6 e)

  -- in a kind of one word the second does not count
  pub ordered_second : (a b c : ℕ) → is_wide kind ≡ false → ordered kind a b ≡ ordered kind a c
  unfolding ordered
  ordered_second a b c w = ap (λ (k : ℕ). cond (eqb kind.number 6) (float_form a) (form (parts kind) k)) (packed_word a b w ∙ sym (packed_word a c w))

  pub well_formed_pair : (a b : ℕ) → kind.number ≡ 4 → well_formed kind a b ≡ true
  unfolding well_formed
  well_formed_pair a b e = ap (λ (x : Bool). x || cond (eqb kind.number 5) (ltb (a * 2 ^ 64 + b) (2 ^ width kind)) (eqb b 0)) (eq-eqb kind.number 4 e)

  pub well_formed_mixed : (a b : ℕ) → kind.number ≡ 5 → well_formed kind a b ≡ ltb (a * 2 ^ 64 + b) (2 ^ width kind)
  unfolding well_formed
  well_formed_mixed a b e =
      ap₂ (λ (x y : Bool). x || cond y (ltb (a * 2 ^ 64 + b) (2 ^ width kind)) (eqb b 0)) (ne_eqb kind.number 4 (λ f. omega arith)) (eq-eqb kind.number 5 e)

  pub well_formed_word : (a b : ℕ) → kind.number ≢ 4 → kind.number ≢ 5 → well_formed kind a b ≡ eqb b 0
  unfolding well_formed
  well_formed_word a b four five =
      ap₂ (λ (x y : Bool). x || cond y (ltb (a * 2 ^ 64 + b) (2 ^ width kind)) (eqb b 0)) (ne_eqb kind.number 4 four) (ne_eqb kind.number 5 five)

-- ---- no key has more than 128 bits
and_right : (x y : Bool) → (x && y) ≡ true → y ≡ true
and_right true y e = e
and_right false y e = absurd (let z : ◌≡◌ {A = ℕ} 0 1 = cc in omega arith)

pub fits_total : (t : Table) → table_fits t ≡ true → total (table_parts t) ≤ 128
unfolding table_fits
fits_total t e = leb-true (total (table_parts t)) 128
    (and_right (is_part t.first && is_part t.second && cond (eqb t.third 0) (eqb t.fourth 0) (is_part t.third && (eqb t.fourth 0 || is_part t.fourth))) (leb (total (table_parts t)) 128) e)

pub mixed_total : (t : Table) → total (mixed_parts t) ≤ 128
unfolding mixed_parts total
mixed_total t = go (table_fits t) refl
  where
    go : (x : Bool) → table_fits t ≡ x → total (cond x (table_parts t) two_words) ≤ 128
    go true e = fits_total t e
    go false e = le_refl 128

pub width_le : (kind : Kind) → width kind ≤ 128
width_le kind = by_words kind (λ e. omega (arith, width_pair kind e)) (λ e. omega (arith, width_mixed kind e, mixed_total kind.table)) (λ p q. omega (arith, width_word kind p q))

-- ---- document 01's table: kinds 1 to 4 are lists of one and two words; and document 02's floats
-- a key of one part is ordered as that part
pub form_one : (w : ℕ) (s : Sort) {k : ℕ} → k < 2 ^ w → form (part w s ∷ []) k ≡ formed w s k
unfolding form total lead field
form_one w s {k} h = form_cons (part w s) [] k ∙ add-zero (lead (part w s) [] k * 1) ∙ mul-one (lead (part w s) [] k) ∙ ap (formed w s) (ap (λ (n : ℕ). n % 2 ^ w) (div-one k) ∙ mod-eq_of_lt h)

pub form_two : {k : ℕ} → k < 2 ^ 128 → form two_words k ≡ k
unfolding form
form_two {k} h = form_flips two_words k ∙ xor_zero_r (k % 2 ^ 128) ∙ mod-eq_of_lt h

-- a key of one part: the second word does not count, and nor does a table
pub ordered_word : (kind : Kind) (a b : ℕ) → kind.number ≢ 4 → kind.number ≢ 5 → kind.number ≢ 6 → ordered kind a b ≡ form (one_word (word_sort kind.number)) a
ordered_word kind a b four five six = ordered_parts kind a b six ∙ ap₂ form (parts_word kind four five) (packed_word kind a b (wide_word kind four five))

pub ordered_pair : (kind : Kind) (a b : ℕ) → kind.number ≡ 4 → ordered kind a b ≡ form two_words (a * 2 ^ 64 + b)
ordered_pair kind a b e = ordered_parts kind a b (λ f. omega arith) ∙ ap₂ form (parts_pair kind e) (packed_wide kind a b (wide_pair kind e))

pub ordered_mixed : (kind : Kind) (a b : ℕ) → kind.number ≡ 5 → ordered kind a b ≡ form (mixed_parts kind.table) (a * 2 ^ 64 + b)
ordered_mixed kind a b e = ordered_parts kind a b (λ f. omega arith) ∙ ap₂ form (parts_mixed kind e) (packed_wide kind a b (wide_mixed kind e))

module _ (a b : ℕ) (ha : a < 2 ^ 64) (hb : b < 2 ^ 64) where
  pub kind_1 : ordered (bare 1) a b ≡ a
  unfolding word_sort formed
  kind_1 = ordered_word (bare 1) a b (λ e. omega arith) (λ e. omega arith) (λ e. omega arith) ∙ form_one 64 unsigned ha

  pub kind_2 : ordered (bare 2) a b ≡ (a + 2 ^ 63) % 2 ^ 64
  unfolding word_sort formed
  kind_2 = ordered_word (bare 2) a b (λ e. omega arith) (λ e. omega arith) (λ e. omega arith) ∙ form_one 64 signed ha

  pub kind_3 : ordered (bare 3) a b ≡ 2 ^ 64 - 1 - a
  unfolding word_sort formed
  kind_3 = ordered_word (bare 3) a b (λ e. omega arith) (λ e. omega arith) (λ e. omega arith) ∙ form_one 64 reversed ha

  pub kind_4 : ordered (bare 4) a b ≡ a * 2 ^ 64 + b
  kind_4 = ordered_pair (bare 4) a b refl ∙ form_two (pair_fits 64 64 ha hb)

-- and floats
pub kind_6 : (a b : ℕ) → ordered (bare 6) a b ≡ float_form a
kind_6 a b = ordered_float (bare 6) a b refl

pub kind_widths : (width (bare 1) ≡ 64) × (width (bare 2) ≡ 64) × (width (bare 3) ≡ 64) × (width (bare 4) ≡ 128) × (width (bare 6) ≡ 64)
unfolding width
kind_widths = (refl, refl, refl, refl, refl)

-- ---- a key of words below 2 ^ 64, of any kind
parts_fit_lem : (kind : Kind) (k : ℕ) → form (parts kind) k < 2 ^ width kind
unfolding width
parts_fit_lem kind k = form_fits (parts kind) k

module _ (kind : Kind) (a b : ℕ) (ha : a < 2 ^ 64) (hb : b < 2 ^ 64) where
  pub ordered_fits : ordered kind a b < 2 ^ width kind
  ordered_fits = by_float kind
      (λ e. rw (ordered_float kind a b e, width_word kind (λ f. omega arith) (λ f. omega arith)) (float_fits a))
      (λ q. subst (λ n. n < 2 ^ width kind) (sym (ordered_parts kind a b q)) (parts_fit_lem kind (packed kind a b)))

  pub packed_fits : well_formed kind a b ≡ true → packed kind a b < 2 ^ width kind
  packed_fits wf = by_words kind
      (λ e. rw (packed_wide kind a b (wide_pair kind e), width_pair kind e) (pair_fits 64 64 ha hb))
      (λ e. rw (packed_wide kind a b (wide_mixed kind e)) (ltb-true (a * 2 ^ 64 + b) (2 ^ width kind) (sym (well_formed_mixed kind a b e) ∙ wf)))
      (λ p q. rw (packed_word kind a b (wide_word kind p q), width_word kind p q) ha)

-- a number has one pair of words
pub one_pair : (a : ℕ) {b : ℕ} → b < 2 ^ 64 → (c : ℕ) {d : ℕ} → d < 2 ^ 64 → pair_form a b ≡ pair_form c d → (a ≡ c) × (b ≡ d)
one_pair a hb c hd e = (sym (high a 64 hb) ∙ ap (λ (n : ℕ). n / 2 ^ 64) e ∙ high c 64 hd, sym (low a 64 hb) ∙ ap (λ (n : ℕ). n % 2 ^ 64) e ∙ low c 64 hd)

module _ (kind : Kind) (a b : ℕ) (ha : a < 2 ^ 64) (hb : b < 2 ^ 64) (c d : ℕ) (hc : c < 2 ^ 64) (hd : d < 2 ^ 64)
    (wb : well_formed kind a b ≡ true) (wd : well_formed kind c d ≡ true) where
  -- a well-formed key has one packed number
  packed_injective : packed kind a b ≡ packed kind c d → (a ≡ c) × (b ≡ d)
  packed_injective e = by_words kind (λ f. two (wide_pair kind f)) (λ f. two (wide_mixed kind f)) (λ p q. one p q)
    where
      two : is_wide kind ≡ true → (a ≡ c) × (b ≡ d)
      two w =
          one_pair a hb c hd (sym (packed_wide kind a b w) ∙ e ∙ packed_wide kind c d w)

      one : kind.number ≢ 4 → kind.number ≢ 5 → (a ≡ c) × (b ≡ d)
      one p q =
          let w = wide_word kind p q in (
            sym (packed_word kind a b w) ∙ e ∙ packed_word kind c d w,
            eqb-true b 0 (sym (well_formed_word kind a b p q) ∙ wb) ∙ sym (eqb-true d 0 (sym (well_formed_word kind c d p q) ∙ wd)),
          )

  parts_same : form (parts kind) (packed kind a b) ≡ form (parts kind) (packed kind c d) → packed kind a b ≡ packed kind c d
  unfolding width
  parts_same = form_injective (parts kind) (packed_fits kind a b ha hb wb) (packed_fits kind c d hc hd wd)

  parts_keep : distance (width kind) (form (parts kind) (packed kind a b)) (form (parts kind) (packed kind c d)) ≡ distance (width kind) (packed kind a b) (packed kind c d)
  unfolding width
  parts_keep = form_keeps (parts kind) (packed_fits kind a b ha hb wb) (packed_fits kind c d hc hd wd)

  -- a float is packed as its pattern
  float_packed : kind.number ≡ 6 → (packed kind a b ≡ a) × (packed kind c d ≡ c) × (width kind ≡ 64)
  float_packed e =
      let four : kind.number ≢ 4 = λ f. omega arith in
      let five : kind.number ≢ 5 = λ f. omega arith in
      let w = wide_word kind four five in
      (packed_word kind a b w, packed_word kind c d w, width_word kind four five)

  -- the ordered form tells well-formed keys apart
  pub ordered_injective : ordered kind a b ≡ ordered kind c d → (a ≡ c) × (b ≡ d)
  ordered_injective e = packed_injective (by_float kind
      (λ f. let p = float_packed f in p.0 ∙ float_injective a c ha hc (sym (ordered_float kind a b f) ∙ e ∙ ordered_float kind c d f) ∙ sym p.1)
      (λ q. parts_same (sym (ordered_parts kind a b q) ∙ e ∙ ordered_parts kind c d q)))

  -- and two keys are as far apart as their packed numbers
  pub ordered_keeps : distance (width kind) (ordered kind a b) (ordered kind c d) ≡ distance (width kind) (packed kind a b) (packed kind c d)
  ordered_keeps = by_float kind
      (λ f. let p = float_packed f in rw (ordered_float kind a b f, ordered_float kind c d f, p.0, p.1, p.2) (float_keeps a c ha hc))
      (λ q. ap₂ (distance (width kind)) (ordered_parts kind a b q) (ordered_parts kind c d q) ∙ parts_keep)

-- ---- keys of one word and pairs, in their words

module _ (a b : ℕ) (ha : a < 2 ^ 64) (hb : b < 2 ^ 64) (c d : ℕ) (hc : c < 2 ^ 64) (hd : d < 2 ^ 64) where
  -- in every kind of one word two keys are as far apart as their words
  pub distance_word : (kind : Kind) → kind.number ≢ 4 → kind.number ≢ 5 → distance (width kind) (ordered kind a b) (ordered kind c d) ≡ distance 64 a c
  distance_word kind p q =
      let w = wide_word kind p q in
      ap₂ (distance (width kind)) (ordered_second kind a b 0 w) (ordered_second kind c d 0 w)
      ∙ ordered_keeps kind a 0 ha (pow_pos 64) c 0 hc (pow_pos 64) (well_formed_word kind a 0 p q) (well_formed_word kind c 0 p q)
      ∙ rw (packed_word kind a 0 w, packed_word kind c 0 w, width_word kind p q) refl

  -- the second words of pairs count only if the first are equal
  pub distance_first : a ≢ c → distance 128 (a * 2 ^ 64 + b) (c * 2 ^ 64 + d) ≡ 64 + distance 64 a c
  distance_first q = pair_first 64 hb hd 64 ha hc q

  pub distance_second : a ≡ c → distance 128 (a * 2 ^ 64 + b) (c * 2 ^ 64 + d) ≡ distance 64 b d
  distance_second e = rw e (pair_second 64 hb hd 64 c)

  pub order_first : a ≢ c → ltb (c * 2 ^ 64 + d) (a * 2 ^ 64 + b) ≡ ltb c a
  order_first = pair_order_first 64 a b c d hb hd

  pub order_second : a ≡ c → ltb (c * 2 ^ 64 + d) (a * 2 ^ 64 + b) ≡ ltb d b
  order_second e = rw e (pair_order_second 64 c b d)

-- ---- the typed keys: an ordered form is that of the key's one part
pub ordered_formed : (kind : Kind) (a b : ℕ) → a < 2 ^ 64 → kind.number ≢ 4 → kind.number ≢ 5 → kind.number ≢ 6 → ordered kind a b ≡ formed 64 (word_sort kind.number) a
ordered_formed kind a b ha four five six = ordered_word kind a b four five six ∙ form_one 64 (word_sort kind.number) ha

pub as_signed_word : (kind : Kind) (a b : ℕ) → a < 2 ^ 64 → kind.number ≡ 2 → formed 64 signed a ≡ ordered kind a b
unfolding word_sort
as_signed_word kind a b ha e =
    ap (λ (s : Sort). formed 64 s a) (sym (ap word_sort e)) ∙ sym (ordered_formed kind a b ha (λ f. omega arith) (λ f. omega arith) (λ f. omega arith))

pub as_reversed : (kind : Kind) (a b : ℕ) → a < 2 ^ 64 → kind.number ≡ 3 → formed 64 reversed a ≡ ordered kind a b
unfolding word_sort
as_reversed kind a b ha e =
    ap (λ (s : Sort). formed 64 s a) (sym (ap word_sort e)) ∙ sym (ordered_formed kind a b ha (λ f. omega arith) (λ f. omega arith) (λ f. omega arith))

pub as_pair : (kind : Kind) (a b : ℕ) → a < 2 ^ 64 → b < 2 ^ 64 → kind.number ≡ 4 → pair_form a b ≡ ordered kind a b
as_pair kind a b ha hb e = sym (ordered_pair kind a b e ∙ form_two (pair_fits 64 64 ha hb))

pub as_float : (kind : Kind) (a b : ℕ) → kind.number ≡ 6 → float_form a ≡ ordered kind a b
as_float kind a b e = sym (ordered_float kind a b e)

pub as_plain : (kind : Kind) (a b : ℕ) → a < 2 ^ 64 → kind.number ≢ 2 → kind.number ≢ 3 → kind.number ≢ 4 → kind.number ≢ 5 → kind.number ≢ 6 → formed 64 unsigned a ≡ ordered kind a b
unfolding word_sort
as_plain kind a b ha two three four five six =
    sym (ordered_formed kind a b ha four five six
    ∙ ap₂ (λ (x y : Bool). formed 64 (cond x reversed (cond y signed unsigned)) a) (ne_eqb kind.number 3 three) (ne_eqb kind.number 2 two))

-- where the first words of pairs differ the second ones may be left unread
module _ (a b : ℕ) (ha : a < 2 ^ 64) (hb : b < 2 ^ 64) (c d : ℕ) (hc : c < 2 ^ 64) (hd : d < 2 ^ 64) (kind : Kind) (four : kind.number ≡ 4) (q : a ≢ c) where
  -- what two pairs keep with other second words
  pairs : {A : Type 0} (f : ℕ → ℕ → A) → f (pair_form a 0) (pair_form c 0) ≡ f (pair_form a b) (pair_form c d) → f (ordered kind a 0) (ordered kind c 0) ≡ f (ordered kind a b) (ordered kind c d)
  pairs f e =
      ap₂ f (sym (as_pair kind a 0 ha (pow_pos 64) four)) (sym (as_pair kind c 0 hc (pow_pos 64) four)) ∙ e
      ∙ ap₂ f (as_pair kind a b ha hb four) (as_pair kind c d hc hd four)

  pub distance_unread : distance (width kind) (ordered kind a 0) (ordered kind c 0) ≡ distance (width kind) (ordered kind a b) (ordered kind c d)
  distance_unread = pairs (distance (width kind))
      (rw (width_pair kind four) (distance_first a 0 ha (pow_pos 64) c 0 hc (pow_pos 64) q ∙ sym (distance_first a b ha hb c d hc hd q)))

  pub order_unread : ltb (ordered kind c 0) (ordered kind a 0) ≡ ltb (ordered kind c d) (ordered kind a b)
  order_unread = pairs (λ (x y : ℕ). ltb y x)
      (order_first a 0 ha (pow_pos 64) c 0 hc (pow_pos 64) q ∙ sym (order_first a b ha hb c d hc hd q))

-- ---- signed numbers
-- the ordered form of a number is that of its word
pub number_word : (z : ℤ) (w : ℕ) → z +ℤ pos (2 ^ 63) ≡ pos (formed 64 signed w) → ordered_number z ≡ formed 64 signed w
unfolding ordered_number
number_word z w e = ap nat_abs e

module _ (y z : ℤ) (fy : mag y < 2 ^ 63) (fz : mag z < 2 ^ 63) where
  pub number_order : ltb (ordered_number y) (ordered_number z) ≡ lt_z y z
  unfolding ordered_number
  number_order = moved_order (2 ^ 63) y z fy fz

-- a number has one word, and a word one number, so what turns one into the other has one answer
pub one_word_lem : (z : ℤ) {v w : ℕ} → v < 2 ^ 64 → w < 2 ^ 64 → z +ℤ pos (2 ^ 63) ≡ pos (formed 64 signed v) → z +ℤ pos (2 ^ 63) ≡ pos (formed 64 signed w) → v ≡ w
one_word_lem z {v} {w} hv hw e f = formed_injective 64 signed hv hw (ap mag (sym e ∙ f))

pub one_number : (y z : ℤ) (w : ℕ) → y +ℤ pos (2 ^ 63) ≡ pos (formed 64 signed w) → z +ℤ pos (2 ^ 63) ≡ pos (formed 64 signed w) → y ≡ z
one_number y z w e f = moved_injective (pos (2 ^ 63)) y z (e ∙ sym f)

pub as_signed : (kind : Kind) (z : ℤ) (a b : ℕ) → a < 2 ^ 64 → kind.number ≡ 2 → z +ℤ pos (2 ^ 63) ≡ pos (formed 64 signed a) → ordered_number z ≡ ordered kind a b
as_signed kind z a b ha e f = number_word z a f ∙ as_signed_word kind a b ha e

pub distance_as : {w w' p p' q q' : ℕ} → w ≡ w' → p ≡ p' → q ≡ q' → distance w p q ≡ distance w' p' q'
distance_as e f g = rw (e, f, g)

-- ---- mixed keys
-- up to the last number of B bits is below the first of more
up_to : (n k : ℕ) → 0 < n → not (ltb (n - 1) k) ≡ ltb k n
up_to n k p = elim (dec_lt k n) [
  | yes l ↦ ap not (le-ltb (n - 1) k (omega arith)) ∙ sym (lt-ltb k n l)
  | no l ↦ ap not (lt-ltb (n - 1) k (omega arith)) ∙ sym (le-ltb k n (omega arith))
]

module _ (t : Table) where
  pub mixed_fit : table_fits t ≡ true → mixed_parts t ≡ table_parts t
  unfolding mixed_parts
  mixed_fit e = ap (λ (x : Bool). cond x (table_parts t) two_words) e

  pub mixed_unfit : table_fits t ≡ false → mixed_parts t ≡ two_words
  unfolding mixed_parts
  mixed_unfit e = ap (λ (x : Bool). cond x (table_parts t) two_words) e

-- the masks of two words: every bit is the key's, and none is flipped
pub masked_words : Masked (record { full = record { 0 = 2 ^ 64 - 1; 1 = 2 ^ 64 - 1 }; flip = record { 0 = 0; 1 = 0 } }) two_words
unfolding total form
masked_words = record { full = refl; flip = refl }

module _ (kind : Kind) (a b : ℕ) (hb : b < 2 ^ 64) (m : Masks) (lf : m.full.1 < 2 ^ 64) (lm : m.flip.1 < 2 ^ 64) (h : Masked m (mixed_parts kind.table)) (five : kind.number ≡ 5) where
  -- the ordered form, word by word
  pub masked_ordered : masked m a b ≡ ordered kind a b
  unfolding masked
  masked_ordered = sym (ordered_mixed kind a b five ∙ form_words (mixed_parts kind.table) 64 a b hb m.full.0 m.full.1 m.flip.0 m.flip.1 lf lm h.full h.flip)

  -- a bit above the total makes a key greater than the number with all of its bits set
  pub masked_holds : not (ltb (pair_form m.full.0 m.full.1) (pair_form a b)) ≡ well_formed kind a b
  masked_holds =
      let t = total (mixed_parts kind.table) in
      ap (λ (n : ℕ). not (ltb n (pair_form a b))) h.full ∙ up_to (2 ^ t) (pair_form a b) (pow_pos t)
      ∙ sym (well_formed_mixed kind a b five ∙ ap (λ (n : ℕ). ltb (pair_form a b) (2 ^ n)) (width_mixed kind five))

-- mixed keys are measured as two words, whatever their total
pub distance_mixed : (kind : Kind) (a b : ℕ) → a < 2 ^ 64 → b < 2 ^ 64 → (c d : ℕ) → c < 2 ^ 64 → d < 2 ^ 64
    → distance 128 (ordered kind a b) (ordered kind c d) ≡ distance (width kind) (ordered kind a b) (ordered kind c d)
distance_mixed kind a b ha hb c d hc hd = wider (width kind) (ordered kind a b) (ordered kind c d) (ordered_fits kind a b ha hb) (ordered_fits kind c d hc hd) (width_le kind)

-- ---- keys that may stand in a pool
and_left : (x y : Bool) → (x && y) ≡ true → x ≡ true
and_left true y e = refl
and_left false y e = e

pub proper_well : (kind : Kind) (a b : ℕ) → proper kind a b ≡ true → well_formed kind a b ≡ true
unfolding proper
proper_well kind a b e = and_left (well_formed kind a b) (not (nan_key kind a)) e

-- no key but a float is a NaN, and plus zero is none
pub nan_other : (kind : Kind) (a : ℕ) → kind.number ≢ 6 → nan_key kind a ≡ false
unfolding nan_key
nan_other kind a six = ap (λ (x : Bool). x && is_nan a) (ne_eqb kind.number 6 six)

pub nan_zero : (kind : Kind) → nan_key kind 0 ≡ false
unfolding nan_key is_nan
nan_zero kind = elim (eqb kind.number 6) as (λ x. (x && false) ≡ false) [ true ↦ refl | false ↦ refl ]

pub well_proper : (kind : Kind) (a b : ℕ) → well_formed kind a b ≡ true → nan_key kind a ≡ false → proper kind a b ≡ true
unfolding proper
well_proper kind a b e f = ap₂ (λ (x y : Bool). x && not y) e f

pub proper_second : (kind : Kind) (a b : ℕ) → proper kind a b ≡ true → is_wide kind ≡ false → b ≡ 0
proper_second kind a b e s = by_words kind
    (λ f. absurd (true≢false (sym (wide_pair kind f) ∙ s)))
    (λ f. absurd (true≢false (sym (wide_mixed kind f) ∙ s)))
    (λ p q. eqb-true b 0 (sym (well_formed_word kind a b p q) ∙ proper_well kind a b e))

-- the words of a head with no top, and of a free slot
pub proper_zero : (kind : Kind) → proper kind 0 0 ≡ true
proper_zero kind = well_proper kind 0 0
    (by_words kind (well_formed_pair kind 0 0) (λ e. well_formed_mixed kind 0 0 e ∙ lt-ltb 0 (2 ^ width kind) (pow_pos (width kind))) (well_formed_word kind 0 0))
    (nan_zero kind)
