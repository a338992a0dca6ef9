-- Keys of several parts, over any list of parts: the ordered form fits the parts' total and tells packed numbers apart; it is
-- the packed number with fixed bits flipped; a later part counts, in order and in distance, only if the earlier ones are equal.
use mathlib.Core.Path.{◌≡◌, refl, sym, ap, ap₂, subst, ◌∙◌}
use mathlib.Core.Logic.{◌≢◌}
use mathlib.Core.List.{List, [], ◌∷◌}
use Prim.Native.Nat.{ℕ, zero, suc, ◌+◌, ◌-◌, ◌*◌, ◌/◌, ◌%◌, ◌^◌, ◌<◌}
use native.Mathlib.Nat.{zero-div, zero-mod, mod-mod, mod-lt, mod-eq_of_lt, add_comm, sub-zero, zero-add}
use native.Mathlib.Omega.{arith}
use lib.Arith.{lt-one}
use lib.Bits.{bit_xor, bit_and, xor_zero_r, xor_block, and_block, and_mask, and_lt}
use lib.Dec.{ltb}
use lib.Pow.{pow_pos, pow-lt, ones_sub-lt, mod-pow-add, high, low}
use Rattle.rule.specs.Width.{distance}
use Rattle.rule.proofs.Width.{pair_first, pair_second}
use Rattle.keys.specs.Parts.{Sort, unsigned, signed, reversed, Part, total, formed, field, fields, forms, joined, form}
use Rattle.keys.proofs.Order.{pair_fits, pair_order_first, pair_order_second}
use Rattle.keys.proofs.MaskLaws.{xor_back, xor_keeps, flip_all, flip_top}

-- ---- one part of w bits
-- the ordered form is the part with the bits flipped that the ordered form of 0 has
pub formed_flips : (w : ℕ) (s : Sort) {x : ℕ} → x < 2 ^ w → formed w s x ≡ bit_xor x (formed w s 0)
unfolding formed
formed_flips w unsigned {x} h = sym (xor_zero_r x)
formed_flips zero signed {x} h = ap (λ (y : ℕ). (y + 1) % 1) (lt-one h) ∙ sym (xor_zero_r x ∙ lt-one h)
formed_flips (suc k) signed {x} h =
    let half : 2 ^ (suc k - 1) ≡ 2 ^ k = ap (λ (n : ℕ). 2 ^ n) (omega arith) in
    let zeroth : (0 + 2 ^ (suc k - 1)) % 2 ^ suc k ≡ 2 ^ k = ap (λ (y : ℕ). (0 + y) % 2 ^ suc k) half ∙ ap (λ (y : ℕ). y % 2 ^ suc k) (zero-add (2 ^ k)) ∙ mod-eq_of_lt (pow-lt (omega arith)) in
    ap (λ (y : ℕ). (x + y) % 2 ^ suc k) half ∙ sym (flip_top k x h) ∙ ap (bit_xor x) (sym zeroth)
formed_flips w reversed {x} h = sym (flip_all w x h) ∙ ap (bit_xor x) (sym (sub-zero (2 ^ w - 1)))

pub formed_fits : (w : ℕ) (s : Sort) {x : ℕ} → x < 2 ^ w → formed w s x < 2 ^ w
unfolding formed
formed_fits w unsigned h = h
formed_fits w signed {x} h = mod-lt (x + 2 ^ (w - 1)) (pow_pos w)
formed_fits w reversed {x} h = ones_sub-lt w x

-- so it tells the numbers of w bits apart, and keeps their distances
module _ (w : ℕ) (s : Sort) {x y : ℕ} (hx : x < 2 ^ w) (hy : y < 2 ^ w) where
  pub formed_injective : formed w s x ≡ formed w s y → x ≡ y
  formed_injective e = sym (xor_back x (formed w s 0)) ∙ ap (λ (n : ℕ). bit_xor n (formed w s 0)) (sym (formed_flips w s hx) ∙ e ∙ formed_flips w s hy) ∙ xor_back y (formed w s 0)

  pub formed_keeps : distance w (formed w s x) (formed w s y) ≡ distance w x y
  formed_keeps = ap₂ (distance w) (formed_flips w s hx) (formed_flips w s hy) ∙ xor_keeps w (formed w s 0) x y (formed_fits w s (pow_pos w)) hx hy

-- ---- the first part and the rest
-- the ordered form of the first part
unfoldable pub lead : Part → List Part → ℕ → ℕ
lead p ps k = formed p.bits p.sort (field p ps k)

field_fits : (p : Part) (ps : List Part) (k : ℕ) → field p ps k < 2 ^ p.bits
unfolding field
field_fits p ps k = mod-lt (k / 2 ^ total ps) (pow_pos p.bits)

pub lead_fits : (p : Part) (ps : List Part) (k : ℕ) → lead p ps k < 2 ^ p.bits
unfolding lead
lead_fits p ps k = formed_fits p.bits p.sort (field_fits p ps k)

pub form_cons : (p : Part) (ps : List Part) (k : ℕ) → form (p ∷ ps) k ≡ lead p ps k * 2 ^ total ps + form ps (k % 2 ^ total ps)
unfolding form lead
form_cons p ps k = refl

-- the ordered form has as many bits as the parts
pub form_fits : (ps : List Part) (k : ℕ) → form ps k < 2 ^ total ps
unfolding form total
form_fits [] k = pow_pos 0
form_fits (p ∷ ps) k = subst (λ n. n < 2 ^ (p.bits + total ps)) (sym (form_cons p ps k)) (pair_fits (total ps) p.bits (lead_fits p ps k) (form_fits ps (k % 2 ^ total ps)))

-- a packed number of as many bits is its first part and the rest
unpacked : (p : Part) (ps : List Part) (k : ℕ) → k % 2 ^ (p.bits + total ps) ≡ field p ps k * 2 ^ total ps + k % 2 ^ total ps
unfolding field
unpacked p ps k = mod-pow-add k p.bits (total ps)

pub lead_zero : (p : Part) (ps : List Part) → lead p ps 0 ≡ formed p.bits p.sort 0
unfolding lead field
lead_zero p ps = ap (formed p.bits p.sort) (ap (λ (n : ℕ). n % 2 ^ p.bits) (zero-div (2 ^ total ps)) ∙ zero-mod (2 ^ p.bits))

lead_flips : (p : Part) (ps : List Part) (k : ℕ) → lead p ps k ≡ bit_xor (field p ps k) (lead p ps 0)
unfolding lead
lead_flips p ps k = formed_flips p.bits p.sort (field_fits p ps k) ∙ ap (bit_xor (field p ps k)) (sym (lead_zero p ps))

-- ---- the ordered form is the packed number with the bits flipped that the ordered form of 0 has
pub form_flips : (ps : List Part) (k : ℕ) → form ps k ≡ bit_xor (k % 2 ^ total ps) (form ps 0)
unfolding form total
form_flips [] k = sym (xor_zero_r (k % 1) ∙ lt-one (mod-lt k (pow_pos 0)))
form_flips (p ∷ ps) k =
    let t = total ps in
    let l = k % 2 ^ t in
    let first : lead p ps k ≡ bit_xor (field p ps k) (lead p ps 0) = lead_flips p ps k in
    let rest : form ps l ≡ bit_xor l (form ps (0 % 2 ^ t)) = form_flips ps l ∙ ap₂ bit_xor (mod-mod k (2 ^ t)) (ap (form ps) (sym (zero-mod (2 ^ t)))) in
    form_cons p ps k ∙ ap₂ (λ (x y : ℕ). x * 2 ^ t + y) first rest
    ∙ sym (xor_block t (field p ps k) (lead p ps 0) l (form ps (0 % 2 ^ t)) (mod-lt k (pow_pos t)) (form_fits ps (0 % 2 ^ t)))
    ∙ ap₂ bit_xor (sym (unpacked p ps k)) (sym (form_cons p ps 0))

-- so packed numbers of the parts' total are told apart, and are as far apart as their ordered forms
module _ (ps : List Part) {a b : ℕ} (ha : a < 2 ^ total ps) (hb : b < 2 ^ total ps) where
  form_whole : {k : ℕ} → k < 2 ^ total ps → form ps k ≡ bit_xor k (form ps 0)
  form_whole {k} h = form_flips ps k ∙ ap (λ (n : ℕ). bit_xor n (form ps 0)) (mod-eq_of_lt h)

  pub form_injective : form ps a ≡ form ps b → a ≡ b
  form_injective e = sym (xor_back a (form ps 0)) ∙ ap (λ (n : ℕ). bit_xor n (form ps 0)) (sym (form_whole ha) ∙ e ∙ form_whole hb) ∙ xor_back b (form ps 0)

  pub form_keeps : distance (total ps) (form ps a) (form ps b) ≡ distance (total ps) a b
  form_keeps = ap₂ (distance (total ps)) (form_whole ha) (form_whole hb) ∙ xor_keeps (total ps) (form ps 0) a b (form_fits ps 0) ha hb

-- bits above the parts' total are no part of the key
pub form_low : (ps : List Part) (k : ℕ) → form ps (k % 2 ^ total ps) ≡ form ps k
form_low ps k = form_flips ps (k % 2 ^ total ps) ∙ ap (λ (n : ℕ). bit_xor n (form ps 0)) (mod-mod k (2 ^ total ps)) ∙ sym (form_flips ps k)

-- ---- "a later part counts only if the earlier ones are equal"
module _ (p : Part) (ps : List Part) (a b : ℕ) where
  rest_fits : (k : ℕ) → form ps (k % 2 ^ total ps) < 2 ^ total ps
  rest_fits k = form_fits ps (k % 2 ^ total ps)

  pub order_lead : lead p ps a ≢ lead p ps b → ltb (form (p ∷ ps) a) (form (p ∷ ps) b) ≡ ltb (lead p ps a) (lead p ps b)
  order_lead q = ap₂ ltb (form_cons p ps a) (form_cons p ps b) ∙ pair_order_first (total ps) (lead p ps b) _ (lead p ps a) _ (rest_fits b) (rest_fits a) (λ e. q (sym e))

  pub order_rest : lead p ps a ≡ lead p ps b → ltb (form (p ∷ ps) a) (form (p ∷ ps) b) ≡ ltb (form ps a) (form ps b)
  order_rest e =
      ap₂ ltb (form_cons p ps a ∙ ap (λ (n : ℕ). n * 2 ^ total ps + form ps (a % 2 ^ total ps)) e) (form_cons p ps b)
      ∙ pair_order_second (total ps) (lead p ps b) (form ps (b % 2 ^ total ps)) (form ps (a % 2 ^ total ps)) ∙ ap₂ ltb (form_low ps a) (form_low ps b)

  pub distance_lead : lead p ps a ≢ lead p ps b → distance (total (p ∷ ps)) (form (p ∷ ps) a) (form (p ∷ ps) b) ≡ total ps + distance p.bits (lead p ps a) (lead p ps b)
  unfolding total
  distance_lead q =
      ap (λ (n : ℕ). distance n (form (p ∷ ps) a) (form (p ∷ ps) b)) (add_comm p.bits (total ps))
      ∙ ap₂ (distance (total ps + p.bits)) (form_cons p ps a) (form_cons p ps b)
      ∙ pair_first (total ps) (rest_fits a) (rest_fits b) p.bits (lead_fits p ps a) (lead_fits p ps b) q

  pub distance_rest : lead p ps a ≡ lead p ps b → distance (total (p ∷ ps)) (form (p ∷ ps) a) (form (p ∷ ps) b) ≡ distance (total ps) (form ps a) (form ps b)
  unfolding total
  distance_rest e =
      ap (λ (n : ℕ). distance n (form (p ∷ ps) a) (form (p ∷ ps) b)) (add_comm p.bits (total ps))
      ∙ ap₂ (distance (total ps + p.bits)) (form_cons p ps a ∙ ap (λ (n : ℕ). n * 2 ^ total ps + form ps (a % 2 ^ total ps)) e) (form_cons p ps b)
      ∙ pair_second (total ps) (rest_fits a) (rest_fits b) p.bits (lead p ps b)
      ∙ ap₂ (distance (total ps)) (form_low ps a) (form_low ps b)

  -- the first parts' ordered forms are equal just if the first parts are
  pub lead_same : lead p ps a ≡ lead p ps b → field p ps a ≡ field p ps b
  unfolding lead
  lead_same e = formed_injective p.bits p.sort (field_fits p ps a) (field_fits p ps b) e

-- ---- the two words of a packed number, where the parts have at most H + L bits: the low word has L
module _ (ps : List Part) (L a b : ℕ) (hb : b < 2 ^ L) (full₁ full₀ flip₁ flip₀ : ℕ) (lf : full₀ < 2 ^ L) (lm : flip₀ < 2 ^ L)
    (full : full₁ * 2 ^ L + full₀ ≡ 2 ^ total ps - 1) (flip : flip₁ * 2 ^ L + flip₀ ≡ form ps 0) where
  pub form_words : form ps (a * 2 ^ L + b) ≡ bit_xor (bit_and a full₁) flip₁ * 2 ^ L + bit_xor (bit_and b full₀) flip₀
  form_words =
      form_flips ps (a * 2 ^ L + b)
      ∙ ap₂ bit_xor (sym (and_mask (a * 2 ^ L + b) (total ps)) ∙ ap (bit_and (a * 2 ^ L + b)) (sym full) ∙ and_block L a full₁ b full₀ hb lf) (sym flip)
      ∙ xor_block L (bit_and a full₁) flip₁ (bit_and b full₀) flip₀ (and_lt L b full₀ hb lf) lm

-- ---- parts that fit are what a packed number is made of
pub data Parted : List Part → List ℕ → Type 0 where
  none : Parted [] []
  some : {p : Part} {ps : List Part} {x : ℕ} {xs : List ℕ} → x < 2 ^ p.bits → Parted ps xs → Parted (p ∷ ps) (x ∷ xs)

pub joined_fits : {ps : List Part} {xs : List ℕ} → Parted ps xs → joined ps xs < 2 ^ total ps
unfolding joined total
joined_fits none = pow_pos 0
joined_fits (some {p} {ps} {x} {xs} l h) = pair_fits (total ps) p.bits l (joined_fits h)

pub fields_joined : {ps : List Part} {xs : List ℕ} → Parted ps xs → fields ps (joined ps xs) ≡ xs
unfolding fields field joined
fields_joined none = refl
fields_joined (some {p} {ps} {x} {xs} l h) =
    let k = x * 2 ^ total ps + joined ps xs in
    let first : k / 2 ^ total ps % 2 ^ p.bits ≡ x = ap (λ (n : ℕ). n % 2 ^ p.bits) (high x (total ps) (joined_fits h)) ∙ mod-eq_of_lt l in
    let rest : fields ps (k % 2 ^ total ps) ≡ xs = ap (fields ps) (low x (total ps) (joined_fits h)) ∙ fields_joined h in
    ap₂ (λ (y : ℕ) (ys : List ℕ). y ∷ ys) first rest

-- and every packed number is made of its parts; what is above their total is no part of it
pub fields_parted : (ps : List Part) (k : ℕ) → Parted ps (fields ps k)
unfolding fields
fields_parted [] k = none
fields_parted (p ∷ ps) k = some (field_fits p ps k) (fields_parted ps (k % 2 ^ total ps))

pub joined_fields : (ps : List Part) (k : ℕ) → joined ps (fields ps k) ≡ k % 2 ^ total ps
unfolding joined fields total
joined_fields [] k = sym (lt-one (mod-lt k (pow_pos 0)))
joined_fields (p ∷ ps) k = ap (λ (n : ℕ). field p ps k * 2 ^ total ps + n) (joined_fields ps (k % 2 ^ total ps) ∙ mod-mod k (2 ^ total ps)) ∙ sym (unpacked p ps k)

-- so the ordered form of packed parts is their ordered forms, joined
pub form_joined : {ps : List Part} {xs : List ℕ} → Parted ps xs → form ps (joined ps xs) ≡ joined ps (forms ps xs)
unfolding form
form_joined {ps} {xs} h = ap (λ (ys : List ℕ). joined ps (forms ps ys)) (fields_joined h)
