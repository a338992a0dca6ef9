-- What the code that holds a slot's key against another asks for, on plain values: where the first words decide, the second ones need not
-- be read.
use Prim.Native.Nat.{ℕ, ◌+◌, ◌*◌, ◌^◌, ◌<◌}
use mathlib.Core.Path.{◌≡◌, refl, sym, ap, ◌∙◌}
use mathlib.Core.Bool.{Bool, true, false, cond, not, ◌&&◌, true≢false}
use mathlib.Core.Logic.{◌≢◌}
use mathlib.Core.List.{List}
use native.Mathlib.Decide.{ℕ_discrete}
use native.Mathlib.Omega.{arith}
use borrow.Author.Tests.{not-true, eqb-true, eqb-false}
use lib.Dec.{ltb, eqb}
use lib.ListN.{length, get_or}
use lib.Pow.{pow_pos}
use Rattle.rule.specs.Width.{distance}
use Rattle.keys.specs.declared.kind.Kind.{Kind}
use Rattle.keys.specs.Ordered.{width, ordered, is_wide, proper}
use Rattle.keys.proofs.Ordered.{wide_word, well_formed_pair, well_formed_word, nan_other, well_proper, distance_unread, order_unread}
use Rattle.pool.specs.World.{key_word0, key_word1, slot_key}
use Rattle.pool.specs.Fine.{Holds}

-- in every kind there is a word at the slot's own number
pub holds_low : (kind : Kind) {keys : List ℕ} {s : ℕ} → Holds kind keys s → s < length keys
holds_low kind {keys} {s} h = go (is_wide kind) refl
  where
    go : (t : Bool) → is_wide kind ≡ t → s < length keys
    go true e = omega (arith, h.wide e)
    go false e = h.narrow e

second_none : (kind : Kind) (keys : List ℕ) (s : ℕ) → is_wide kind ≡ false → key_word1 kind keys s ≡ 0
unfolding key_word1
second_none kind keys s e = ap (λ (t : Bool). cond t (get_or keys (2 * s + 1) 0) 0) e

-- in every kind but 5 and 6 whatever stands in a slot is a key
pub bare_proper : (kind : Kind) (keys : List ℕ) (s : ℕ) → kind.number ≢ 5 → kind.number ≢ 6 → proper kind (key_word0 kind keys s) (key_word1 kind keys s) ≡ true
bare_proper kind keys s five six =
    well_proper kind (key_word0 kind keys s) (key_word1 kind keys s)
    (elim (ℕ_discrete kind.number 4) [
      | yes e ↦ well_formed_pair kind (key_word0 kind keys s) (key_word1 kind keys s) e
      | no four ↦
          well_formed_word kind (key_word0 kind keys s) (key_word1 kind keys s) four five ∙ ap (λ (n : ℕ). eqb n 0) (second_none kind keys s (wide_word kind four five))
    ])
    (nan_other kind (key_word0 kind keys s) six)

pub word1_fits : (kind : Kind) (keys : List ℕ) (s : ℕ) → get_or keys (2 * s + 1) 0 < 2 ^ 64 → key_word1 kind keys s < 2 ^ 64
unfolding key_word1
word1_fits kind keys s h = go (is_wide kind)
  where
    go : (t : Bool) → cond t (get_or keys (2 * s + 1) 0) 0 < 2 ^ 64
    go true = h
    go false = pow_pos 64

-- the slot's first word is a, the other key's words are c and d, and r is what the test gave
module _ (kind : Kind) (keys : List ℕ) (s : ℕ) {a : ℕ} (ea : a ≡ key_word0 kind keys s) (ha : a < 2 ^ 64) (hb : key_word1 kind keys s < 2 ^ 64)
    (c d : ℕ) (hc : c < 2 ^ 64) (hd : d < 2 ^ 64) {r : Bool} (e : r ≡ (eqb kind.number 4 && not (eqb a c))) (t : r ≡ true) where
  differ : (kind.number ≡ 4) × (a ≢ c)
  differ = go (eqb kind.number 4) refl (sym e ∙ t)
    where
      go : (pair : Bool) → eqb kind.number 4 ≡ pair → (pair && not (eqb a c)) ≡ true → (kind.number ≡ 4) × (a ≢ c)
      go true f p = (eqb-true kind.number 4 f, eqb-false a c (not-true _ p))
      go false f p = absurd (true≢false (sym p))

  pub far_unread : distance (width kind) (ordered kind a 0) (ordered kind c 0) ≡ distance (width kind) (slot_key kind keys s) (ordered kind c d)
  far_unread = distance_unread a (key_word1 kind keys s) ha hb c d hc hd kind differ.0 differ.1 ∙ rw ea

  pub above_unread : ltb (ordered kind c 0) (ordered kind a 0) ≡ ltb (ordered kind c d) (slot_key kind keys s)
  above_unread = order_unread a (key_word1 kind keys s) ha hb c d hc hd kind differ.0 differ.1 ∙ rw ea
