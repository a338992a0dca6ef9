-- What the code along a chain asks for, on plain values: the key of a slot, its distance from another, and the better of two links.
use Prim.Native.Nat.{ℕ, ◌-◌}
use mathlib.Core.Path.{◌≡◌, refl, sym, ap, ◌∙◌}
use mathlib.Core.Bool.{Bool, cond}
use mathlib.Core.List.{List}
use lib.Dec.{ltb}
use Rattle.rule.specs.Width.{distance}
use Rattle.keys.specs.declared.kind.Kind.{Kind}
use Rattle.keys.specs.Ordered.{width, ordered}
use Rattle.pool.specs.World.{slot_key}
use Rattle.pool.specs.Slot.{key_of}
use Rattle.pool.specs.Core.{better}
use Rattle.pool.specs.declared.against.SlotKey.{SlotKey}

-- the key of slot s among these key words
pub record KeyOf (kind : Kind) (keys : List ℕ) (s : ℕ) (key : SlotKey) : Type 0 where
  pub kind' : key.kind ≡ kind
  pub key' : key_of key ≡ slot_key kind keys s

module _ (kind : Kind) (keys : List ℕ) where
  -- its distance from another key, and whether it is above that, as the code told them
  pub far_as : {s d : ℕ} (a b : ℕ) {key : SlotKey} → KeyOf kind keys s key → d ≡ distance (width key.kind) (key_of key) (ordered key.kind a b)
      → d ≡ distance (width kind) (slot_key kind keys s) (ordered kind a b)
  far_as a b h e = e ∙ rw (h.key', h.kind') refl

  pub above_as : {s : ℕ} {r : Bool} (a b : ℕ) {key : SlotKey} → KeyOf kind keys s key → r ≡ ltb (ordered key.kind a b) (key_of key)
      → r ≡ ltb (ordered kind a b) (slot_key kind keys s)
  above_as a b h e = e ∙ rw (h.key', h.kind') refl

  pub key_as : {link x : ℕ} {key best : SlotKey} → x ≡ link → best ≡ key → KeyOf kind keys (link - 1) key → KeyOf kind keys (x - 1) best
  key_as e f h = rw (e, f) h

  -- the better of two links, by what the test of their slots' keys gave
  pub better_by : {r : Bool} {key best : SlotKey} (t : Bool) (x y : ℕ) → KeyOf kind keys (x - 1) key → KeyOf kind keys (y - 1) best
      → r ≡ ltb (key_of best) (key_of key) → r ≡ t → cond t x y ≡ better kind keys x y
  unfolding better
  better_by t x y a b e f = ap (λ (z : Bool). cond z x y) (sym f ∙ e ∙ rw (a.key', b.key') refl)
