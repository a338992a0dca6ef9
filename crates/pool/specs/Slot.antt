-- The key that the code holds against others: that of a slot.
use Rattle.std.specs.Prelude.{ℕ}
use Rattle.pool.specs.World.{key_word0, key_word1, slot_key}
use Rattle.pool.specs.declared.against.SlotKey.{SlotKey}

abbrev pub first_word : SlotKey → ℕ
first_word s = key_word0 s.kind s.keys.now s.slot

abbrev pub second_word : SlotKey → ℕ
second_word s = key_word1 s.kind s.keys.now s.slot

-- its ordered form
abbrev pub key_of : SlotKey → ℕ
key_of s = slot_key s.kind s.keys.now s.slot
