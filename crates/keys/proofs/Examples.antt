-- Document 01's example 7, distances of pairs: (1, 0) to (0, 2 ^ 64 - 1) is 65, and (1, 1) to (1, 0) is 1. Then distances
-- in every kind and at every part, and a mixed key of day, road and a reversed priority.
use mathlib.Core.Path.{◌≡◌, refl}
use mathlib.Core.Bool.{Bool, true, ◌&&◌}
use mathlib.Core.List.{[], ◌∷◌}
use Prim.Native.Nat.{ℕ, ◌+◌, ◌*◌, ◌-◌, ◌/◌, ◌%◌, ◌^◌}
use lib.Dec.{eqb, ltb}
use Rattle.rule.specs.Width.{distance}
use Rattle.keys.specs.declared.kind.Kind.{Kind}
use Rattle.keys.specs.declared.packing.Parts.{Parts}
use Rattle.keys.specs.Table.{bare, table_of}
use Rattle.keys.specs.Ordered.{width, ordered, well_formed}
use Rattle.keys.specs.Packing.{parts_fit, packed_of, parts_of}
use Rattle.keys.proofs.ExamplesTable.{all, none, mixed}

-- the first words differ in their lowest bit
pub pair_far : distance (width (bare 4)) (ordered (bare 4) 1 0) (ordered (bare 4) 0 (2 ^ 64 - 1)) ≡ 65
unfolding distance width ordered
pair_far = refl

-- the second ones do
pub pair_near : distance (width (bare 4)) (ordered (bare 4) 1 1) (ordered (bare 4) 1 0) ≡ 1
unfolding distance width ordered
pair_near = refl

-- ---- distances

-- the distance of the keys with these words is d
abbrev apart : Kind → ℕ → ℕ → ℕ → ℕ → ℕ → Bool
apart kind a0 a1 b0 b1 d = eqb (distance (width kind) (ordered kind a0 a1) (ordered kind b0 b1)) d

-- kinds 1 to 4: equal keys, 2 and 3, 3 and 4, -1 and 0, the least pattern and the greatest; in pairs the first words decide if they differ
pub kind_distances : all (apart (bare 1) 5 0 5 0 0 ∷ apart (bare 1) 2 0 3 0 1 ∷ apart (bare 1) 3 0 4 0 3 ∷ apart (bare 1) 0 0 (2 ^ 64 - 1) 0 64
    ∷ apart (bare 2) 5 0 5 0 0 ∷ apart (bare 2) 2 0 3 0 1 ∷ apart (bare 2) (2 ^ 64 - 1) 0 0 0 64 ∷ apart (bare 2) (2 ^ 64 - 1) 0 (2 ^ 64 - 2) 0 1 ∷ apart (bare 2) (2 ^ 63) 0 (2 ^ 63 - 1) 0 64
    ∷ apart (bare 3) 5 0 5 0 0 ∷ apart (bare 3) 2 0 3 0 1 ∷ apart (bare 3) 3 0 4 0 3 ∷ apart (bare 3) 0 0 (2 ^ 64 - 1) 0 64
    ∷ apart (bare 4) 5 6 5 6 0 ∷ apart (bare 4) 2 9 3 9 65 ∷ apart (bare 4) 0 0 (2 ^ 64 - 1) 0 128 ∷ apart (bare 4) 7 3 7 4 3 ∷ []) ≡ true
unfolding distance width ordered
kind_distances = refl

-- a part of w bits with code c: 2 and 3, and all its bits, as the second of two parts; then as the first, with 8 bits below
abbrev spans : ℕ → ℕ → Bool
spans w c =
    all (apart (mixed 8 c 0 0) 0 2 0 3 1 ∷ apart (mixed 8 c 0 0) 0 0 0 (2 ^ w - 1) w
    ∷ apart (mixed c 8 0 0) 0 (2 * 2 ^ 8 + 1) 0 (3 * 2 ^ 8 + 255) 9 ∷ apart (mixed c 8 0 0) 0 0 ((2 ^ w - 1) * 2 ^ 8 / 2 ^ 64) ((2 ^ w - 1) * 2 ^ 8 % 2 ^ 64) (w + 8) ∷ [])

-- for each of the twelve codes
pub part_distances : all (spans 8 8 ∷ spans 8 9 ∷ spans 8 10 ∷ spans 16 16 ∷ spans 16 17 ∷ spans 16 18
    ∷ spans 32 32 ∷ spans 32 33 ∷ spans 32 34 ∷ spans 64 64 ∷ spans 64 65 ∷ spans 64 66 ∷ []) ≡ true
unfolding distance width ordered
part_distances = refl

-- ---- a key of day, road and priority

-- day of 32 bits, road of 16, reversed priority of 8: 56 bits, all in the second word
abbrev job : Kind
job = mixed 32 16 10 0

abbrev at : ℕ → ℕ → ℕ → ℕ
at day road priority = day * 2 ^ 24 + road * 2 ^ 8 + priority

-- 32 + 16 + 8
pub job_width : width job ≡ 56
unfolding width
job_width = refl

-- the priority 3 counts as 252; an earlier day is below whatever follows; on one day and road the smaller priority is greater
pub job_order : (eqb (ordered job 0 (at 1 2 3)) (at 1 2 252) && ltb (ordered job 0 (at 1 9 0)) (ordered job 0 (at 2 0 255)) && ltb (ordered job 0 (at 1 2 4)) (ordered job 0 (at 1 2 3))) ≡ true
unfolding ordered
job_order = refl

-- a later part counts only if the earlier ones are equal: day 2 and day 3 differ in bit 1 of the day, above 24 bits; roads 2 and 3 above 8
pub job_distance : (eqb (distance 56 (ordered job 0 (at 2 0 9)) (ordered job 0 (at 3 7 1))) 25 && eqb (distance 56 (ordered job 0 (at 2 2 9)) (ordered job 0 (at 2 3 1))) 9 && eqb (distance 56 (ordered job 0 (at 2 2 9)) (ordered job 0 (at 2 2 8))) 1) ≡ true
unfolding distance ordered
job_distance = refl

-- no bit above the total
pub job_bits : well_formed job 0 (2 ^ 56 - 1) ≡ true
unfolding well_formed
job_bits = refl

-- "a key with a bit set above its total"
pub job_bit_above : none (well_formed job 0 (2 ^ 56) ∷ well_formed job 1 0 ∷ []) ≡ true
unfolding well_formed
job_bit_above = refl

-- a part that lies in both words: 8 bits, 64 signed bits, 8 bits. The number -1 is below 0, and stands from bit 71 down to bit 8.
pub across : ltb (ordered (mixed 8 65 8 0) (2 ^ 8 - 1) (2 ^ 64 - 1)) (ordered (mixed 8 65 8 0) 0 0) ≡ true
unfolding ordered
across = refl

-- the planning desk's line: day 1, road 2, priority 3; a road of 17 bits and a part that the table does not have are refused
abbrev line : ℕ → ℕ → ℕ → ℕ → Parts
line a b c d = record { first = a; second = b; third = c; fourth = d }

pub job_packed : (parts_fit job.table (line 1 2 3 0) && eqb (packed_of job.table (line 1 2 3 0)) (at 1 2 3)) ≡ true
unfolding packed_of
job_packed = refl

pub job_unpacked : parts_of job.table (at 1 2 3) ≡ line 1 2 3 0
unfolding parts_of
job_unpacked = refl

-- of what does not fit no bit is packed, and a table that breaks its limits has no parts
pub none_packed : (eqb (packed_of job.table (line 1 (2 ^ 16) 3 0)) 0 && eqb (packed_of (table_of 8 0 8 0) (line 1 0 1 0)) 0) ≡ true
unfolding packed_of
none_packed = refl

pub none_unpacked : parts_of (table_of 8 0 8 0) (2 ^ 16 + 1) ≡ line 0 0 0 0
unfolding parts_of
none_unpacked = refl

pub job_refused : none (parts_fit job.table (line 1 (2 ^ 16) 3 0) ∷ parts_fit job.table (line 1 2 3 1) ∷ []) ≡ true
unfolding parts_fit
job_refused = refl
