-- The laws of keys. What they end in:
--   form_fits, form_injective, form_keeps, order_lead, order_rest, distance_lead, distance_rest, form_joined (PartLaws)   any list of parts
--   kind_1 .. kind_4, width_le, ordered_fits, ordered_injective, ordered_keeps (Ordered)                               the kinds
--   tuple_order, tuple_distance_lem, mixed_order, mixed_distance, kind_order, kind_distance (Tuple)                    part by part, as the crate
--   float_fits, float_injective, float_keeps, zeros_apart, nan_is (Floats), ordered_as_numbers (Numbers)               floats
--   unpack_pack, unpacked_fit, pack_unpack, packed_well, packed_ordered (Packed)                                       mixed keys and their parts
-- Below them: Leading (leading zeros and distance), Order (pairs, reversed numbers), Twos (two's complement), Names (the kinds by name), MaskLaws (flipped bits),
-- Shifts (two words moved up and down), Tables (a table's limits, and its masks part by part). What computes: ExamplesTable (the
-- limits), ExamplesKinds (widths, words, well-formed keys), ExamplesForms (ordered forms), ExamplesFloats (floats), Examples
-- (distances, and a key of three parts).
pub mod Leading
pub mod Order
pub mod Twos
pub mod Names
pub mod MaskLaws
pub mod PartLaws
pub mod Shifts
pub mod Floats
pub mod Numbers
pub mod Ordered
pub mod Tuple
pub mod Tables
pub mod Packed
pub mod ExamplesTable
pub mod ExamplesKinds
pub mod ExamplesForms
pub mod ExamplesFloats
pub mod Examples
