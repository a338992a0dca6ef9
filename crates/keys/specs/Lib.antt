-- What a key is, in this order.
--   Parts    keys of several parts, over any list of parts
--   Tuple    the crate's rule for them, part by part: a later part counts only if the earlier ones are equal
--   Table    the table of a mixed key, and its limits
--   Floats   floats by their patterns
--   Names    the kinds by name
--   Ordered  the kinds: bits, words, ordered forms, well-formed keys
--   Masks    what the code computes from a table
--   Packing  a mixed key made from its parts, and read back
pub mod Parts
pub mod Tuple
pub mod Table
pub mod Floats
pub mod Names
pub mod Ordered
pub mod Masks
pub mod Packing
