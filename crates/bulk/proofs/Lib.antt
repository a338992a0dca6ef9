-- The laws of the bulk push. What they end in:
--   extended_refused, extend_whole, extended_is_the_pushes (Promises)    what a reader may take from `extended`
--   determined_extend (Promises)                                        no second outcome
--   refused_is, taken_is (Each)                                         the test of all entries answers as single pushes in order would
-- Code..: what the proofs of the code lean on.
pub mod Each
pub mod CodeWide
pub mod CodeSteps
pub mod Promises
