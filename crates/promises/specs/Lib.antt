-- What the promises speak of, over the public calls' own definitions (heap, specs/Calls):
--   Runs       any sequence of calls, state and pool handed on as returned
--   Plain      the same calls on the plain list
--   Fresh      how a heap begins
--   Batches    the calls that a batch or a bulk push asks for
--   Codes      when each number is given back, and the order of the tests
--   Promised   the words of the promises themselves (proofs/Promises)
pub mod Runs
pub mod Plain
pub mod Fresh
pub mod Batches
pub mod Codes
pub mod Promised
