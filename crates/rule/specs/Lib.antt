-- What a heap promises, on lists: to be believed by a reader, in this order.
--   Lists    a few words on lists
--   Width    the distance of two numbers and zero bits, over any width B
--   Calls    the calls, their answers, and when a push is refused
--   Rule     document 01's bucket rule: where each entry stands, which drain moves it, what a pop gives
--   Stands   document 01's soundness, as far as it speaks of chains
--   Plain    the crate's own words: a plain list in push order
--   Ledger   entries that count their own moves, and demand 3's bound
--   Released the keys that were handed out, for the safety office
-- Arrange and Forget serve the proofs and the promises' reader may pass them by: they say that a heap is settled by its
-- top and its entries in push order, and what is left of a heap when entries forget what they carry.
pub mod Lists
pub mod Width
pub mod Calls
pub mod Rule
pub mod Stands
pub mod Plain
pub mod Ledger
pub mod Released
pub mod Arrange
pub mod Forget
