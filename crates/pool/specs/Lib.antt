-- To be believed by a reader of the promises, in this order:
--   Chain (lists of slots), World (state and pool as one record), Marks (the busy words), Sound (fit and sound, document 01's words),
--   Lay (from a world to the rule's heap, and from chains to links).
-- Examine is what the examination computes; proofs/Exam shows it to be Fit and Sound.
-- Codes has the number of each refusal, and Lent a state and a lent pool as a world.
-- Cited by contracts of inner functions only: Fine (their premises), Core (what the code does, store by store), Slot (the key of
-- a slot, as the code holds it), Fresh and Walk.
pub mod Chain
pub mod World
pub mod Marks
pub mod Sound
pub mod Examine
pub mod Lay
pub mod Fine
pub mod Core
pub mod Slot
pub mod Codes
pub mod Lent
pub mod Fresh
pub mod Walk
