-- To be believed by a reader of the promises, in this order: Bytes (numbers as bytes), Records (what a record holds and when it is
-- formed), Batch (what a record gives, its answer, the same by the public calls, and what a batch gives). Cited by contracts of inner functions only: Core.
pub mod Bytes
pub mod Records
pub mod Batch
pub mod Core
