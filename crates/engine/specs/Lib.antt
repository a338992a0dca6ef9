-- Outcome is what a call gives back, for a reader of the promises, and Answers says it of the answers of the code; Core and Room are
-- cited by contracts of inner functions only.
pub mod Outcome
pub mod Answers
pub mod Core
pub mod Room
