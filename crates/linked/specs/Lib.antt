-- The definitions that the contracts of `linked` cite.
pub mod Parts
