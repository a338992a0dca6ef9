-- Told: what a batch was told, in numbers.
pub mod Told
