pub mod Bulk
pub mod Answers
pub mod Wide
pub mod Core
