-- What the judges answer.
pub mod Refusals
pub mod Checks
