-- What placing a partition answers.
pub mod Answers
pub mod Invariants
