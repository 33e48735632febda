-- What C gets of each answer.
pub mod Effects
pub mod Claims
