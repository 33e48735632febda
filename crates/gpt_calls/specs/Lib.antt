-- What the calls answer, in the rules' numbers and values.
pub mod Answers
