-- What building answers.
pub mod Answers
