-- Room for partitions in the words of gpt_model.
pub mod Answers
pub mod Invariants
