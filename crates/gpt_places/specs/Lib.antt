-- The sides of a disk, in the words of gpt_model; what the code relies on.
pub mod Sides
pub mod Invariants
