-- Sections in a table of words.
pub mod Table
pub mod Invariants
