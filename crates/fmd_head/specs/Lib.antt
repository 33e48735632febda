-- The heads of a layout text, read token by token: means of proof. Its grammar stands in fmd_grammar.
pub mod Refusals
pub mod Heads
pub mod Images
pub mod Invariants
