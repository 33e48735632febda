-- What the words, signs, numbers, names and flags of a layout text are.
pub mod Chars
pub mod Tokens
pub mod Numbers
pub mod Names
pub mod Invariants
