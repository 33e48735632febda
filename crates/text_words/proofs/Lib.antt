pub mod Numerals
pub mod Names
pub mod Classes
