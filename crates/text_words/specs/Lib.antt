-- What texts of several languages have in common: classes of bytes, numerals without a suffix, the length of a name.
pub mod Classes
pub mod Numerals
pub mod Names
