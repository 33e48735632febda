-- The words that every specification of this repository is written in.
pub mod Tests
pub mod Rows
pub mod Bytes
pub mod Ascii
