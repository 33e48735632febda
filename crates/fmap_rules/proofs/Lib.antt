-- Laws of good maps.
pub mod Names
pub mod Areas
pub mod Rules
pub mod Signature
pub mod Good
pub mod Written
pub mod Records
