pub mod Entries
pub mod Names
pub mod Used
pub mod Permuted
pub mod Good
