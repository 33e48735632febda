pub mod Writes
pub mod Judged
