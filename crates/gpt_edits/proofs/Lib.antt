pub mod Outcomes
pub mod Copied
