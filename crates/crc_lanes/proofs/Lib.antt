pub mod Xor
pub mod Steps
pub mod Parts
pub mod Words
pub mod Digits
pub mod Lanes
pub mod Blocks
