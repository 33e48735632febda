-- Laws that the proofs of every crate cite.
pub mod Bools
pub mod Tests
pub mod Rows
pub mod Numbers
pub mod LowFirst
pub mod Parts
pub mod Puts
pub mod Equal
pub mod Blocks
pub mod Chunks
pub mod Filled
pub mod Chains
