-- Laws that the proofs of this crate cite, and the claims of specs/Claims.antt.
pub mod Hex
pub mod Text
pub mod Table
pub mod Calls
pub mod Claims
pub mod Stands
