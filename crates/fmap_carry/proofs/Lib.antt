-- Laws of carrying.
pub mod Moves
pub mod Match
pub mod Passed
pub mod Carrying
pub mod Accepted
