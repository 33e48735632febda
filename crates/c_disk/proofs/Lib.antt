pub mod Effects
pub mod Lengths
pub mod Slots
