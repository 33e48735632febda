-- What carrying preserved areas by two given maps does.
pub mod Carry
pub mod Invariants
pub mod Moves
pub mod Claims
