-- What finding a map, reading its areas and carrying preserved areas answer.
pub mod Lowest
pub mod Find
pub mod Faults
pub mod Areas
pub mod Carry
pub mod Written
pub mod InBytes
pub mod Claims
