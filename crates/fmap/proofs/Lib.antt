-- Laws of finding and of the areas found.
pub mod Lowest
pub mod Finding
pub mod Places
pub mod Reading
pub mod Letters
pub mod Claims
pub mod Written
pub mod Named
pub mod NameBytes
pub mod InBytes
pub mod FromBytes
pub mod Called
pub mod Accepted
pub mod Kept
