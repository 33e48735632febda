-- GUID text: what is read, what is written, and what each call answers.
pub mod Hex
pub mod Text
pub mod Types
pub mod Table
pub mod Calls
pub mod Stands
pub mod Claims
