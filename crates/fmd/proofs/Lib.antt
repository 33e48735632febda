pub mod Answers
pub mod Filled
pub mod Records
pub mod Layouts
pub mod Writable
pub mod Claims
pub mod Listings
