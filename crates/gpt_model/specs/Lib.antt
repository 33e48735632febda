-- Read in this order.
pub mod Table
pub mod Disk
pub mod Ranges
pub mod Attributes
pub mod Calls
pub mod Unaligned
pub mod Sizes
pub mod Lists
pub mod Stored
pub mod Claims
pub mod AttributeClaims
