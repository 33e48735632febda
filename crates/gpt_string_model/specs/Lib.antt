-- Read in this order.
pub mod Text
pub mod Build
pub mod Calls
pub mod Claims
pub mod Samples
