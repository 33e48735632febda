pub mod Fills
pub mod Written
