-- Laws of the lines that the programs print.
pub mod Lines
pub mod Listings
