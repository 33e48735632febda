-- What the program prints.
pub mod Records
