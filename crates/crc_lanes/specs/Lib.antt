-- What the CRC-32 is, and what the tables that a caller lends must hold.
pub mod Crc
pub mod Tables
