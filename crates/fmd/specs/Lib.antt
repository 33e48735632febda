-- The layout language: its calls, and what users rely on besides.
pub mod Calls
pub mod Claims
