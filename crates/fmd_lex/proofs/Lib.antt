pub mod Tokens
pub mod Numbers
pub mod Places
pub mod Names
