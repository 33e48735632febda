-- Laws of numbers as text, and of text in a buffer.
pub mod Digits
pub mod Puts
