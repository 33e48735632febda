pub mod Shapes
pub mod Places
pub mod Headers
