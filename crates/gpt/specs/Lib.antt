-- The part that reading hands back, and what is claimed of it.
pub mod Parts
pub mod Claims
