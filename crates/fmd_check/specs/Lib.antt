-- All refusals of a layout text, in their order; its sections as areas of a map.
pub mod Plans
pub mod Fitted
pub mod Check
pub mod Areas
pub mod Nested
pub mod Claims
pub mod Invariants
