-- What the programs print of a layout text.
pub mod Lines
