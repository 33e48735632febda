-- What a good flash map is, and the bytes of one.
pub mod Map
pub mod Written
pub mod Claims
pub mod Rules
