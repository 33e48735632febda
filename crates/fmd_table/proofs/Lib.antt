pub mod Listed
pub mod Table
pub mod Links
