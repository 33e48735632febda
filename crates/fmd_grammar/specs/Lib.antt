-- The grammar of a layout text, rule by rule, and what is claimed of it.
pub mod Grammar
pub mod Claims
