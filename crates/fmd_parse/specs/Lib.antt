-- The reading of a layout text, token by token: its image and its sections, or its first fault; the rows of the whole list that the text alone decides.
-- Its grammar stands in fmd_grammar.
pub mod Layouts
pub mod Trees
pub mod Rows
pub mod Claims
pub mod Invariants
