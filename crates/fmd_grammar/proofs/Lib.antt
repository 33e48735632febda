-- Laws of the grammar, and the theorems.
pub mod Views
pub mod Parsers
pub mod Same
pub mod SameLists
pub mod Built
pub mod Complete
pub mod Good
pub mod GoodHeads
pub mod GoodLists
pub mod GoodWhole
pub mod Theorems
