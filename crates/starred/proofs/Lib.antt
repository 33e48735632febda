pub mod Disks
pub mod Guids
pub mod Layouts
pub mod Claims
