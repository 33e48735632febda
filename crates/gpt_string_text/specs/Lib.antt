-- What the code keeps while it reads the fields of a partition.
pub mod Invariants
