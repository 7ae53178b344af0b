pub mod Conflicts
pub mod Groups
pub mod LocalRows
pub mod Partitions
