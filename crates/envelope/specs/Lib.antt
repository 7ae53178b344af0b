pub mod Faults
pub mod Formats
pub mod Kinds
pub mod Many
pub mod Messages
