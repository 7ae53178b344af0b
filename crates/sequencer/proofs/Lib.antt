pub mod Decoding
pub mod Groups
pub mod Racks
pub mod Starting
