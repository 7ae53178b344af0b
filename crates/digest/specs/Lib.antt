pub mod Words
pub mod Block
pub mod Hash
pub mod Vectors
pub mod Hex
