pub mod Bits
pub mod ReadTurns
