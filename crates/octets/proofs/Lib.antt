pub mod Begins
pub mod OneWriting
pub mod Overlays
pub mod Writes
