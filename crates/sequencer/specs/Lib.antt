pub mod Bounds
pub mod Lists
pub mod Places
pub mod Records
pub mod Tapes
pub mod Tracks
