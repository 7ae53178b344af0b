pub mod Differences
pub mod Giving
pub mod Holders
