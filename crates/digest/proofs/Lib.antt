pub mod Arrays
pub mod Schedules
pub mod Chains
pub mod Padding
pub mod Messages
