pub mod Answers
pub mod Bodies
pub mod Certificates
pub mod Kinds
pub mod Messages
pub mod Parts
pub mod Proposals
pub mod Readings
