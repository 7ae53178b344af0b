pub mod Answers
pub mod Certificates
pub mod EntryFronts
pub mod Export
pub mod Fields
pub mod Proposals
