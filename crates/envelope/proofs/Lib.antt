pub mod Envelopes
pub mod Sequences
