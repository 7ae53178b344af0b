pub mod EntryTurns
pub mod GroundParts
pub mod Tables
