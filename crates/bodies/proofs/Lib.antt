pub mod BodyParts
pub mod OneOperation
