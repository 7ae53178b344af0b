pub mod AnswerParts
pub mod AnswerWrites
pub mod CertificateParts
pub mod CertificateWrites
pub mod OneEntry
pub mod OneName
pub mod SameFront
