pub mod Buffers
pub mod Fronts
pub mod Numbers
pub mod Writers
