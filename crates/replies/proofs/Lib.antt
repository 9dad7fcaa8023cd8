pub mod Samples
pub mod Laws
