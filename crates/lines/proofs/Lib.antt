pub mod Samples
pub mod Theorems
pub mod Laws
