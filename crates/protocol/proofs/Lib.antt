pub mod Counterexamples
pub mod Laws
pub mod Theorems
pub mod Samples
