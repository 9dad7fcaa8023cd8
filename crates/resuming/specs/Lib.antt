pub mod Resuming
pub mod Laws
pub mod Theorems
