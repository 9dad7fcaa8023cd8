pub mod Listed
pub mod Theorems
pub mod Laws
