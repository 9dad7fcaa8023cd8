pub mod Again
pub mod Chains
pub mod Parts
pub mod Once
pub mod Confirming
