pub mod Examined
pub mod Laws
