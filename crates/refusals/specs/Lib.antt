pub mod Reasons
pub mod Laws
