pub mod Representatives
pub mod Laws
