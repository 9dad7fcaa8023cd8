pub mod Objects
pub mod Laws
