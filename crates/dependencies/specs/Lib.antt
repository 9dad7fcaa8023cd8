pub mod Dependencies
pub mod Laws
