pub mod Letters
pub mod Laws
