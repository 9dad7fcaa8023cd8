pub mod Edges
pub mod Laws
