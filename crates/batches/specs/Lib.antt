pub mod Batches
pub mod Laws
