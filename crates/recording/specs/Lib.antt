pub mod Recording
pub mod Parts
pub mod Laws
