pub mod Laws
pub mod Traces
