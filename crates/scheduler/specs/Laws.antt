pub mod Serving
pub mod Empty
