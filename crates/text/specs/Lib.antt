pub mod Text
pub mod Fields
pub mod Finding
