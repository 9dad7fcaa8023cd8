pub mod Store
pub mod Dependency
pub mod Layout
pub mod Soundness
pub mod Steps
