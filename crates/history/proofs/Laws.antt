pub mod Serving
pub mod Linking
pub mod Steps
pub mod Consequences
pub mod Singly
