pub mod Walks
pub mod Near
pub mod Gathering
pub mod Peeling
