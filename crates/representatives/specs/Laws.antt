pub mod Reading
pub mod Firsts
pub mod Chains
