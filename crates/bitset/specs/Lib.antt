pub mod Bitset
pub mod Walk
pub mod Laws
