pub mod Served
pub mod Replying
pub mod Laws
