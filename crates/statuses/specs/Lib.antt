pub mod Statuses
pub mod Laws
