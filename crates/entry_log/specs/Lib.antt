pub mod Log
pub mod Laws
