pub mod Unanswered
pub mod Laws
