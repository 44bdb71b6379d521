pub mod Named
pub mod Text
pub mod Written
pub mod Laws
