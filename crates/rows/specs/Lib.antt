pub mod Orders
pub mod Views
