pub mod Order
pub mod Entered
pub mod Waits
pub mod Laws
