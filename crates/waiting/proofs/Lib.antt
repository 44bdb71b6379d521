pub mod Ordered
pub mod Entering
pub mod Told
pub mod Settled
