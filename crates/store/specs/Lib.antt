pub mod Places
pub mod State
pub mod Laws
pub mod Entering
pub mod Looking
pub mod Gathered
pub mod View
