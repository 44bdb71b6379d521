pub mod Pages
pub mod Limits
pub mod Lawful
pub mod Steps
pub mod Laws
pub mod Samples
