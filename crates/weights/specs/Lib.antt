pub mod Codes
pub mod Kinds
pub mod Scales
pub mod Counts
pub mod Presences
