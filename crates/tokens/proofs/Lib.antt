pub mod Lists
pub mod Cuts
pub mod Pieced
pub mod Spelled
pub mod Lays
