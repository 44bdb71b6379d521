pub mod Recording
pub mod Keeping
pub mod Asking
pub mod Fetching
pub mod Looked
