pub mod Crowds
pub mod Kept
pub mod Needs
pub mod Plans
pub mod Promises
pub mod Shelves
pub mod Translated
