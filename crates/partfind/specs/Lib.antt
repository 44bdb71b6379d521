pub mod Asking
pub mod Declining
