pub mod ByNumber
pub mod ByTerm
pub mod Questions
pub mod Recorded
pub mod Rounds
