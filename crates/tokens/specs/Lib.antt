pub mod Words
pub mod Lexed
pub mod Runs
pub mod Pieces
pub mod Laid
