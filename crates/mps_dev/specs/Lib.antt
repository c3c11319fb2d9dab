pub mod Calls
pub mod Pieces
pub mod Reads
pub mod Short
pub mod Standard
