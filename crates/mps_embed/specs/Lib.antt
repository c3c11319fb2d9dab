pub mod Crossing
pub mod Diaries
pub mod Embedded
pub mod Faithful
pub mod Kept
