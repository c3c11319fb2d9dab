pub mod Values
pub mod Shown
pub mod Joins
pub mod Logged
pub mod Private
