pub mod Shown
pub mod Plain
pub mod Examples
pub mod Private
