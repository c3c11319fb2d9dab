pub mod Acts
pub mod Shown
pub mod Changes
pub mod Private
