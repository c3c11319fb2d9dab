pub mod Texts
pub mod Alike
pub mod Faults
pub mod Choices
pub mod Private
