pub mod Graph
pub mod Standing
pub mod Expects
pub mod Sizes
pub mod Private
