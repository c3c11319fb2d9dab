pub mod Steps
pub mod Dependence
pub mod Swaps
pub mod Slots
pub mod Commits
pub mod Removals
