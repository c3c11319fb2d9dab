-- The lemmas of mps_history, a file each; other crates may use those with `pub`.
pub mod Order
pub mod Reaching
pub mod Removal
pub mod MatchingByPlace
pub mod Slots
pub mod Commits
pub mod Least
