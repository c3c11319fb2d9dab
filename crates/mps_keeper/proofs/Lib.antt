-- The lemmas of mps_keeper, a file each; other crates may use those with `pub`.
pub mod Taking
pub mod Counting
pub mod Recording
pub mod Restoring
pub mod Rerunning
pub mod Restarting
pub mod Sealed
mod Guests
pub mod Keeping
