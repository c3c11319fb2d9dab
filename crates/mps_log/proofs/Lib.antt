-- The lemmas of mps_log, a file each; other crates may use those with `pub`.
pub mod Waiting
pub mod Leaving
pub mod Taking
pub mod Walks
pub mod Queued
pub mod Remarked
pub mod Settled
pub mod NewestSteps
