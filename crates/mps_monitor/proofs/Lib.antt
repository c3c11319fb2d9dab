-- The lemmas of mps_monitor, a file each; other crates may use those with `pub`.
pub mod Labels
pub mod Judged
