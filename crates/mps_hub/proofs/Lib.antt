-- The lemmas of mps_hub, a file each; other crates may use those with `pub`.
pub mod Bytewise
pub mod Shutting
pub mod Locking
pub mod Admitting
pub mod Joining
pub mod Cells
pub mod Crossing
pub mod Telling
pub mod Unserved
