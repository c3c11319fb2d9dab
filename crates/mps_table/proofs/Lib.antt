-- The lemmas of mps_table, a file each; other crates may use those with `pub`.
pub mod Standing
pub mod Laid
pub mod Drafted
pub mod Compiled
pub mod Sized
