-- The lemmas of mps_show, a file each; other crates may use those with `pub`.
pub mod Rows
pub mod Texts
pub mod Plain
pub mod Floats
