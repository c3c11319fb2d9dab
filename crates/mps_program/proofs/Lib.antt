-- The lemmas of mps_program, a file each; other crates may use those with `pub`.
pub mod Causes
pub mod Comparing
pub mod Lines
pub mod Bounds
pub mod Telling
pub mod Hearing
pub mod Passing
pub mod Naming
