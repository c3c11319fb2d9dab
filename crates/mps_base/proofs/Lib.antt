-- The lemmas of mps_base, a file each; other crates may use those with `pub`.
pub mod Kept
pub mod Numbers
pub mod Values
pub mod RoleLists
pub mod Spaced
mod Digits
