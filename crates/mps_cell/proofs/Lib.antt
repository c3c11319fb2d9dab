-- The lemmas of mps_cell, a file each; other crates may use those with `pub`.
pub mod Lists
pub mod Keeping
pub mod Taking
pub mod Answering
pub mod Dealing
pub mod Pairing
pub mod Numbering
pub mod Faithful
pub mod Crossing
