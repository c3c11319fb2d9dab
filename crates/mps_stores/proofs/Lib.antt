-- The lemmas of mps_stores, a file each; other crates may use those with `pub`.
pub mod Maps
pub mod Bindings
