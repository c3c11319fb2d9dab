-- The lemmas of mps_seal, a file each; other crates may use those with `pub`.
pub mod Sealing
