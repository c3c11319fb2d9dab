-- The lemmas of mps_test_memory, a file each; other crates may use those with `pub`.
pub mod Popping
