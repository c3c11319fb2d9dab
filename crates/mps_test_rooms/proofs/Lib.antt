-- The lemmas of mps_test_rooms, a file each; other crates may use those with `pub`.
pub mod Popping
