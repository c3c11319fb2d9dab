-- The lemmas of mps_dev, a file each; other crates may use those with `pub`.
pub mod PiecesLeft
