-- The lemmas of mps_watch.
mod Shown
mod Sizes
