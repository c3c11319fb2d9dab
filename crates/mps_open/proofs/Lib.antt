-- The lemmas of mps_open, a file each.
mod Causes
mod Choosing
pub mod OneProtocol
