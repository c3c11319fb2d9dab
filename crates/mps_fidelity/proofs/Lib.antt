-- The lemmas of mps_fidelity, a file each; other crates may use those with `pub`.
pub mod Parts
pub mod Projections
pub mod Covering
pub mod Path
pub mod Arriving
pub mod Sites
pub mod Finding
pub mod Steps
pub mod UnderWay
pub mod Faithful
pub mod Refusals
