pub mod Duality
pub mod Fidelity
pub mod Examples
