pub mod Global
pub mod Path
pub mod Faults
pub mod Arms
pub mod Private
