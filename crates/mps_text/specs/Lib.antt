pub mod Tokens
pub mod Grammar
pub mod Faults
pub mod Private
