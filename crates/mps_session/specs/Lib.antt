pub mod SessionState
pub mod Peers
pub mod Answers
pub mod Protocols
pub mod Runs
pub mod NumberSets
pub mod Private
