pub mod First
pub mod Places
pub mod Halls
pub mod Connections
pub mod Private
pub mod Serving
pub mod Shares
pub mod SharedCalls
