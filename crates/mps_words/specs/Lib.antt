pub mod Orders
pub mod Uses
pub mod Private
