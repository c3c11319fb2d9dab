pub mod Journal
pub mod RoomState
pub mod Callers
pub mod Numbers
pub mod Solos
pub mod Private
pub mod OneAnswer
pub mod Examples
