pub mod Recorders
pub mod Rooms
