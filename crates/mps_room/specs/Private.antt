-- What no contract of a public function uses.
pub mod Owners
pub mod Narrow
pub mod Heard
pub mod Rooms
pub mod Forms
