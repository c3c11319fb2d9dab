-- What no contract of a public function uses.
pub mod Endings
pub mod Places
pub mod Turns
pub mod Commands
