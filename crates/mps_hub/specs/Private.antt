-- What no contract of a public function uses.
pub mod Lock
pub mod Places
pub mod First
pub mod Connections
pub mod Hosting
