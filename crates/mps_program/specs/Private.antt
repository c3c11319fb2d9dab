-- What no contract of a public function uses.
pub mod Served
pub mod Compared
pub mod Heard
