-- What no contract of a public function uses.
pub mod Queued
pub mod Logged
pub mod Shown
