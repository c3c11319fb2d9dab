-- What no contract of a public function uses.
pub mod Lexing
pub mod Reading
pub mod Writing
