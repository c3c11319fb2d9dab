-- What no contract of a public function uses.
pub mod Weights
pub mod Bound
pub mod Writing
pub mod Copying
pub mod Codes
pub mod Outcome
