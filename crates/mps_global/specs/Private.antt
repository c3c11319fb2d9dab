-- What no contract of a public function uses.
pub mod Weights
