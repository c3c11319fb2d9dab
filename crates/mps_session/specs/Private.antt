-- What no contract of a public function uses.
pub mod Cursors
pub mod Configurations
pub mod Invariant
pub mod Opening
pub mod Leaving
pub mod Pasts
pub mod FirstNumber
