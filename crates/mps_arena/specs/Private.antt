-- What no contract of a public function uses.
pub mod Linked
pub mod Links
pub mod Rewrites
pub mod Walks
pub mod Kept
pub mod Views
pub mod Ends
