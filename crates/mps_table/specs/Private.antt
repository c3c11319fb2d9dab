-- What no contract of a public function uses.
pub mod Laying
pub mod Drafts
pub mod Graph
