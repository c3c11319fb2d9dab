-- What no contract of a public function uses.
pub mod Commands
pub mod Replies
pub mod Tokens
pub mod Spellable
