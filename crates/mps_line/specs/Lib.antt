pub mod Tokens
pub mod Commands
pub mod Replies
pub mod JournalLines
pub mod Codes
pub mod Private
