-- The lemmas of mps_line, a file each; other crates may use those with `pub`.
pub mod Splitting
pub mod CommandLines
pub mod Writing
pub mod Spellings
pub mod OneSpelling
pub mod ShownLines
pub mod OneReply
pub mod ReplyLines
pub mod NumberedLines
pub mod JournalLines
