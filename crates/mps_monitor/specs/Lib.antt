pub mod Verdicts
pub mod Cursors
