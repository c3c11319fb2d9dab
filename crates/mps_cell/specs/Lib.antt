pub mod Openings
pub mod Views
pub mod Rule
pub mod Calls
pub mod Meetings
pub mod Cells
pub mod Private
