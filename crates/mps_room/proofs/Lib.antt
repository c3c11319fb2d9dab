-- The lemmas of mps_room, a file each; other crates may use those with `pub`.
pub mod Growing
pub mod Accepting
pub mod Fitting
pub mod Owning
pub mod Hearing
pub mod Telling
pub mod Halving
pub mod Lists
pub mod Losing
pub mod Refusing
pub mod Tracing
pub mod Forms
pub mod Opening
pub mod Consistency
pub mod Keeping
pub mod Faithful
pub mod Numbering
pub mod OneAnswer
pub mod Working
mod Foreseeing
