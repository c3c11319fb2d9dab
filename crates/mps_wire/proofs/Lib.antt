-- The lemmas of mps_wire, a file each; other crates may use those with `pub`.
pub mod Bytes
pub mod Serving
pub mod Answering
pub mod Feeding
pub mod Turning
pub mod Outcomes
pub mod Carrying
pub mod Faithful
pub mod Taking
pub mod Calling
pub mod Conversing
pub mod Making
pub mod Replying
pub mod Written
