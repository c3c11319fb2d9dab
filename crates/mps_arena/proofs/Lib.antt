-- The lemmas of mps_arena, a file each; other crates may use those with `pub`.
pub mod KeyLists
pub mod Chains
pub mod Matched
pub mod Nodes
pub mod Updating
pub mod Keeping
pub mod Numbers
pub mod Marking
pub mod Histories
pub mod Rising
pub mod Walking
