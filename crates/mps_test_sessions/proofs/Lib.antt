-- The lemmas of mps_test_sessions, a file each.
mod OneMore
