-- The lemmas of mps_file, a file each.
mod Leading
mod Spelling
