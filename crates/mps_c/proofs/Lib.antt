-- The lemmas of mps_c, a file each.
mod Exports
mod Filling
