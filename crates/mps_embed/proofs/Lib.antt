-- The lemmas of mps_embed, a file each.
mod Places
mod Speaking
mod Crossing
mod Ends
mod Foreseeing
mod Opening
mod Faithful
