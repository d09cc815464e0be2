-- Small cases of the definitions in specs/: Cases/X.antt has those of specs/X.antt, Cases/Depth.antt those of specs/Internal/Depth.antt.
mod Word
mod Range
mod Meet
mod Language
mod Fault
mod Prefix
pub mod Winners
mod Longest
mod Clash
mod Clashes
mod Report
mod Chain
mod Tokens
mod Runs
mod Counts
mod Parts
mod Size
mod Depth
mod Level
