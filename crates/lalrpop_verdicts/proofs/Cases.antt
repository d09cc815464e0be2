-- Small cases of the definitions in specs/: Cases/X.antt has those of specs/X.antt.
pub mod Answers
mod Beside
mod Differences
mod Picture
mod Smallest
mod Verdicts
