-- What private functions promise one another.
pub mod Pairs
pub mod Apart
pub mod WonWords
pub mod Classes
pub mod ClassRows
pub mod StateWalks
pub mod Shortest
pub mod Longest
pub mod Rounds
pub mod Targets
pub mod Beside
