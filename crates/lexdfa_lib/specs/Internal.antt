-- What private functions promise one another.
pub mod Prefixes
pub mod WatchCode
