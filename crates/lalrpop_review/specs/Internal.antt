-- What private functions promise each other.
pub mod Kinds
pub mod Idle
pub mod Meanings
