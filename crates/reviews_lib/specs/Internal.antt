-- What private functions promise one another.
pub mod Commas
pub mod Faults
