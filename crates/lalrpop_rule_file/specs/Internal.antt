pub mod Spans
pub mod Values
pub mod Stops
pub mod Lines
pub mod PlainLine
pub mod Found
