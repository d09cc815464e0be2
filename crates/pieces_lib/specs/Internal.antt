-- What private functions promise one another.
pub mod CutTexts
pub mod Incoming
