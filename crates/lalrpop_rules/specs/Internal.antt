pub mod CutToEnd
pub mod Code
pub mod Finding
pub mod TextFaults
pub mod Faults
pub mod ModeCode
pub mod Lexers
pub mod Cutting
-- a file that was read
pub mod FileRules
