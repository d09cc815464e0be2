pub mod Words
pub mod LineText
pub mod RuleLine
pub mod RuleFault
pub mod FileModes
pub mod FileParts
pub mod RuleFile
pub mod PartLines
pub mod LeftModes
pub mod GoesOn
pub mod OutsideClass
pub mod PassedEnd
pub mod Warnings
-- used by proofs only
pub mod Internal
