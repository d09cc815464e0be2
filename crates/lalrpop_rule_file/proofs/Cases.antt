-- Small cases of the definitions in specs/: Cases/X.antt has those of specs/X.antt.
mod Words
mod LineText
mod RuleLine
mod RuleFault
mod FileModes
mod FileParts
mod RuleFile
mod PartLines
mod LeftModes
mod GoesOn
mod OutsideClass
mod PassedEnd
mod Warnings
