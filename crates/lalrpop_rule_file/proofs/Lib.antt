mod Cases
-- bytes, and the front of a text
pub mod Bytes
pub mod Spans
pub mod Closings
pub mod Comments
-- a line, which is read in one way, lexeme by lexeme
pub mod FromTos
pub mod Lexemes
-- where reading it stops, and that it does so at one place, for one reason
pub mod Stopping
pub mod StoppingLaws
pub mod PartLines
pub mod Texts
pub mod Actions
pub mod Sections
pub mod Returns
pub mod Results
-- what a line says is one thing
pub mod RuleLaws
-- the names of modes, and their numbers
pub mod Names
pub mod ModeNumbers
pub mod OneOf
-- the lines of a file, and that its rules name its modes
pub mod FileLines
pub mod RulesWithin
-- and that the first mode that is missing stands at one place
pub mod MissingLaws
-- its parts, and its rules with them
pub mod Definitions
pub mod ModeRules
-- their places, and the warnings about a file
pub mod PartPlaces
pub mod UsedParts
pub mod Elements
pub mod EarlyEnds
pub mod ClassLaws
pub mod EndLaws
pub mod FoundWarnings
-- a file without sections, actions and parts
pub mod PlainLaws
