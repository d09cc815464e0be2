mod Cases
-- the parts of a plain line
pub mod Pushes
pub mod SliceLaws
-- lines of JSON
pub mod JsonLaws
-- members of objects
pub mod Steps
-- clashes
pub mod ClashLineLaws
-- the sections of a file of rules
pub mod ModePlaces
-- what is answered by a file of rules
pub mod AnswerLaws
pub mod RuleLaws
pub mod Refusals
-- what is safe to show
pub mod LineLaws
pub mod SafeLaws
pub mod SafeMessages
pub mod SafeJson
pub mod SafePieces
pub mod SafeNames
