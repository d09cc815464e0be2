mod Cases
-- the pieces of a text, and their lines
pub mod CutLaws
pub mod FoundLaws
pub mod PieceLines
pub mod PieceSending
pub mod GivingLaws
pub mod ComingLaws
pub mod WrittenLaws
-- a text that is read as it comes
pub mod Incomings
-- answers
pub mod AnswerLaws
pub mod TextLaws
pub mod FilesLaws
-- what is safe to show
pub mod SafeFaults
