pub mod Answer
pub mod FileRules
pub mod PieceLines
pub mod ModePlace
pub mod NamedRules
pub mod Reasons
pub mod ReportedFile
pub mod RuleClashes
pub mod Safe
pub mod ShownLine
pub mod Warned
pub mod WarningsSaid
-- what serves the proofs alone
pub mod Internal
