mod Cases
-- places
pub mod Places
pub mod InLine
pub use Rattle.lalrpop_hir.proofs.StartLaws
pub mod PlaceLaws
pub mod BytePlaces
-- lines
pub mod LineLemmas
-- the characters of a quoted form
mod Unseen
pub mod Quotes
pub mod QuotedRuns
pub mod ByteRuns
-- modes that can be entered
pub mod MarkedModes
