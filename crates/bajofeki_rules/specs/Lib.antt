-- rules, in reading order
pub mod RuleText
pub mod Precedence
pub mod Stack
pub mod EnteredModes
-- texts: characters, lines, places, and how a slice is shown
pub use Rattle.lalrpop_hir.specs.Starts
pub mod Lines
pub mod Position
pub mod Quoted
-- used by proofs only
pub mod Internal
