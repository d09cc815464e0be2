-- rules, their texts and modes, in reading order
pub use Rattle.bajofeki_rules.specs.RuleText
pub mod TextTrees
pub mod Kinds
pub mod RuleSet
pub use Rattle.bajofeki_rules.specs.Stack
pub use Rattle.bajofeki_rules.specs.EnteredModes
pub mod Modes
pub mod ModeSet
pub mod RulesErrors
pub mod ModeClashes
-- a lexer of a file
pub mod FileLexer
-- the pieces of a text
pub mod Found
pub mod Pieces
pub mod ModeCut
-- used by proofs only
pub mod Internal
