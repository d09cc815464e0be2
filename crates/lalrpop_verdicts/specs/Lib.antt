-- from the book: what this crate's contracts name
pub use Rattle.lalrpop_hir.specs.Word
pub use Rattle.lalrpop_hir.specs.Tree
pub use Rattle.lalrpop_hir.specs.Language
pub use Rattle.lalrpop_hir.specs.Winners
pub use Rattle.lalrpop_hir.specs.Report
-- from the crates below: what this crate's contracts name
pub use Rattle.lalrpop_dfa.specs.Dfa
pub use Rattle.lalrpop_dfa.specs.Lookahead
pub use Rattle.lalrpop_dfa.specs.Witness
-- what an automaton answers
pub mod Answers
-- who wins, and who is hidden by whom
pub mod WonWord
pub mod Verdicts
-- where two automata differ
pub mod Differences
-- tokens of two patterns side by side
pub mod Beside
pub mod Smallest
-- the picture of an automaton
pub mod Picture
-- what private functions promise each other; public clauses do not name it
pub mod Internal
