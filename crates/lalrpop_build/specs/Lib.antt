-- from the book: what this crate's contracts name
pub use Rattle.lalrpop_hir.specs.Word
pub use Rattle.lalrpop_hir.specs.Tree
pub use Rattle.lalrpop_hir.specs.Language
pub use Rattle.lalrpop_hir.specs.Fault
pub use Rattle.lalrpop_hir.specs.Prefix
pub use Rattle.lalrpop_hir.specs.Winners
pub use Rattle.lalrpop_hir.specs.Longest
pub use Rattle.lalrpop_hir.specs.Clash
pub use Rattle.lalrpop_hir.specs.Clashes
pub use Rattle.lalrpop_hir.specs.Report
-- from the crates below: what this crate's contracts name
pub use Rattle.lalrpop_hir.specs.States
pub use Rattle.lalrpop_nfa.specs.Automata
pub use Rattle.lalrpop_dfa.specs.Kernels
pub use Rattle.lalrpop_dfa.specs.Ascending
pub use Rattle.lalrpop_dfa.specs.Dfa
pub use Rattle.lalrpop_dfa.specs.Counts
pub use Rattle.lalrpop_dfa.specs.Lookahead
pub use Rattle.lalrpop_dfa.specs.SameAutomata
pub mod Items
pub mod Agree
-- what private functions promise each other; public clauses do not name it
pub mod Internal
