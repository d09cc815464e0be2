-- from the book: what this crate's contracts name
pub use Rattle.lalrpop_hir.specs.Tree
pub use Rattle.lalrpop_hir.specs.Language
pub use Rattle.lalrpop_hir.specs.Prefix
pub use Rattle.lalrpop_hir.specs.Winners
pub use Rattle.lalrpop_hir.specs.Longest
-- numbered lists of distinct kernels
pub mod Kernels
-- the automaton of a list of patterns
pub mod Dfa
pub mod Counts
pub mod Lookahead
pub mod Follow
pub mod Witness
pub mod SameAutomata
-- the sets of items that a builder keeps, in order, and how states are stored
pub use Rattle.lalrpop_hir.specs.States
pub mod Ascending
pub mod ItemOrder
pub mod LiveItems
pub mod Split
pub mod Stored
-- what private functions promise each other; public clauses do not name it
pub mod Internal
