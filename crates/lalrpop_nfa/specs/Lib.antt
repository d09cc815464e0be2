-- from the book: what this crate's contracts name
pub use Rattle.lalrpop_hir.specs.Word
pub use Rattle.lalrpop_hir.specs.Range
pub use Rattle.lalrpop_hir.specs.Tree
pub use Rattle.lalrpop_hir.specs.Language
pub use Rattle.lalrpop_hir.specs.Fault
pub use Rattle.lalrpop_hir.specs.Prefix
-- the partition of ranges
pub use Rattle.lalrpop_hir.specs.Meet
pub mod Partition
-- the automaton of one pattern
pub use Rattle.lalrpop_hir.specs.States
pub mod Walk
pub mod Firsts
pub mod StateView
pub mod Lending
pub mod Contiguous
pub mod Graph
pub mod Path
pub mod Compiled
pub mod Automata
-- what private functions promise each other; public clauses do not name it
pub mod Internal
