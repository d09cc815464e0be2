-- Sets of characters and their runs, named sets, POSIX classes.
pub mod CharacterSet
pub mod NamedSet
pub mod PosixSet
-- What a pattern stands for, in reading order: characters, flags, names, escapes, brackets, operators, parts,
-- patterns.
pub mod Text
pub mod Flag
pub mod GroupName
pub mod Escape
pub mod Bracket
pub mod Operator
pub mod NamedPart
pub mod Pattern
-- What a refusal says.
pub mod Refusal
-- Literals, and the words up to the first end.
pub mod Escaped
pub mod Unescaped
pub mod AnyCase
pub mod UpTo
-- used by proofs only
pub mod Internal
-- the definitions of the trees, for callers
pub use Rattle.lalrpop_hir.specs.Word
pub use Rattle.lalrpop_hir.specs.Range
pub use Rattle.lalrpop_hir.specs.Runs
pub use Rattle.lalrpop_hir.specs.Counts
pub use Rattle.lalrpop_hir.specs.Tree
pub use Rattle.lalrpop_hir.specs.Parts
pub use Rattle.lalrpop_hir.specs.Size
pub use Rattle.lalrpop_hir.specs.Level
pub use Rattle.lalrpop_hir.specs.Language
pub use Rattle.lalrpop_hir.specs.Fault
