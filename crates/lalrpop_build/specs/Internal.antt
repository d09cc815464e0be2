pub mod BreadthFirst
pub mod Built
pub mod Expansion
pub mod Best
pub mod Blocks
pub mod ClassTransitions
pub mod Scratch
pub mod TargetCache
pub mod Stage
pub mod Labelled
pub mod Ties
-- where items lead
pub mod Given
pub mod Subsets
pub mod Transitions
pub mod Worklist
pub mod Taken
-- the alphabet: its cells, classes and edge groups
pub mod Alphabet
pub mod Grouped
pub mod Boundaries
pub mod EdgeGroups
pub mod Signatures
pub mod Numbered
