mod Cases
pub mod WordOrder
pub mod Origins
pub mod BreadthFirst
pub mod Steps
pub mod ReachedItems
pub mod Dead
pub mod Bests
pub mod LeavingBlocks
pub mod SetWinners
pub mod BuiltTable
pub mod TiedClash
pub mod StateCount
pub mod Firsts
pub mod ClashLists
pub mod ClashListLaws
pub mod AllClashes
pub mod TieSteps
pub mod RowSteps
pub mod Adding
pub mod Builds
pub mod Compiling
mod Leavings
mod Noted
mod MarkedGroups
mod BoundaryBlocks
mod LaidOut
mod ClassCache
mod CacheLaws
mod StageLaws
mod BoundaryEdges
mod LiveItems
-- laws for callers
pub mod Agreeing
pub use Rattle.lalrpop_dfa.proofs.AfterLaws
-- where items lead
pub mod Sets
pub mod Epsilon
pub mod LiveSets
pub mod StillLive
pub mod Marks
pub mod ByPattern
pub mod Targets
pub mod Inserting
pub mod WorklistSteps
pub mod Moving
pub mod TransitionMoves
pub mod TakenEdges
pub mod Follows
pub mod Moved
-- the alphabet
mod Assembling
pub mod LabelOrder
pub mod Boundaries
pub mod BoundaryLabels
pub mod EdgeGroupLaws
mod Classing
pub mod Marking
mod Numbering
