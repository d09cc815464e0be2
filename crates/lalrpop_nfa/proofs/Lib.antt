mod Cases
pub mod WalkLemmas
pub mod PushLemmas
pub mod BuildLemmas
pub mod CharLemmas
pub mod Fragments
pub mod Compilable
pub mod Sizes
pub mod Readings
pub mod FragmentReads
pub mod FragmentTests
pub mod CompiledTree
pub mod PathLemmas
pub mod PrefixLemmas
pub mod StateSetLemmas
pub mod Runs
-- the partition of ranges
pub mod Cells
pub mod Partition
pub mod Sweep
pub mod BlockCover
pub mod PartitionUnique
-- laws for callers
pub mod PartitionLaws
