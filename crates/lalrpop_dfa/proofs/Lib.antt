pub mod Cases
pub mod EdgeTargets
pub mod StepLists
pub mod StoredRows
pub mod LongestLemmas
pub mod SameTables
pub mod Lookaheads
pub mod Openness
pub mod Marking
pub mod Reaching
-- values by which a match runs on into the next one
pub mod Following
pub mod Trails
pub mod Recognized
pub mod Trimming
-- a law for callers
pub mod AfterLaws
-- numbers of kernels
pub mod NumberedLemmas
-- sets of items
pub mod ItemTies
pub mod FullSets
pub mod SetOrder
-- the least value by which the edges of a state lead to some states
pub mod LeastValues
-- words that are read off value by value are the least
pub mod Greedy
-- depths and distances of states, and the words that they lead to
pub mod Ranked
pub mod Totals
pub mod Depths
pub mod Distances
-- states that wait: those that do forever, and for how many values the others do
pub mod LeftOut
pub mod Waiting
pub mod Walks
-- laws for callers
pub mod WitnessLaws
