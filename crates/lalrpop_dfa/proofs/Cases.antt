-- Small cases of the definitions in specs/: Cases/X.antt has those of specs/X.antt or specs/Internal/X.antt.
pub mod Dfa
mod SameAutomata
mod Counts
mod Lookahead
mod Follow
mod Kernels
mod Ascending
mod LiveItems
mod ItemOrder
mod Witness
