-- Small cases of the definitions in specs/: Cases/X.antt has those of specs/X.antt.
mod Leading
mod DenseTable
mod Matching
mod Cutting
mod Rules
mod LeadingTokens
mod SameTokens
mod Renumbered
mod Neighbours
