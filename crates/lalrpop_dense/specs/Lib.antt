pub mod Leading
pub mod DenseTable
-- a text cut by an automaton
pub mod Matching
pub mod Cutting
-- tokens: the rules of which they are, those between two places, the same under other numbers, and side by side
pub mod Rules
pub mod LeadingTokens
pub mod SameTokens
pub mod Renumbered
pub mod Neighbours
-- what serves the proofs alone
pub mod Internal
