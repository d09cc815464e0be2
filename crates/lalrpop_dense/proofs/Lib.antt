pub mod Cases
pub mod Alikes
pub mod Rights
pub mod Pages
pub mod Walks
pub mod DenseTables
pub mod Marking
pub mod Lanes
-- what the calls that cut a text return
pub mod Cuttings
pub mod LexerCuttings
pub mod Costs
pub mod Founds
pub mod LexerCosts
-- states from which no match comes, and what a run knows of those that are noted
pub mod Hopes
pub mod Kept
pub mod TextWalks
-- the memory, and how far the matches have been found, ahead or not
pub mod Marks
pub mod Standings
pub mod Blocks
-- laws for callers: the tokens of a text, the same rules under other numbers, and a rule more
pub mod Decided
pub mod UniqueTokens
pub mod RenumberLaws
pub mod MoreRules
pub mod TextPrefixes
pub mod Locality
pub mod NeighbourLaws
