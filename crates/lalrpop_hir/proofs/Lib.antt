pub mod Cases
-- lists, their members and orders
pub mod Contained
pub mod Members
pub mod Pushed
pub mod SortedLists
pub mod Orders
pub mod Words
-- texts, and how a walk along one divides it
pub mod TextWords
pub mod Cuts
-- how many characters a text has
pub mod StartLaws
-- what the definitions mean: there is one clash, and one longest match
pub mod ClashLaws
pub mod Longests
pub mod Strongest
-- pieces one after another
pub mod Chains
pub mod LastFaults
-- ranges
pub mod Meeting
-- the words of trees
pub mod Languages
pub mod Powers
-- classes
pub mod Canons
pub mod Joining
pub mod Gaps
pub mod Merging
pub mod Complements
