-- what a lexer has to do, in reading order: words, trees, and the words that a tree matches
pub mod Word
pub mod Range
pub mod Meet
pub mod States
pub mod Tree
pub mod Language
pub mod Fault
-- many trees: who wins, the longest match, a clash, and the tokens of a text
pub mod Prefix
pub mod Winners
pub mod Longest
pub mod Clash
pub mod Clashes
pub mod Report
pub mod Chain
pub mod Tokens
-- trees as they are stored
pub mod Runs
pub mod Counts
pub mod Parts
pub mod Size
pub mod Level
-- texts: the bytes with which characters begin
pub mod Starts
-- used by proofs only: trees as lists of numbers, and their depth
pub mod Internal
