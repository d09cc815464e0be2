pub mod Cases
-- pairs of states
pub mod Characters
pub mod PairWalks
pub mod PairTurns
pub mod Stretches
pub mod MetPairs
pub mod PairWords
-- the first pair that is apart tells two automata apart
pub mod FirstPair
pub mod Differing
-- trees that match the empty word
pub mod EmptyMatches
-- classes of states: lists, and the first that is equal; values that lead alike from all states; rounds
pub mod FirstLaws
pub mod SplitLaws
pub mod Marks
pub mod StretchLaws
pub mod NextClasses
pub mod RoundLaws
pub mod ShortestLaws
pub mod LongestLaws
-- the smallest automaton
pub mod Distinct
pub mod PushedNumbers
pub mod ClassOrder
pub mod ClassAutomata
pub mod ClassWalks
pub mod JoinedTests
pub mod OneSmallest
pub mod StateCounts
-- the picture of an automaton
pub mod Codes
pub mod Turns
pub mod FirstPlaces
-- who wins, and who is hidden
pub mod TextWordLaws
pub mod FirstNumbers
pub mod WonWordLaws
pub mod VerdictLaws
pub mod LeastWordLaws
-- tokens side by side
pub mod AheadLaws
pub mod BesideLaws
