pub mod Cases
-- what the calls that cut a text return
pub use Rattle.lalrpop_dense.proofs.Cuttings
pub use Rattle.lalrpop_dense.proofs.LexerCuttings
pub use Rattle.lalrpop_dense.proofs.TextWalks
pub use Rattle.lalrpop_dense.proofs.Standings
-- what lines say
pub mod LineParts
pub mod TerminalLemmas
pub mod TerminalLaws
-- texts and their trees
pub mod SpelledTexts
-- what the definitions mean: the clash, the list of clashes and the longest match are unique
pub use Rattle.lalrpop_hir.proofs.ClashLaws
pub use Rattle.lalrpop_build.proofs.ClashListLaws
pub use Rattle.lalrpop_hir.proofs.Longests
-- what follows from the clauses, for callers
pub use Rattle.lalrpop_nfa.proofs.PartitionLaws
pub use Rattle.lalrpop_hir.proofs.Chains
pub use Rattle.lalrpop_hir.proofs.Strongest
pub use Rattle.lalrpop_build.proofs.Agreeing
pub use Rattle.lalrpop_build.proofs.AfterLaws
pub use Rattle.lalrpop_dfa.proofs.Recognized
pub use Rattle.lalrpop_dfa.proofs.WitnessLaws
-- how many characters a text has, and the place after it
pub use Rattle.lalrpop_hir.proofs.StartLaws
pub use Rattle.bajofeki_rules.proofs.PlaceLaws
-- the words that the patterns match
pub mod MatchedWords
-- laws for callers: the tokens of a text, the same rules under other numbers, and a rule more
pub use Rattle.lalrpop_dense.proofs.Decided
pub use Rattle.lalrpop_dense.proofs.UniqueTokens
pub use Rattle.lalrpop_dense.proofs.RenumberLaws
pub use Rattle.lalrpop_dense.proofs.MoreRules
pub use Rattle.lalrpop_dense.proofs.TextPrefixes
pub use Rattle.lalrpop_dense.proofs.Locality
pub use Rattle.lalrpop_dense.proofs.NeighbourLaws
-- the table of tokens that run on into others
pub mod RunningOn
-- texts of tokens
pub mod Joining
