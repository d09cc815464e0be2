pub mod Cases
-- the grammar
pub mod Steps
pub mod Escapes
pub mod BracketLaws
pub mod LexicalLaws
pub mod OpeningLaws
pub mod PartLaws
pub mod PatternLaws
pub mod SetLaws
mod NameLaws
mod EscapedLemmas
pub mod UnescapedLaws
mod AnyCaseLaws
-- sets of characters
pub mod CanonLaws
pub mod SpanLaws
mod SetNameLaws
mod PosixLaws
mod FoldTable
mod FoldLaws
-- the parser
mod OpeningSteps
mod Lexemes
mod ItemLaws
mod BracketLoops
mod ParserLoops
mod PartSteps
mod UnescapeSteps
mod Numbers
-- the words up to the first end
pub mod Walks
pub mod EdgeLists
pub mod Passages
pub mod Searching
pub mod Rows
pub mod UpToLaws
