mod Cases
-- the first place of a text where something matches
pub mod FirstMatches
-- what follows from the promises, for callers
pub mod CallerLaws
-- the pieces of a text
pub mod Fronts
pub mod PieceLaws
pub mod UniquePieces
pub mod FirstPieces
pub mod PiecesExist
-- the match at the front of a rest, and what it costs
pub mod Finding
pub mod Waiting
-- what holds of every error
pub mod Results
-- the trees of texts
pub mod RuleTrees
pub mod KindLaws
-- the pieces of a text by rules with modes, and the stack after them
pub mod ModePieces
pub mod ModeLaws
pub mod ModesExist
-- what the calls give, and what they cost
pub mod ModeRuns
pub mod NextRuns
pub mod Cuts
pub mod FirstCuts
pub mod LinearModes
-- the trees of a mode
pub mod Masks
-- modes that are there
pub mod NamedModes
-- the lexers of modes, one after another
pub mod ModeByMode
pub mod ClashLists
-- a lexer of a file
pub mod FileLexers
-- rules without modes
pub mod OneMode
-- stacks that are the same
mod SameStacks
