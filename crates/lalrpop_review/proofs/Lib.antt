mod Cases
-- the counts of kinds in a mode, and the trees of rules that are alone in their kind
pub mod Counting
pub mod OwnTrees
pub mod OwnVerdicts
-- lists of rules and of modes, one after another
pub mod Those
pub mod IdleLaws
pub mod Reviews
-- where two lexers make different tokens
pub mod MeaningLaws
pub mod ApartLaws
-- how many states an automaton of given trees needs
pub mod LeastStates
