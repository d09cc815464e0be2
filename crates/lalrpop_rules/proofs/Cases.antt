-- Small cases of the definitions in specs/: Cases/X.antt has those of specs/X.antt.
mod Found
mod Pieces
mod CutToEnd
mod TextTrees
mod Kinds
mod RuleSet
mod RulesErrors
mod Modes
mod ModeSet
mod ModeCut
mod ModeClashes
mod FileLexer
