-- Small cases of the definitions in specs/: Cases/X.antt has those of specs/X.antt.
mod Answer
mod FileRules
mod PieceLines
mod ModePlace
mod NamedRules
mod Reasons
mod RuleClashes
mod Safe
mod ShownLine
mod Warned
mod WarningsSaid
