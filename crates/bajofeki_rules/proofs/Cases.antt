-- Small cases of the definitions in specs/: Cases/X.antt has those of specs/X.antt.
mod RuleText
mod Stack
mod Position
mod Quoted
mod Lines
