-- Small cases of the definitions in specs/: Cases/X.antt has those of specs/X.antt.
mod Console
mod CutEnds
mod FileAnswers
mod OpenModes
mod Progress
mod TextAnswer
mod Written
