-- Small cases of the definitions in specs/: Cases/X.antt has those of specs/X.antt.
mod Emitted
mod Program
