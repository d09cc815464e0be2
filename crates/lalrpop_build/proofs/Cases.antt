-- Small cases of the definitions in specs/: Cases/X.antt has those of specs/X.antt or specs/Internal/X.antt.
mod Items
mod Agree
mod Given
mod Subsets
mod Transitions
mod Alphabet
