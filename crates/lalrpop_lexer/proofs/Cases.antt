-- Small cases of the definitions in specs/: Cases/X.antt has those of specs/X.antt.
mod LexerErrors
mod Spelled
pub mod Line
pub mod Terminals
mod Joined
