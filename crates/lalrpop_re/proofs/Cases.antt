-- Small cases of the definitions in specs/: Cases/X.antt has those of specs/X.antt.
mod Refusal
mod Text
mod Flag
mod GroupName
mod Escape
mod Bracket
mod Operator
mod NamedPart
pub mod Pattern
mod Escaped
mod Unescaped
mod AnyCase
pub mod CharacterSet
mod NamedSet
mod PosixSet
mod UpTo
