-- Small cases of the definitions in specs/: Cases/X.antt has those of specs/X.antt.
pub mod Reach
mod Kept
mod Lexed
mod Given
mod Chunked
mod Begun
mod Walking
mod Noted
mod Parts
mod Held
mod Ahead
mod Costs
mod Markup
mod Places
mod Terminal
