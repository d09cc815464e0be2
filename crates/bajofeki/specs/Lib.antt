pub mod Lexed
pub mod Costs
pub mod Given
pub mod Chunked
pub mod Begun
pub mod Markup
pub mod Places
pub mod Terminal
-- used by proofs only
pub mod Internal
