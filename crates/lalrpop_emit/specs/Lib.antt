pub mod Names
pub mod Ahead
pub mod NumberedRules
pub mod BytePieces
pub mod ByteCut
pub mod BytePositions
pub mod CSource
pub mod RustSource
pub mod EmitErrors
-- what serves the proofs alone
pub mod Internal
