-- Small cases of the definitions in specs/: Cases/X.antt has those of specs/X.antt.
mod Names
mod CSource
mod RustSource
mod NumberedRules
mod EmitErrors
mod BytePieces
mod ByteCut
mod BytePositions
mod Characters
mod Ahead
