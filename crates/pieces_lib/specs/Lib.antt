pub mod Console
pub mod CutEnds
pub mod FileAnswers
pub mod OpenModes
pub mod Progress
pub mod Tasks
pub mod TextAnswer
pub mod Written
-- what serves the proofs alone
pub mod Internal
-- what the public contracts of lexdfa_lib and reports_lib name
pub use Rattle.lexdfa_lib.specs.Streams
pub use Rattle.reports_lib.specs.Answer
pub use Rattle.reports_lib.specs.PieceLines
