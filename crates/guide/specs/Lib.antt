pub mod Marks
-- what serves the proofs alone
pub mod Internal
