pub mod Review
pub mod Apart
-- used by proofs only
pub mod Internal
