mod Cases
pub mod ShowLemmas
