mod Cases
pub mod CutLemmas
pub mod Known
pub mod RunLaws
pub mod StreamLaws
pub mod Unique
pub mod UniqueWhole
