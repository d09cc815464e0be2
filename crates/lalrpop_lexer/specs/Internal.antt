pub mod Code
-- which tokens may stand side by side
pub mod RunningOn
pub mod Joining
