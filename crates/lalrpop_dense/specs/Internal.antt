pub mod Alikes
pub mod Fused
pub mod Marks
pub mod Reading
pub mod Runs
pub mod SelfLoops
pub mod Table
-- matches that are found ahead
pub mod Blocks
pub mod Finding
-- matches in linear time
pub mod Memory
pub mod Hopeless
pub mod Standing
