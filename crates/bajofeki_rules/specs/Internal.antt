pub mod Places
pub mod ByteRuns
-- modes that are marked
pub mod Marks
