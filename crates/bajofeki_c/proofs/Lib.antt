mod Cases
pub mod Answering
pub mod Walking
pub mod Seen
pub mod Pages
pub mod Writing
pub mod Giving
pub mod Lives
pub mod Names
pub mod Threads
