pub mod Looks
pub mod Code
pub mod Depth
pub mod TreeFalls
