-- rows that are being written
pub mod Written
pub mod SameLaws
pub mod Marks
-- for how many values in a row states wait
pub mod Waits
-- borders of tests, and values by which a match runs on
pub mod Fitting
-- numbers of kernels
pub mod Numbered
-- items, and sets of them
pub mod OrderLaws
-- depths and distances of states
pub mod Ranks
