pub mod Status
pub mod Ending
pub mod Word
pub mod Printed
pub mod Answer
pub mod Whole
pub mod Run
pub mod Arguments
pub mod Streams
pub mod Calls
-- the command line of `tokens`
pub mod Options
pub mod Command
pub mod Usage
-- what serves the proofs alone
pub mod Internal
