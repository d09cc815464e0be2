-- Small cases of the definitions in specs/: Cases/X.antt has those of specs/X.antt.
mod Status
mod Ending
mod Word
mod Printed
mod Answer
mod Whole
mod Run
mod Arguments
mod Streams
mod Calls
mod Options
mod Command
mod Usage
