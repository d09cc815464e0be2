-- Small cases of the definitions in specs/: Cases/X.antt has those of specs/X.antt, Cases/Reads.antt those of specs/Internal/Reads.antt.
mod Walk
mod Firsts
mod Contiguous
mod Path
mod Reads
mod Compiled
mod Partition
