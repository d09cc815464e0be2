mod Cases
-- what a piece depends on
pub mod Alike
pub mod Settling
-- the run of an automaton, and the piece at the front of a text
pub mod Runs
pub mod Walking
pub mod Steps
pub mod Noting
pub mod Fronts
-- what is noted along what a run read in vain
pub mod NewNotes
-- what is read begins words that match, and what the piece at the front costs
pub mod Reading
pub mod FrontCosts
pub mod Vain
-- what is kept of pieces, one after another
pub mod KeptLaws
pub mod Places
-- a stretch of the text is replaced
pub mod Edits
-- blocks, and the whole edit
pub mod BlockLaws
pub mod Starting
pub mod FirstMeeting
pub mod Relexing
pub mod LeastChanges
-- lines and columns
pub mod LineLaws
-- what an edit costs
pub mod Distinct
pub mod NoteCounts
pub mod Paying
-- from what is kept to the pieces of the text
pub mod KeptPieces
pub mod Changes
pub mod Earliest
pub mod Reaching
-- pieces that hold a byte of a range, and how they are found in their blocks
pub mod Holding
pub mod Finding
-- a stretch of a text is replaced, and put back
pub mod Undoing
-- a text that comes in chunks
pub mod Chunking
pub mod ChunkLaws
-- text that comes as bytes, and the piece at the front of bytes that may be no text
pub mod BegunLaws
pub mod BytesLaws
pub mod Voids
pub mod FrontLaws
pub mod PartLaws
-- tokens that are found ahead
pub mod AheadLaws
-- a text is put where there was none
pub mod Filling
pub mod Held
-- a text shown as markup: its runs, what begins and ends tags, entities and sequences, and how it is read back
pub mod Characters
pub mod ShownRuns
pub mod Names
pub mod PlaceLaws
pub mod Tags
pub mod Sequences
pub mod Readings
pub mod TerminalReadings
