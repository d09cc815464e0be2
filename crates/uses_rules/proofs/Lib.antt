mod Counting
mod EditCosts
mod Edits
mod Joining
mod LexdfaRuns
mod ModePieces
mod Pages
mod ReadFiles
