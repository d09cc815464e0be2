mod BadLines
mod CutInMemory
mod EndingLaws
mod Memory
mod TextEndingLaws
