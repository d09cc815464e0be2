-- Small cases of the definitions in specs/: Cases/X.antt has those of specs/X.antt.
mod Checked
mod Compared
mod Listings
mod Pictured
mod ReviewJson
mod ReviewLines
