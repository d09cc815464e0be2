pub mod Checked
pub mod Compared
pub mod Listings
pub mod Pictured
pub mod ReviewJson
pub mod ReviewLines
-- what serves the proofs alone
pub mod Internal
