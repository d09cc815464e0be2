mod Cases
-- members of objects
pub mod ReviewMembers
-- reviews
pub mod ReviewLaws
-- two files that are compared
pub mod ComparedLaws
-- pictures of automata
pub mod Pictures
-- what is safe to show
pub mod SafeReviews
