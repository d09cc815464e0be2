-- What finds the matches of a text, without a memo or with one.
use Rattle.std.specs.Prelude.{◌≡◌, ℕ, Option, Some, None, List}
use Rattle.lalrpop_dense.specs.Matching.{Matching}
use Rattle.lalrpop_dense.specs.declared.cutting.Finder.{Finder}
use Rattle.lalrpop_dense.specs.declared.cutting.Finder.TheVariants.{Plain, Remembering, Interpreting}

-- the text, and how far its matches are found
abbrev pub matching_of : Finder → Matching
matching_of (Plain m) = m
matching_of (Remembering m) = m
matching_of (Interpreting m) = m

-- what the memo has to spare, if there is one
abbrev pub memo_of : Finder → Option ℕ
memo_of (Plain m) = None
memo_of (Remembering m) = Some m.spare
memo_of (Interpreting m) = None

-- how many steps are prepaid: with a memo none
abbrev pub prepaid_by : Finder → ℕ
prepaid_by (Plain m) = m.spare
prepaid_by (Remembering m) = 0
prepaid_by (Interpreting m) = m.spare

-- the matches of the text are found up to this place
abbrev pub AreFoundUpTo : List ℕ → ℕ → Finder → Type 0
AreFoundUpTo text at f = matching_of f ≡ record (matching_of f) { text = text; at = at }
