-- cases: proofs/Cases/Follow.antt
-- Words that can't stand side by side and still be told apart.
use Rattle.std.specs.Prelude.{◌≢◌, ℕ, List, [], ◌∷◌, ◌++◌}
use Rattle.lalrpop_hir.specs.Language.{Words}

-- some word of L begins with a nonempty word of M and, after it, the first value of a word of N
pub record RunsOn (L M N : Words) : Type 0 where
  pub first : List ℕ
  pub value : ℕ
  pub rest : List ℕ
  pub later : List ℕ
  pub some : first ≢ []
  pub is_first : M first
  pub begins_second : N (value ∷ rest)
  pub goes_on : L (first ++ (value ∷ later))
