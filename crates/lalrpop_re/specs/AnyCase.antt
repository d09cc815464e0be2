-- cases: proofs/Cases/AnyCase.antt
-- Words that are the same but for case.
use Rattle.std.specs.Prelude.{ℕ, IsTrue, List, [], ◌∷◌}
use Rattle.lalrpop_re.specs.CharacterSet.{just, fold}

-- the words are equally long, and each character of the second shares a simple case folding with that at its place in the
-- first
abbrev pub SameButForCase : List ℕ → List ℕ → Type 0
SameButForCase [] [] = Unit {0}
SameButForCase [] (d ∷ w) = ⊥
SameButForCase (c ∷ v) [] = ⊥
SameButForCase (c ∷ v) (d ∷ w) = IsTrue (fold (just c) d) × SameButForCase v w
