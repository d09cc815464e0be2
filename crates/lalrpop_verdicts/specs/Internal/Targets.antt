-- Numbers without repetition.
use Rattle.std.specs.Prelude.{ℕ, ◌==◌, List, [], ◌∷◌, ◌++◌, if◌then◌else◌}
use Rattle.std.specs.List.{list_any}

-- the numbers, and this one if it isn't among them
abbrev pub with_new : List ℕ → ℕ → List ℕ
with_new numbers q = if list_any (λ n. n == q) numbers then numbers else numbers ++ q ∷ []
