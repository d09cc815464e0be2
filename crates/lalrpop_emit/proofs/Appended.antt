-- A text that grew part by part.
use Rattle.std.proofs.Common.{◌≡◌, ℕ, List, ◌++◌, ap, ◌∙◌, append_assoc}

-- if the text grew by the part, and then by the rest, it grew by both
pub grown : (s t u a b : List ℕ) → t ≡ s ++ a → u ≡ t ++ b → u ≡ s ++ (a ++ b)
grown s t u a b first rest = rest ∙ ap (λ (x : List ℕ). x ++ b) first ∙ append_assoc s a b
