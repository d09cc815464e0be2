-- The automaton that searches for the first end.
use Rattle.std.specs.Prelude.{◌≡◌, ℕ, ◌+◌, ◌<◌, ◌≤◌, ◌⊎◌, List, [], ◌∷◌, ◌++◌, length, take}
use Rattle.lalrpop_re.specs.Internal.Walks.{Graph, Reads}

-- the text ends with these characters
abbrev pub EndsWith : List ℕ → List ℕ → Type 0
EndsWith text last = (before : List ℕ) × (text ≡ before ++ last)

-- after k characters of the end and then c, the last j characters read are the first j of the end, and j is the greatest such number
pub record IsStep (end : List ℕ) (k c j : ℕ) : Type 0 where
  pub within : j ≤ k + 1
  pub read : EndsWith (take k end ++ c ∷ []) (take j end)
  pub most : (i : ℕ) → i ≤ k + 1 → EndsWith (take k end ++ c ∷ []) (take i end) → i ≤ j

-- the words of one character that leads from state k to state q
abbrev pub StepsTo : List ℕ → ℕ → ℕ → List ℕ → Type 0
StepsTo end k q w = (c : ℕ) × ((w ≡ c ∷ []) × IsStep end k c q)

-- the automaton: the beginning leads into state 0, and each state below the length of the end has its steps
abbrev pub Automaton : List ℕ → List ℕ → Graph
Automaton start end p q w = ((p ≡ length end + 1) × (q ≡ 0) × (w ≡ start)) ⊎ ((p < length end) × StepsTo end p q w)

-- N reads the words of M, and those of the steps from state k
abbrev pub AddsSteps : List ℕ → ℕ → Graph → Graph → Type 0
AddsSteps end k M N = Reads (λ p q w. M p q w ⊎ ((p ≡ k) × StepsTo end k q w)) N
