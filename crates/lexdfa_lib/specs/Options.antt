-- cases: proofs/Cases/Arguments.antt
-- The options and the names among the arguments.
use Rattle.std.specs.Prelude.{ℕ, ◌==◌, ◌&&◌, ◌||◌, Bool, not, List, [], ◌∷◌, ◌++◌, filter, codes, if◌then◌else◌}
use Rattle.std.specs.List.{before_first, after_first, starts_with}
use Rattle.std.specs.Str.{bytes_eq}

-- the argument ends the options
abbrev pub is_end : List ℕ → Bool
is_end word = bytes_eq word (codes "--")

-- the argument begins with a dash, and isn't the dash alone, which is the name of standard input
abbrev pub is_option : List ℕ → Bool
is_option word = starts_with ◌==◌ word (codes "-") && not (bytes_eq word (codes "-"))

-- the option has a value
abbrev pub takes_value : List ℕ → Bool
takes_value word = bytes_eq word (codes "--emit") || (bytes_eq word (codes "--prefix") || bytes_eq word (codes "--color"))

-- the arguments with each such option and its value in one word: `--emit c` is `--emit=c`
abbrev pub joined : List (List ℕ) → List (List ℕ)
joined [] = []
joined (word ∷ []) = word ∷ []
joined (word ∷ next ∷ words) =
    if is_end word then word ∷ next ∷ words
    else if takes_value word then (word ++ (codes "=" ++ next)) ∷ joined words
    else word ∷ joined (next ∷ words)

-- options are such arguments before the first `--`
abbrev pub options : List (List ℕ) → List (List ℕ)
options words = filter is_option (before_first is_end words)

-- names are the others, and all after it
abbrev pub names : List (List ℕ) → List (List ℕ)
names words = filter (λ word. not (is_option word)) (before_first is_end words) ++ after_first is_end words
