-- Cases of specs/Arguments.antt.
use Rattle.std.proofs.Common.{◌≡◌, true, false, [], ◌∷◌, codes, refl}
use Rattle.lexdfa_lib.specs.Options.{is_end, is_option, joined, options, names}

-- two dashes end the options, and nothing else does
ends : (is_end (codes "--") ≡ true) × (is_end (codes "---") ≡ false) × (is_end (codes "-") ≡ false)
ends = (refl, refl, refl)

-- a dash alone is a name
are_options : (is_option (codes "--json") ≡ true) × (is_option (codes "-x") ≡ true) × (is_option (codes "-") ≡ false) × (is_option [] ≡ false)
are_options = (refl, refl, refl, refl)

-- options and names may stand among each other
mixed : (options (codes "r" ∷ codes "--json" ∷ codes "f" ∷ codes "--recover" ∷ []) ≡ codes "--json" ∷ codes "--recover" ∷ []) × (names (codes "r" ∷ codes "--json" ∷ codes "f" ∷ []) ≡ codes "r" ∷ codes "f" ∷ [])
mixed = (refl, refl)

-- after `--` all are names, a second `--` too
after_end : (options (codes "--" ∷ codes "-x" ∷ []) ≡ []) × (names (codes "--" ∷ codes "-x" ∷ []) ≡ codes "-x" ∷ [])
    × (options (codes "--json" ∷ codes "--" ∷ codes "--html" ∷ []) ≡ codes "--json" ∷ []) × (names (codes "r" ∷ codes "--" ∷ codes "--html" ∷ codes "--" ∷ []) ≡ codes "r" ∷ codes "--html" ∷ codes "--" ∷ [])
after_end = (refl, refl, refl, refl)

-- an option and its value are one word, also where the value looks like an option; after `--` words stay apart
values : (joined (codes "--emit" ∷ codes "c" ∷ codes "r" ∷ []) ≡ codes "--emit=c" ∷ codes "r" ∷ []) × (joined (codes "r" ∷ codes "--prefix" ∷ codes "--" ∷ []) ≡ codes "r" ∷ codes "--prefix=--" ∷ [])
    × (joined (codes "--color" ∷ codes "auto" ∷ codes "r" ∷ []) ≡ codes "--color=auto" ∷ codes "r" ∷ [])
    × (joined (codes "--" ∷ codes "--emit" ∷ codes "c" ∷ []) ≡ codes "--" ∷ codes "--emit" ∷ codes "c" ∷ [])
values = (refl, refl, refl, refl)

-- a value that is missing, and options without one
no_values : (joined (codes "r" ∷ codes "--emit" ∷ []) ≡ codes "r" ∷ codes "--emit" ∷ []) × (joined (codes "--json" ∷ codes "r" ∷ []) ≡ codes "--json" ∷ codes "r" ∷ [])
no_values = (refl, refl)

no_words : (options [] ≡ []) × (names [] ≡ [])
no_words = (refl, refl)
