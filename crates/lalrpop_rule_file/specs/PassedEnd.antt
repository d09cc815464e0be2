-- cases: proofs/Cases/PassedEnd.antt
-- Patterns that pass their end: what `A.*B` matches, where A and B are plain characters, goes on to the last B of a line, past the first
-- one; with the flag `s`, which lets `.` match line feeds, or where more than `.` is repeated, to the last B of the text.
use Rattle.std.specs.Prelude.{◌≡◌, ◌≢◌, ℕ, ◌==◌, ◌&&◌, ◌⊎◌, List, [], ◌∷◌, ◌++◌, Contains, codes, if◌then◌else◌}
use Rattle.bajofeki_rules.specs.declared.rule_text.RuleText.{RuleText}
use Rattle.bajofeki_rules.specs.declared.rule_text.RuleText.TheVariants.{Pattern, PatternWith}
use Rattle.lalrpop_re.specs.Escape.{is_mark}
use Rattle.lalrpop_re.specs.Pattern.{is_special}

-- what follows the plain characters at the front: each stands for itself, as it is or after a backslash
abbrev pub after_plain : List ℕ → List ℕ
after_plain [] = []
after_plain (b ∷ []) = if is_special b then b ∷ [] else []
after_plain (b ∷ c ∷ text) =
    if is_special b then if b == 92 && is_mark c then after_plain text else b ∷ c ∷ text
    else after_plain (c ∷ text)

-- repetitions of any character
abbrev pub wilds : List (List ℕ)
wilds =
    codes ".*" ∷ codes ".+" ∷ codes "(?s:.)*" ∷ codes "(?s:.)+" ∷ codes "(?s:.*)" ∷ codes "(?s:.+)" ∷ codes "(.|\\n)*" ∷ codes "(.|\\n)+"
    ∷ codes "(?:.|\\n)*" ∷ codes "(?:.|\\n)+" ∷ codes "[\\s\\S]*" ∷ codes "[\\s\\S]+" ∷ []

-- one plain character or more
abbrev pub ArePlain : List ℕ → Type 0
ArePlain text = (text ≢ []) × (after_plain text ≡ [])

-- the text is the word and such characters after it
abbrev pub IsWordThenPlain : List ℕ → List ℕ → Type 0
IsWordThenPlain text word = (rest : List ℕ) × ((text ≡ word ++ rest) × ArePlain rest)

-- such characters stand before a repetition of any and after it, and nothing else
abbrev pub IsBetweenPlain : List ℕ → Type 0
IsBetweenPlain pattern = (after_plain pattern ≢ pattern) × ((wild : List ℕ) × (Contains wilds wild × IsWordThenPlain (after_plain pattern) wild))

-- so it is in the pattern, or after the flag at its front
abbrev pub PassesEnd : List ℕ → Type 0
PassesEnd pattern = IsBetweenPlain pattern ⊎ ((rest : List ℕ) × ((pattern ≡ codes "(?s)" ++ rest) × IsBetweenPlain rest))

-- in the text of a rule
abbrev pub HasPassedEnd : RuleText → Type 0
HasPassedEnd (Pattern inner) = PassesEnd inner.now
HasPassedEnd (PatternWith inner parts) = PassesEnd inner.now
HasPassedEnd text = ⊥
