-- cases: proofs/Cases/Words.antt
-- The bytes of a line: blanks, names, and the front of a text that passes a test.
use Rattle.std.specs.Prelude.{◌≡◌, ℕ, Bool, true, false, not, ◌==◌, ◌||◌, List, [], ◌∷◌, ◌++◌}
use Rattle.std.specs.Char.{is_ascii_alphabetic, is_ascii_alphanumeric}

-- each byte passes the test
abbrev pub EachByte : (ℕ → Bool) → List ℕ → Type 0
EachByte p [] = Unit {0}
EachByte p (b ∷ bs) = (p b ≡ true) × EachByte p bs

-- whether there is a first byte, and it passes the test
abbrev pub begins : (ℕ → Bool) → List ℕ → Bool
begins p [] = false
begins p (b ∷ bs) = p b

-- the text is all the bytes at its front that pass the test, and the rest
pub record IsSpan (p : ℕ → Bool) (text front rest : List ℕ) : Type 0 where
  pub parts : text ≡ front ++ rest
  pub passes : EachByte p front
  pub stops : begins p rest ≡ false

-- a space or a tab
abbrev pub is_blank : ℕ → Bool
is_blank b = b == 32 || b == 9

abbrev pub AreBlanks : List ℕ → Type 0
AreBlanks bs = EachByte is_blank bs

-- the first character of a name is an ASCII letter or `_`; the others may be digits too
abbrev pub begins_name : ℕ → Bool
begins_name b = is_ascii_alphabetic b || b == 95

abbrev pub is_of_name : ℕ → Bool
is_of_name b = is_ascii_alphanumeric b || b == 95

abbrev pub Lacks : ℕ → List ℕ → Type 0
Lacks mark bs = EachByte (λ b. not (b == mark)) bs

abbrev pub is_no_apostrophe : ℕ → Bool
is_no_apostrophe b = not (b == 39)
