-- cases: proofs/Cases/Unescaped.antt
-- The text that a text with escapes says.
use Rattle.std.specs.Prelude.{ℕ, IsFalse, List, [], ◌∷◌, codes}
use Rattle.lalrpop_re.specs.Text.{Text, ◌▸◌}
use Rattle.lalrpop_re.specs.CharacterSet.{is_one_of}
use Rattle.lalrpop_re.specs.Escape.{Escape, character}

-- `Unescapes t cs`: t says the characters cs. An escape that stands for one character says it, and a character that isn't a
-- backslash says itself. Escapes of sets and assertions say nothing.
pub data Unescapes : Text → List ℕ → Type 0 where
  at_end : Unescapes [] []
  itself : {c : ℕ} {t : Text} {cs : List ℕ} → IsFalse (is_one_of "\\" c) → Unescapes t cs → Unescapes (c ∷ t) (c ∷ cs)
  by_escape : {t r : Text} {c : ℕ} {cs : List ℕ} → Escape t r (character c) → Unescapes r cs → Unescapes (codes "\\" ▸ t) (c ∷ cs)
