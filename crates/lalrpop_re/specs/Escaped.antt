-- cases: proofs/Cases/Escaped.antt
-- The text of a pattern in which each character stands for itself.
use Rattle.std.specs.Prelude.{ℕ, Bool, List, [], ◌∷◌, if◌then◌else◌, codes}
use Rattle.lalrpop_re.specs.Text.{Text, ◌▸◌}
use Rattle.lalrpop_re.specs.CharacterSet.{is_one_of}

abbrev pub is_escaped : ℕ → Bool
is_escaped c = is_one_of "\\.+*?()|[]{}^$#&-~" c

-- each character, with a backslash before it if it is one of these
unfoldable pub escaped : List ℕ → Text
escaped [] = []
escaped (c ∷ cs) = if is_escaped c then codes "\\" ▸ c ∷ escaped cs else c ∷ escaped cs
