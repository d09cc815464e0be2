-- cases: proofs/Cases/Ahead.antt
-- Tokens that are found ahead.
use Rattle.std.specs.Prelude.{◌≡◌, ◌≤◌, ◌+◌, ◌++◌, ◌⊎◌, ℕ, List, [], length, drop, slice_get, Some}
use Rattle.std.specs.Char.{encode_utf8}
use Rattle.lalrpop_dfa.specs.Dfa.{Row}
use Rattle.lalrpop_dense.specs.Leading.{IsEnd, AreAhead}
use Rattle.lalrpop_rules.specs.Modes.{ModeRules}
use Rattle.bajofeki.specs.declared.found_ahead.FoundAhead.{FoundAhead}
use Rattle.bajofeki.specs.declared.kept.Kept.{Kept}
use Rattle.bajofeki.specs.declared.parts.Part.{Part}
use Rattle.bajofeki.specs.declared.parts.FrontPiece.{FrontPiece}
use Rattle.bajofeki.specs.Internal.Kept.{reach_of, rule_of}
use Rattle.bajofeki.specs.Internal.Parts.{text_in}

-- they lead from the front of the text on
abbrev pub LeadOn : List Row → List ℕ → FoundAhead → Type 0
LeadOn d text a = (whole : List ℕ) × ((drop a.at whole ≡ text) × AreAhead d whole a.at a.ends)

-- the piece is the first of them, and the others lead on after it
abbrev pub IsFirst : List Row → List ℕ → FrontPiece → FoundAhead → Type 0
IsFirst d text f a = (i : ℕ) × ((f.rule ≡ Some i) × IsEnd d text 0 i f.size × LeadOn d (drop f.size text) a)

-- this is kept of the piece, which depends on the character after it, and on no more
pub record IsKeptOf (text : List ℕ) (f : FrontPiece) (k : Kept) : Type 0 where
  pub rule : rule_of k ≡ f.rule
  pub size : k.size ≡ f.size
  pub next : ℕ
  pub rest : List ℕ
  pub split : drop f.size text ≡ encode_utf8 next ++ rest
  pub reach : reach_of k ≡ f.size + length (encode_utf8 next)

-- none are ahead; or they lead on after so many bytes of a text, by the automaton of the mode
abbrev pub LeadOnAfter : ModeRules → ℕ → List ℕ → ℕ → FoundAhead → Type 0
LeadOnAfter r mode text size a = (a.ends ≡ []) ⊎ ((size ≤ length text) × ((d : List Row) → slice_get r.automata mode ≡ Some d → LeadOn d (drop size text) a))

-- none are ahead; or the part begins the bytes, and they lead on after so many bytes of its text
abbrev pub AreFoundAfter : ModeRules → ℕ → List ℕ → Part → ℕ → FoundAhead → Type 0
AreFoundAfter r mode bytes p size a = (a.ends ≡ []) ⊎ ((p.from ≡ 0) × LeadOnAfter r mode (text_in bytes p) size a)

abbrev pub AreFound : ModeRules → ℕ → List ℕ → Part → FoundAhead → Type 0
AreFound r mode bytes p a = AreFoundAfter r mode bytes p 0 a
