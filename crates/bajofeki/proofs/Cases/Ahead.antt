-- Cases of specs/Internal/Ahead.antt.
use Rattle.std.proofs.Common.{◌≡◌, ℕ, List, [], refl, arith}
use Rattle.lalrpop_dfa.specs.Dfa.{Row}
use Rattle.bajofeki.specs.declared.found_ahead.FoundAhead.{FoundAhead}
use Rattle.bajofeki.specs.declared.parts.FrontPiece.{FrontPiece}
use Rattle.bajofeki.specs.Internal.Ahead.{IsFirst, LeadOn}

-- where none are ahead, they lead on in any text
none_lead_on : (d : List Row) (text : List ℕ) (a : FoundAhead) → a.at ≡ 0 → a.ends ≡ [] → LeadOn d text a
none_lead_on d text a at none = rw (at, none) (text, (refl, tt))

-- a token isn't empty
first_has_bytes : (d : List Row) (text : List ℕ) (f : FrontPiece) (a : FoundAhead) → f.size ≡ 0 → ¬ IsFirst d text f a
first_has_bytes d text f a empty h = omega (arith, empty, h.1.1.some)
