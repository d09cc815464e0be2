use Rattle.std.proofs.Common.{◌≡◌, ◌++◌, ◌∷◌, ℕ, List, string_bytes, drop, map, flat_map}
use Rattle.lalrpop_verdicts.proofs.picture.push_behind.Given as goal

-- with what is left the text is complete
abbrev pub invariant-loop-part : goal.invariant-loop-part
invariant-loop-part l =
    string_bytes l.text ++ flat_map (λ (part : List ℕ). 32 ∷ part) (map string_bytes (drop l.part-index l.parts))
    ≡ string_bytes l.initial.text ++ flat_map (λ (part : List ℕ). 32 ∷ part) (map string_bytes l.parts)
