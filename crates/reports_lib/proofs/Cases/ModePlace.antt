-- Cases of specs/ModePlace.antt.
use Rattle.std.proofs.Common.{◌≡◌, ℕ, true, false, List, [], ◌∷◌, codes, refl}
use Rattle.bajofeki_rules.specs.declared.position.Position.{Position}
use Rattle.lalrpop_rule_file.specs.RuleLine.{These, Every}
use Rattle.lalrpop_rule_file.specs.FileModes.{Nothing, Heading}
use Rattle.reports_lib.specs.ModePlace.{begins_mode, section_place}

abbrev place : ℕ → ℕ → Position
place line column = record { line = line; column = column }

abbrev m : List ℕ
m = codes "M"

-- a section of two modes is one of each, and a section of every mode is of none
named : (begins_mode (Heading (These (codes "A" ∷ m ∷ []))) m ≡ true) × (begins_mode (Heading (These (codes "MM" ∷ []))) m ≡ false) × (begins_mode (Heading Every) m ≡ false)
named = (refl, refl, refl)

-- blanks at the front count, and so do lines that say nothing; a second section of the mode doesn't
second_line : section_place 1 (codes "# M" ∷ codes " \t[A M]" ∷ codes "[M]" ∷ []) (Nothing ∷ Heading (These (codes "A" ∷ m ∷ [])) ∷ Heading (These (m ∷ [])) ∷ []) m ≡ place 2 3
second_line = refl

no_section : section_place 1 (codes "[*]" ∷ []) (Heading Every ∷ []) m ≡ place 1 1
no_section = refl
