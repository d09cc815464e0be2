-- cases: proofs/Cases/PartLines.antt
-- The parts of a file as they are written, and where they stand.
use Rattle.std.specs.Prelude.{◌≡◌, ℕ, ◌+◌, List, [], ◌∷◌}
use Rattle.lalrpop_rule_file.specs.RuleLine.{WrittenPart}
use Rattle.lalrpop_rule_file.specs.FileModes.{Said, Nothing, Heading, Define, Rule}
use Rattle.lalrpop_rule_file.specs.FileParts.{IsNameColumn}
use Rattle.lalrpop_rule_file.specs.RuleFile.{LinesSay, without_return}
use Rattle.lalrpop_rule_file.specs.declared.part_line.PartLine.{PartLine}

-- the part is written so in the line with this number
pub record IsPartAt (n : ℕ) (line : List ℕ) (w : WrittenPart) (p : PartLine) : Type 0 where
  pub name : p.name.now ≡ w.name
  pub pattern : p.pattern.now ≡ w.pattern
  pub in_line : p.place.line ≡ n
  pub column : IsNameColumn (without_return line) w.name p.place.column

-- the lines define these parts; the first line has this number
abbrev pub ArePartsFrom : ℕ → List (List ℕ) → List Said → List PartLine → Type 0
ArePartsFrom n [] [] [] = Unit {0}
ArePartsFrom n (line ∷ ls) (Nothing ∷ said) ps = ArePartsFrom (n + 1) ls said ps
ArePartsFrom n (line ∷ ls) (Heading section ∷ said) ps = ArePartsFrom (n + 1) ls said ps
ArePartsFrom n (line ∷ ls) (Define w ∷ said) (p ∷ ps) = IsPartAt n line w p × ArePartsFrom (n + 1) ls said ps
ArePartsFrom n (line ∷ ls) (Rule rule ∷ said) ps = ArePartsFrom (n + 1) ls said ps
ArePartsFrom n _ _ _ = ⊥

-- the lines define these parts; lines count from 1
abbrev pub ArePartLines : List (List ℕ) → List PartLine → Type 0
ArePartLines ls ps = (said : List Said) × (LinesSay ls said × ArePartsFrom 1 ls said ps)
