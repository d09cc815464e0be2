-- Cases of specs/PartLines.antt.
use Rattle.std.proofs.Common.{◌≡◌, ℕ, List, [], ◌∷◌, codes, refl, sym, subst, ◌∙◌, arith}
use Rattle.std.specs.Str.{chars}
use Rattle.lalrpop_rule_file.specs.RuleLine.{WrittenPart, part_of}
use Rattle.lalrpop_rule_file.specs.FileModes.{Nothing, Define}
use Rattle.lalrpop_rule_file.specs.FileParts.{IsNameColumn}
use Rattle.lalrpop_rule_file.specs.RuleFile.{without_return}
use Rattle.lalrpop_rule_file.specs.PartLines.{ArePartLines, ArePartsFrom, IsPartAt}
use Rattle.lalrpop_rule_file.specs.declared.part_line.PartLine.{PartLine}

abbrev line : List ℕ
line = codes "  D part = /0/\r"

abbrev written : WrittenPart
written = part_of (codes "D") (codes "0")

name_in_column_3 : IsNameColumn (without_return line) (codes "D") 3
unfolding chars
name_in_column_3 = record {
  lead = codes "  ";
  here = codes "D part = /0/";
  behind = codes " part = /0/";
  blanks = record { parts = refl; passes = (refl, (refl, tt)); stops = refl };
  is_name = record { parts = refl; passes = (refl, tt); stops = refl };
  counted = refl;
}

-- after a blank line, the part `D` of the second line stands in its column 3
part_in_line_2 : (p : PartLine) → p.name.now ≡ codes "D" → p.pattern.now ≡ codes "0" → p.place.line ≡ 2 → p.place.column ≡ 3 → ArePartsFrom 1 ([] ∷ line ∷ []) (Nothing ∷ Define written ∷ []) (p ∷ [])
part_in_line_2 p name pattern in_line column =
    (record { name = name; pattern = pattern; in_line = in_line; column = subst (λ (c : ℕ). IsNameColumn (without_return line) (codes "D") c) (sym column) name_in_column_3 }, tt)

other_line : (p : PartLine) → p.place.line ≡ 1 → ¬ IsPartAt 2 line written p
other_line p first at = let k : 1 ≡ 2 = sym first ∙ at.in_line in omega (arith, k)

name_for_the_pattern : (p : PartLine) → p.pattern.now ≡ codes "D" → ¬ IsPartAt 2 line written p
name_for_the_pattern p name at = let k : codes "D" ≡ codes "0" = sym name ∙ at.pattern in absurd (cc)

part_left_out : ¬ ArePartsFrom 1 (line ∷ []) (Define written ∷ []) []
part_left_out are = are

part_of_a_blank_line : (p : PartLine) → ¬ ArePartsFrom 1 ([] ∷ []) (Nothing ∷ []) (p ∷ [])
part_of_a_blank_line p are = are

no_lines_have_no_parts : ArePartLines [] []
no_lines_have_no_parts = ([], (tt, tt))
