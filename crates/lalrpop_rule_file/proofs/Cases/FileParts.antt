-- Cases of specs/FileParts.antt.
use Rattle.std.proofs.Common.{◌≡◌, ℕ, List, [], ◌∷◌, ◌+◌, length, codes, refl, sym, ap, ◌∙◌, arith, length-append}
use Rattle.std.specs.Str.{chars}
use Rattle.lalrpop_re.specs.NamedPart.{NamedPart}
use Rattle.lalrpop_rule_file.specs.RuleLine.{WrittenPart, WrittenRule, Section}
use Rattle.lalrpop_rule_file.specs.FileModes.{Nothing, Heading, Define, Rule}
use Rattle.lalrpop_rule_file.specs.FileParts.{AreParts, IsNameColumn, IsPatternColumn, no_parts, one_more, parts_above, parts_in}

-- parts in the order of their lines, whatever stands between them
parts_of_lines : (w v : WrittenPart) (rule : WrittenRule) (section : Section) → parts_in (Rule rule ∷ Define w ∷ Heading section ∷ Nothing ∷ Define v ∷ []) ≡ w ∷ v ∷ []
parts_of_lines w v rule section = refl

-- a rule knows the parts above it
parts_above_rules : (w v : WrittenPart) (rule : WrittenRule) (section : Section) → parts_above 0 (Rule rule ∷ Define w ∷ Heading section ∷ Rule rule ∷ Nothing ∷ Define v ∷ Rule rule ∷ []) ≡ 0 ∷ 1 ∷ 2 ∷ []
parts_above_rules w v rule section = refl

no_rules_know_nothing : (w : WrittenPart) → parts_above 0 (Define w ∷ []) ≡ []
no_rules_know_nothing w = refl

-- as many parts as lines that define them
as_many : (ws : List WrittenPart) (ps : List NamedPart) → AreParts ws ps → length ws ≡ length ps
as_many ws ps no_parts = refl
as_many ws ps (one_more {ws = vs} {ps = qs} w p are is_new part) =
    let k = as_many vs qs are in
    length-append vs (w ∷ []) ∙ ap (λ (n : ℕ). n + 1) k ∙ sym (length-append qs (p ∷ []))

part_left_out : (w : WrittenPart) → ¬ AreParts (w ∷ []) []
part_left_out w are = let k : 1 ≡ 0 = as_many (w ∷ []) [] are in omega (arith, k)

-- in `  D part = /0{X}/` the name stands in column 3, and the brace in column 14
name_in_column_3 : IsNameColumn (codes "  D part = /0{X}/") (codes "D") 3
unfolding chars
name_in_column_3 = record {
  lead = codes "  ";
  here = codes "D part = /0{X}/";
  behind = codes " part = /0{X}/";
  blanks = record { parts = refl; passes = (refl, (refl, tt)); stops = refl };
  is_name = record { parts = refl; passes = (refl, tt); stops = refl };
  counted = refl;
}

brace_in_column_14 : IsPatternColumn (codes "  D part = /0{X}/") (codes "0{X}") 14
unfolding chars
brace_in_column_14 = record {
  front = codes "  D part = /";
  here = codes "0{X}/";
  position = 1;
  parts = refl;
  begins = ([], (refl, tt));
  between = (omega arith, λ less big. absurd (omega (arith, big)));
  counted = refl;
}
