-- Cases of specs/Warned.antt.
use Rattle.std.proofs.Common.{◌≡◌, ◌≢◌, ℕ, List, [], ◌∷◌, codes, get_or, refl, ap, arith, Bor}
use Rattle.std.specs.Fmt.{digits}
use Rattle.json.specs.Print.{print_from, escape_byte}
use Rattle.bajofeki_rules.specs.declared.position.Position.{Position}
use Rattle.lalrpop_rule_file.specs.declared.file.RuleFile.{RuleFile}
use Rattle.lalrpop_rule_file.specs.declared.file_rule.FileRule.{FileRule}
use Rattle.lalrpop_rule_file.specs.declared.part_line.PartLine.{PartLine}
use Rattle.lalrpop_rule_file.specs.declared.warning.Warning.TheVariants.{NoRules, PartUnused, ModeNotEntered, ModeNotLeft, TextGoesOn, ClassOutside, EndPassed}
use Rattle.reports_lib.specs.ModePlace.{TellsSections}
use Rattle.reports_lib.specs.Warned.{AreWarnings, SaysWarnings, warned_at, warned_of, warning_text}
use Rattle.reports_lib.proofs.JsonLaws.{line_as_is}
use Rattle.lexdfa_lib.specs.declared.layout.LineForm.{LineForm}
use Rattle.lexdfa_lib.specs.declared.layout.LineForm.TheVariants.{Plain, Json}

abbrev place : ℕ → ℕ → Position
place line column = record { line = line; column = column }

-- each mode has its section there
abbrev there : List ℕ → Position
there mode = place 4 1

-- ---- the lines

no_rule : (file : RuleFile)
    → warning_text Plain (codes "r") there file NoRules ≡ codes "tokens: r: warning: there is no rule in this file: a rule is a line NAME = 'TEXT' or NAME = /PATTERN/\n"
no_rule file = refl

unused_part : (file : RuleFile) (p : PartLine) → file.part_lines.items ≡ p ∷ [] → p.name.now ≡ codes "D" → p.place ≡ place 2 1
    → warning_text Plain (codes "r") there file (PartUnused 0) ≡ codes "tokens: r:2:1: warning: no pattern below uses the part {D}\n"
unfolding digits
unused_part file p parts name at = rw parts (rw (name, at) refl)

mode_not_entered : (file : RuleFile) (first second : Bor (List ℕ)) → file.modes.items ≡ first ∷ second ∷ [] → second.now ≡ codes "TEXT"
    → warning_text Plain (codes "r") there file (ModeNotEntered 1) ≡ codes "tokens: r:4:1: warning: no rule enters the mode TEXT\n"
unfolding digits
mode_not_entered file first second modes name = rw modes (rw name refl)

mode_not_left : (file : RuleFile) (first second : Bor (List ℕ)) → file.modes.items ≡ first ∷ second ∷ [] → second.now ≡ codes "TEXT"
    → warning_text Plain (codes "r") there file (ModeNotLeft 1) ≡ codes "tokens: r:4:1: warning: no rule leaves the mode TEXT: none pops it or puts another mode in its place\n"
unfolding digits
mode_not_left file first second modes name = rw modes (rw name refl)

text_going_on : (file : RuleFile) (r : FileRule) → file.rules.items ≡ r ∷ [] → r.place ≡ place 3 6
    → warning_text Plain (codes "r") there file (TextGoesOn 0) ≡ codes "tokens: r:3:6: warning: this text goes on to the last delimiter of the line, past one that seems to end it\n"
unfolding digits
text_going_on file r rules at = rw rules (rw at refl)

class_outside : (file : RuleFile) (r : FileRule) → file.rules.items ≡ r ∷ [] → r.place ≡ place 3 6
    → warning_text Plain (codes "r") there file (ClassOutside 0) ≡ codes "tokens: r:3:6: warning: a bracket such as [:alpha:] is a set of its characters: a class stands in brackets, as [[:alpha:]]\n"
unfolding digits
class_outside file r rules at = rw rules (rw at refl)

end_passed : (file : RuleFile) (r : FileRule) → file.rules.items ≡ r ∷ [] → r.place ≡ place 3 6
    → warning_text Plain (codes "r") there file (EndPassed 0) ≡ codes "tokens: r:3:6: warning: a match goes on past the first end to the last one: write from 'A' to 'B', or `[^x]*x` for `.*x`\n"
unfolding digits
end_passed file r rules at = rw rules (rw at refl)

-- ---- the objects

no_rule_object : (file : RuleFile) → warning_text Json (codes "r") there file NoRules ≡ codes "{\"file\":\"r\",\"kind\":\"no-rules\"}\n"
unfolding print_from escape_byte
no_rule_object file = line_as_is _ refl

part_object : (file : RuleFile) (p : PartLine) → file.part_lines.items ≡ p ∷ [] → p.name.now ≡ codes "D" → p.place ≡ place 2 1
    → warning_text Json (codes "r") there file (PartUnused 0) ≡ codes "{\"file\":\"r\",\"line\":2,\"column\":1,\"kind\":\"part-unused\",\"part\":\"D\"}\n"
unfolding digits print_from escape_byte
part_object file p parts name at = rw parts (rw (name, at) (line_as_is _ refl))

mode_object : (file : RuleFile) (m : Bor (List ℕ)) → file.modes.items ≡ m ∷ [] → m.now ≡ codes "M"
    → warning_text Json (codes "r") there file (ModeNotEntered 0) ≡ codes "{\"file\":\"r\",\"line\":4,\"column\":1,\"kind\":\"mode-not-entered\",\"mode\":\"M\"}\n"
unfolding digits print_from escape_byte
mode_object file m modes name = rw modes (rw name (line_as_is _ refl))

left_object : (file : RuleFile) (m : Bor (List ℕ)) → file.modes.items ≡ m ∷ [] → m.now ≡ codes "M"
    → warning_text Json (codes "r") there file (ModeNotLeft 0) ≡ codes "{\"file\":\"r\",\"line\":4,\"column\":1,\"kind\":\"mode-not-left\",\"mode\":\"M\"}\n"
unfolding digits print_from escape_byte
left_object file m modes name = rw modes (rw name (line_as_is _ refl))

text_object : (file : RuleFile) (r : FileRule) → file.rules.items ≡ r ∷ [] → r.place ≡ place 3 6 → r.rule.name.now ≡ codes "A"
    → warning_text Json (codes "r") there file (TextGoesOn 0) ≡ codes "{\"file\":\"r\",\"line\":3,\"column\":6,\"kind\":\"text-goes-on\",\"rule\":\"A\"}\n"
unfolding digits print_from escape_byte
text_object file r rules at name = rw rules (rw (at, name) (line_as_is _ refl))

class_object : (file : RuleFile) (r : FileRule) → file.rules.items ≡ r ∷ [] → r.place ≡ place 3 6 → r.rule.name.now ≡ codes "A"
    → warning_text Json (codes "r") there file (ClassOutside 0) ≡ codes "{\"file\":\"r\",\"line\":3,\"column\":6,\"kind\":\"class-outside\",\"rule\":\"A\"}\n"
unfolding digits print_from escape_byte
class_object file r rules at name = rw rules (rw (at, name) (line_as_is _ refl))

end_object : (file : RuleFile) (r : FileRule) → file.rules.items ≡ r ∷ [] → r.place ≡ place 3 6 → r.rule.name.now ≡ codes "A"
    → warning_text Json (codes "r") there file (EndPassed 0) ≡ codes "{\"file\":\"r\",\"line\":3,\"column\":6,\"kind\":\"end-passed\",\"rule\":\"A\"}\n"
unfolding digits print_from escape_byte
end_object file r rules at name = rw rules (rw (at, name) (line_as_is _ refl))

-- another line, or none, is another warning
another_line : warned_at (codes "r") (place 1 1) (codes "a") ≢ warned_at (codes "r") (place 2 1) (codes "a")
unfolding digits
another_line e = let k : 49 ≡ 50 = ap (λ (l : List ℕ). get_or l 10 0) e in omega (arith, k)

no_line : warned_at (codes "r") (place 1 1) (codes "a") ≢ warned_of (codes "r") (codes "a")
unfolding digits
no_line e = let k : 49 ≡ 32 = ap (λ (l : List ℕ). get_or l 10 0) e in omega (arith, k)

-- ---- what is said

-- nothing, if nothing is wrong
without_warnings : (form : LineForm) (ls : List (List ℕ)) (section : List ℕ → Position) (file : RuleFile) → TellsSections ls section → AreWarnings file []
    → SaysWarnings form (codes "r") ls file []
without_warnings form ls section file tells are = (section, (tells, ([], (are, refl))))
