-- Cases of specs/Report.antt.
use Rattle.std.proofs.Common.{◌≡◌, ◌≢◌, ℕ, [], ◌∷◌, refl, ap, arith}
use Rattle.std.specs.Prelude.{Ok, Err}
use Rattle.lalrpop_emit.specs.declared.error.EmitError.TheVariants as emit
use Rattle.bajofeki_rules.specs.declared.position.Position.{Position}
use Rattle.lalrpop_rules.specs.declared.error.RulesError.TheVariants as modes
use Rattle.lalrpop_rule_file.specs.declared.error.LineFault.TheVariants.{NoEquals}
use Rattle.lalrpop_rule_file.specs.declared.error.RuleFileError.TheVariants as file
use Rattle.bajofeki_c.specs.Report.{no_place, place_at, report, report_of_numbers, report_of_rules, told_places}
use Rattle.bajofeki_c.specs.declared.held.BuildError.TheVariants.{File, Freed}
use Rattle.bajofeki_c.specs.declared.held.BuiltLexer.{BuiltLexer}
use Rattle.bajofeki_c.specs.declared.held.NamedRule.{NamedRule}
use Rattle.bajofeki_c.specs.declared.report.Report.{Report}

there_is_a_lexer : (l : BuiltLexer) → (report (record { made = Ok l })).code ≡ 0
there_is_a_lexer l = refl

abbrev bad_line : Report
bad_line = record { code = 1; line = 3; column = 5; rule = 0; other = 0; other_line = 0; other_column = 0; position = 0 }

a_line_is_wrong : report (record { made = Err (File (file.BadLine 3 5 NoEquals)) }) ≡ bad_line
a_line_is_wrong = refl

module _ (a b : NamedRule) where
  place_of_a_rule : place_at (a ∷ b ∷ []) 1 ≡ b.place
  place_of_a_rule = refl

  no_place_without_a_rule : place_at (a ∷ b ∷ []) 2 ≡ no_place
  no_place_without_a_rule = refl

  -- the later rule comes first
  rules_clash : (w : _) → report_of_rules (modes.Clash 0 1 0 w) (a ∷ b ∷ []) ≡ told_places b.place 1 a.place 0
  rules_clash w = refl

  the_other_place_is_of_the_other_rule : (w : _) → (report_of_rules (modes.Clash 0 1 0 w) (a ∷ b ∷ [])).other_line ≡ a.place.line
  the_other_place_is_of_the_other_rule w = refl

  the_rules_of_a_clash_stay_apart : (w : _) → report_of_rules (modes.Clash 0 1 0 w) (a ∷ b ∷ []) ≢ told_places b.place 0 a.place 1
  the_rules_of_a_clash_stay_apart w e = let n : 1 ≡ 0 = ap (λ (r : Report). r.rule) e in omega (arith, n)

  one_rule_has_no_other : (k : _) → (report_of_rules (modes.NotParsed 1 7 k) (a ∷ b ∷ [])).other_line ≡ 0
  one_rule_has_no_other k = refl

abbrev place : ℕ → ℕ → Position
place line column = record { line = line; column = column }

two_places : told_places (place 2 4) 1 (place 1 9) 0
    ≡ record { code = 5; line = 2; column = 4; rule = 1; other = 0; other_line = 1; other_column = 9; position = 0 }
two_places = refl

too_many_rules : (report_of_numbers emit.TooManyRules).code ≡ 6
too_many_rules = refl

memory_is_told_apart : (report_of_numbers emit.OutOfMemory).code ≢ 6
memory_is_told_apart e = let n : 7 ≡ 6 = e in omega (arith, n)

given_back : (report (record { made = Err Freed })).code ≡ 8
given_back = refl
