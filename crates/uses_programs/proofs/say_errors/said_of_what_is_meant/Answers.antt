use Rattle.std.proofs.Common.{◌≡◌, ℕ, List, [], ◌∷◌, codes, string_bytes, refl, arith}
use Rattle.std.proofs.lemmas.Result.{IfOk-weaker}
use Rattle.bajofeki_rules.specs.Lines.{lines}
use Rattle.lalrpop_rule_file.specs.RuleFile.{without_mark}
use Rattle.lalrpop_rule_file.specs.declared.file.RuleFile.{RuleFile}
use Rattle.tokens_lib.specs.Warned.{AreWarnings, SaysWarnings}
use Rattle.lexdfa_lib.specs.declared.layout.LineForm.TheVariants.{Plain}
use Rattle.uses_programs.proofs.say_errors.said_of_what_is_meant.Goals as goal

-- where there is no warning, nothing is said
nothing_said : (name : List ℕ) (ls : List (List ℕ)) (file : RuleFile) (said : List ℕ) → AreWarnings file [] → SaysWarnings Plain name ls file said → said ≡ []
nothing_said name ls file said none (section, (tells, ([], (are, e)))) = e
nothing_said name ls file said none (section, (tells, (w ∷ ws, (are, e)))) = let found = (none.all w).1 ((are.all w).0 (0, omega arith, refl)) in absurd (omega (arith, found.1))

pub returns : goal.returns
returns c = record {
  said = IfOk-weaker c.warnings_message.result _ _
      (λ message says. nothing_said (codes "f") (lines (without_mark c.args.bytes.now)) c.args.file.now (string_bytes message) c.requires.no_warning says) c.warnings_message.ensures.message;
}
