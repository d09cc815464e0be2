use Rattle.std.proofs.Common.{◌≡◌, ◌<◌, ◌≤◌, ◌∙◌, length, refl, sym, arith}
use Rattle.std.specs.Prelude.{Some, slice_get}
use Rattle.std.proofs.lemmas.Bool.{false≢true}
use Rattle.std.proofs.lemmas.Option.{slice_get_read}
use Rattle.lalrpop_rule_file.specs.declared.warning.Warning.TheVariants.{EndPassed}
use Rattle.lalrpop_rule_file.specs.PassedEnd.{HasPassedEnd}
use Rattle.lalrpop_rule_file.proofs.FoundWarnings.{found_aside, found_kind, found_more, lacks_text, ends_end}
use Rattle.lalrpop_rule_file.proofs.file.RuleFile.add_ends_passed.Goals as goal
use Rattle.lalrpop_rule_file.proofs.file.RuleFile.add_ends_passed.Goals.{then-has_passed_end+in_ok-push, else-has_passed_end}

pub loop-rule-preserved : goal.loop-rule-preserved
loop-rule-preserved c =
    let file = c.args.self.now in
    let k = c.loop-rule.rule in
    let within : k < length file.rules.items = omega (arith, c.loop-rule-test.true, c.len-rule-end.ensures, file.rules.ok.0) in
    let at : slice_get file.rules.items k ≡ Some c.index.result.now = slice_get_read file.rules.items (length file.rules.items) k c.index.result.now refl within c.index.ensures in
    λ h. elim c.if-has_passed_end.branch [
      | then-has_passed_end+in_ok-push w ↦
          rw w.found-is (found_more file 6 k c.loop-rule.found.items (c.loop-rule.invariant h) w.push.new.self.items (EndPassed k) refl refl (c.index.result.now, (at, c.has_passed_end.ensures.0 w.if-has_passed_end.true)) w.in_ok-push.ensures.items)
      | else-has_passed_end w ↦
          rw w.found-is (found_aside file 6 k c.loop-rule.found.items (c.loop-rule.invariant h) (EndPassed k) refl refl
          (lacks_text HasPassedEnd file k c.index.result.now at (λ is. false≢true (sym w.if-has_passed_end.false ∙ c.has_passed_end.ensures.1 is))))
    ]

pub returns : goal.returns
returns c =
    let file = c.args.self.now in
    let all : length file.rules.items ≤ c.loop-rule.rule = omega (arith, c.loop-rule-test.false, c.len-rule-end.ensures, file.rules.ok.0) in
    λ h. found_kind file 6 c.loop-rule.rule c.loop-rule.found.items (c.loop-rule.invariant h) (ends_end file c.loop-rule.rule all)
