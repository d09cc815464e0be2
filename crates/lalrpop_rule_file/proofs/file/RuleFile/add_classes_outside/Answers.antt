use Rattle.std.proofs.Common.{◌≡◌, ◌<◌, ◌≤◌, ◌∙◌, length, refl, sym, arith}
use Rattle.std.specs.Prelude.{Some, slice_get}
use Rattle.std.proofs.lemmas.Bool.{false≢true}
use Rattle.std.proofs.lemmas.Option.{slice_get_read}
use Rattle.lalrpop_rule_file.specs.declared.warning.Warning.TheVariants.{ClassOutside}
use Rattle.lalrpop_rule_file.specs.OutsideClass.{HasOutsideClass}
use Rattle.lalrpop_rule_file.proofs.FoundWarnings.{found_aside, found_kind, found_more, lacks_text, classes_end}
use Rattle.lalrpop_rule_file.proofs.file.RuleFile.add_classes_outside.Goals as goal
use Rattle.lalrpop_rule_file.proofs.file.RuleFile.add_classes_outside.Goals.{then-has_outside_class+in_ok-push, else-has_outside_class}

pub loop-rule-preserved : goal.loop-rule-preserved
loop-rule-preserved c =
    let file = c.args.self.now in
    let k = c.loop-rule.rule in
    let within : k < length file.rules.items = omega (arith, c.loop-rule-test.true, c.len-rule-end.ensures, file.rules.ok.0) in
    let at : slice_get file.rules.items k ≡ Some c.index.result.now = slice_get_read file.rules.items (length file.rules.items) k c.index.result.now refl within c.index.ensures in
    λ h. elim c.if-has_outside_class.branch [
      | then-has_outside_class+in_ok-push w ↦
          rw w.found-is (found_more file 5 k c.loop-rule.found.items (c.loop-rule.invariant h) w.push.new.self.items (ClassOutside k) refl refl (c.index.result.now, (at, c.has_outside_class.ensures.0 w.if-has_outside_class.true)) w.in_ok-push.ensures.items)
      | else-has_outside_class w ↦
          rw w.found-is (found_aside file 5 k c.loop-rule.found.items (c.loop-rule.invariant h) (ClassOutside k) refl refl
          (lacks_text HasOutsideClass file k c.index.result.now at (λ is. false≢true (sym w.if-has_outside_class.false ∙ c.has_outside_class.ensures.1 is))))
    ]

pub returns : goal.returns
returns c =
    let file = c.args.self.now in
    let all : length file.rules.items ≤ c.loop-rule.rule = omega (arith, c.loop-rule-test.false, c.len-rule-end.ensures, file.rules.ok.0) in
    λ h. found_kind file 5 c.loop-rule.rule c.loop-rule.found.items (c.loop-rule.invariant h) (classes_end file c.loop-rule.rule all)
