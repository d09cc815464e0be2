use Rattle.std.proofs.Common.{◌≤◌, ◌∙◌, length, refl, sym, arith}
use Rattle.std.proofs.lemmas.Bool.{false≢true}
use Rattle.lalrpop_rule_file.specs.declared.warning.Warning.TheVariants.{PartUnused}
use Rattle.lalrpop_rule_file.proofs.FoundWarnings.{found_aside, found_kind, found_more, parts_end}
use Rattle.lalrpop_rule_file.proofs.file.RuleFile.add_unused_parts.Goals as goal
use Rattle.lalrpop_rule_file.proofs.file.RuleFile.add_unused_parts.Goals.{then-unused+in_ok-push, else-unused}

pub loop-part-preserved : goal.loop-part-preserved
loop-part-preserved c =
    let file = c.args.self.now in
    let k = c.loop-part.part in
    λ h. elim c.if-unused.branch [
      | then-unused+in_ok-push w ↦
          rw w.found-is (found_more file 1 k c.loop-part.found.items (c.loop-part.invariant h) w.push.new.self.items (PartUnused k) refl refl (c.in_ok-unused.ensures.0 w.if-unused.true) w.in_ok-push.ensures.items)
      | else-unused w ↦
          rw w.found-is (found_aside file 1 k c.loop-part.found.items (c.loop-part.invariant h) (PartUnused k) refl refl (λ is. false≢true (sym w.if-unused.false ∙ c.in_ok-unused.ensures.1 is)))
    ]

pub returns : goal.returns
returns c =
    let file = c.args.self.now in
    let all : length file.part_lines.items ≤ c.loop-part.part = omega (arith, c.loop-part-test.false, c.len-part-end.ensures, file.part_lines.ok.0) in
    λ h. found_kind file 1 c.loop-part.part c.loop-part.found.items (c.loop-part.invariant h) (parts_end file c.loop-part.part all)
