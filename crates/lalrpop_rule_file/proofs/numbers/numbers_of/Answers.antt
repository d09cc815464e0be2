use Rattle.lalrpop_rule_file.specs.Internal.Lines.{names_in}
use Rattle.std.proofs.Common.{take}
use Rattle.lalrpop_rule_file.proofs.ModeNumbers.{more_numbers, names_more, no_number_for}
use Rattle.lalrpop_rule_file.proofs.numbers.numbers_of.Goals.{in-Some+in_ok-push, in_default}
use Rattle.lalrpop_rule_file.proofs.numbers.numbers_of.Goals as goal

pub loop-name-preserved : goal.loop-name-preserved
loop-name-preserved c =
    let modes = names_in c.args.modes.now in
    let i = c.loop-name.name-index in
    let names = names_in (take i c.args.names.now) in
    elim c.match-number_of.branch [
      | in-Some+in_ok-push w ↦ rw w.all-is
          (more_numbers modes names c.loop-name.all.items w.push.new.self.items _ w.in-Some.number _ c.loop-name.invariant w.in-Some.ensures.some w.in_ok-push.ensures.items (names_more c.args.names.now i _ c.loop-name-test.true))
      | in_default w ↦ rw w.all-is (no_number_for modes names _ _ c.loop-name.all.items w.in_default.ensures.none (names_more c.args.names.now i _ c.loop-name-test.true))
    ]
