use Rattle.std.proofs.Common.{◌≡◌, ◌<◌, ◌≤◌, ◌∙◌, ◌↔◌, true, length, ap, refl, sym, arith}
use Rattle.std.specs.Prelude.{Some, slice_get}
use Rattle.std.proofs.lemmas.Option.{slice_get_read}
use Rattle.lalrpop_rule_file.specs.Warnings.{IsEnteredMode}
use Rattle.lalrpop_rule_file.specs.declared.warning.Warning.TheVariants.{ModeNotEntered}
use Rattle.lalrpop_rule_file.proofs.FoundWarnings.{found_aside, found_kind, found_more, modes_end, some_false}
use Rattle.lalrpop_rule_file.proofs.file.RuleFile.add_modes_not_entered.Goals as goal
use Rattle.lalrpop_rule_file.proofs.file.RuleFile.add_modes_not_entered.Goals.{then-not-index+in_ok-push, else-not-index}

pub loop-mode-preserved : goal.loop-mode-preserved
loop-mode-preserved c =
    let file = c.args.self.now in
    let m = c.loop-mode.mode in
    let entered = c.in_ok-entered.entered.items in
    let inside : m < length entered = omega (arith, c.loop-mode-test.true, c.len-mode-end.ensures, c.in_ok-entered.entered.ok.0) in
    let within : m < length file.modes.items = omega (arith, inside, c.in_ok-entered.ensures.same_length) in
    let at : slice_get entered m ≡ Some c.index.result.now = slice_get_read entered (length entered) m c.index.result.now refl inside c.index.ensures in
    let here : (slice_get entered m ≡ Some true) ↔ IsEnteredMode file m = c.in_ok-entered.ensures.each m within in
    λ h. elim c.if-not-index.branch [
      | then-not-index+in_ok-push w ↦
          rw w.found-is (found_more file 2 m c.loop-mode.found.items (c.loop-mode.invariant h) w.push.new.self.items (ModeNotEntered m) refl refl
          (within, λ is. some_false c.index.result.now w.if-not-index.true (sym at ∙ here.1 is)) w.in_ok-push.ensures.items)
      | else-not-index w ↦
          rw w.found-is (found_aside file 2 m c.loop-mode.found.items (c.loop-mode.invariant h) (ModeNotEntered m) refl refl
          (λ is. is.1 (here.0 (at ∙ ap Some w.if-not-index.false))))
    ]

pub returns : goal.returns
returns c =
    let file = c.args.self.now in
    let all : length file.modes.items ≤ c.loop-mode.mode =
    omega (arith, c.loop-mode-test.false, c.len-mode-end.ensures, c.in_ok-entered.entered.ok.0, c.in_ok-entered.ensures.same_length) in
    λ h. found_kind file 2 c.loop-mode.mode c.loop-mode.found.items (c.loop-mode.invariant h) (modes_end file c.loop-mode.mode all)
