use Rattle.std.proofs.Common.{◌≡◌, ◌<◌, ◌≤◌, ◌∙◌, ◌↔◌, true, length, ap, refl, sym, arith}
use Rattle.std.specs.Prelude.{Some, slice_get}
use Rattle.std.proofs.lemmas.Bool.{false≢true}
use Rattle.std.proofs.lemmas.Option.{slice_get_read}
use Rattle.lalrpop_rule_file.specs.Warnings.{IsEnteredMode, IsNeverLeft}
use Rattle.lalrpop_rule_file.specs.declared.warning.Warning.TheVariants.{ModeNotLeft}
use Rattle.lalrpop_rule_file.proofs.FoundWarnings.{found_aside, found_kind, found_more, left_modes_end, never_left}
use Rattle.lalrpop_rule_file.proofs.file.RuleFile.add_modes_not_left.Goals as goal
use Rattle.lalrpop_rule_file.proofs.file.RuleFile.add_modes_not_left.Goals.{then-is_never_left+in_ok-push, else-is_never_left}

pub loop-mode-preserved : goal.loop-mode-preserved
loop-mode-preserved c =
    let file = c.args.self.now in
    let m = c.loop-mode.mode in
    let entered = c.in_ok-entered.entered.items in
    let inside : m < length entered = omega (arith, c.loop-mode-test.true, c.len-mode-end.ensures, c.in_ok-entered.entered.ok.0) in
    let within : m < length file.modes.items = omega (arith, inside, c.in_ok-entered.ensures.same_length) in
    let at : slice_get entered m ≡ Some c.index.result.now = slice_get_read entered (length entered) m c.index.result.now refl inside c.index.ensures in
    let here : (slice_get entered m ≡ Some true) ↔ IsEnteredMode file m = c.in_ok-entered.ensures.each m within in
    let is = never_left file m c.index.result.now entered c.is_never_left.result within at here c.is_never_left.ensures in
    λ h. elim c.if-is_never_left.branch [
      | then-is_never_left+in_ok-push w ↦
          rw w.found-is (found_more file 3 m c.loop-mode.found.items (c.loop-mode.invariant h) w.push.new.self.items (ModeNotLeft m) refl refl
          (is.0 w.if-is_never_left.true) w.in_ok-push.ensures.items)
      | else-is_never_left w ↦
          rw w.found-is (found_aside file 3 m c.loop-mode.found.items (c.loop-mode.invariant h) (ModeNotLeft m) refl refl
          (λ so. false≢true (sym w.if-is_never_left.false ∙ is.1 so)))
    ]

pub returns : goal.returns
returns c =
    let file = c.args.self.now in
    let all : length file.modes.items ≤ c.loop-mode.mode =
    omega (arith, c.loop-mode-test.false, c.len-mode-end.ensures, c.in_ok-entered.entered.ok.0, c.in_ok-entered.ensures.same_length) in
    λ h. found_kind file 3 c.loop-mode.mode c.loop-mode.found.items (c.loop-mode.invariant h) (left_modes_end file c.loop-mode.mode all)
