use Rattle.std.proofs.Common.{rules, ◌≡◌, ℕ, ◌+◌, ◌^◌, ◌<◌, ◌≤◌, List, length, get_or, drop, sym, ap, subst, ◌∙◌, arith, length-drop}
use Rattle.std.specs.Prelude.{slice_get, Some}
use Rattle.std.proofs.lemmas.Option.{slice_get-get_or}
use Rattle.lalrpop_rules.specs.Modes.{trees_in}
use Rattle.bajofeki.specs.declared.cutter.Cutter.{Cutter}
use Rattle.bajofeki.specs.declared.walker.Walker.{Walker}
use Rattle.bajofeki.proofs.Fronts.{IsFrontBy}
use Rattle.bajofeki.proofs.Places.{fault_stack, front_kept, piece_paid, too_large}
use Rattle.bajofeki.specs.Internal.Kept.{IsKept, IsReadFor}
use Rattle.bajofeki.specs.Internal.Noted.{IsSound, IsCutter}
use Rattle.bajofeki.specs.Internal.Paying.{IsFrontPaid}
use Rattle.bajofeki.proofs.Noting.{cutter_next}
use Rattle.bajofeki.proofs.place.cut_piece.Goals as goal

pub returns-in-None-clause-error : goal.returns-in-None-clause-error
returns-in-None-clause-error c =
    let r = c.args.lexer.now in
    let cut = c.front_piece-front in
    let front : IsFrontBy (trees_in r c.top-mode.result) r.precedences c.range_from.result.now cut.result.rule cut.result.size cut.result.reach =
    rw (← c.lexer.ensures.trees, ← c.lexer.ensures.precedences) cut.ensures.front in
    too_large r c.top-mode.result c.args.place.now.at c.args.text.now c.range_from.result.now cut.result.rule cut.result.size cut.result.reach c.range_from.ensures.value front cut.ensures.within c.in-None.ensures.none

pub front_piece-front-requires-clause-sound : goal.front_piece-front-requires-clause-sound
front_piece-front-requires-clause-sound c =
    let less : c.top-mode.result < length c.args.cutter.now.walkers.items = search rules in
    let same : get_or c.args.cutter.now.walkers.items c.top-mode.result c.index.result.now ≡ c.index.result.now = first_of (cc, search rules) in
    let here : slice_get c.args.cutter.now.walkers.items c.top-mode.result ≡ Some c.index.result.now =
    slice_get-get_or c.args.cutter.now.walkers.items c.top-mode.result c.index.result.now less ∙ ap (λ (w : Walker). Some w) same in
    subst (IsSound c.index.result.now c.args.cutter.now.memo c.top-mode.result c.args.place.now.at) (sym c.range_from.ensures.value)
    (c.requires.cutter.sound c.top-mode.result c.index.result.now here)

pub returns-in_ok-pass-in-Some-clause-cutter : goal.returns-in_ok-pass-in-Some-clause-cutter
returns-in_ok-pass-in-Some-clause-cutter c =
    let less : c.top-mode.result < length c.args.cutter.now.walkers.items = search rules in
    let same : get_or c.args.cutter.now.walkers.items c.top-mode.result c.index.result.now ≡ c.index.result.now = first_of (cc, search rules) in
    let here : slice_get c.args.cutter.now.walkers.items c.top-mode.result ≡ Some c.index.result.now =
    slice_get-get_or c.args.cutter.now.walkers.items c.top-mode.result c.index.result.now less ∙ ap (λ (w : Walker). Some w) same in
    let text = c.args.text.now in
    let at = c.args.place.now.at in
    let front = c.front_piece-front in
    let kept = c.in-Some.ensures.some in
    let within : front.result.size ≤ length (drop at text) = omega (arith, front.ensures.boundary.0, ap length c.range_from.ensures.value) in
    let fits : at + c.in-Some.piece.size < 2 ^ 64 = omega (arith, kept.1, within, length-drop at text, c.requires.within) in
    let there : c.pass.new.place.at ≡ at + front.result.size = omega (arith, c.in_ok-pass-in-Some.ensures.at fits, kept.1) in
    let sound : IsSound c.index.result.now front.new.memo c.top-mode.result at (drop at text) =
    subst (IsSound c.index.result.now front.new.memo c.top-mode.result at) c.range_from.ensures.value front.ensures.sound in
    subst (λ (n : ℕ). IsCutter c.args.lexer.now (record c.args.cutter.now { memo = front.new.memo }) n (drop n text)) (sym there)
    (cutter_next c.args.lexer.now c.args.cutter.now front.new.memo c.top-mode.result at front.result.size c.index.result.now text c.requires.cutter here sound front.ensures.others within)

-- the walk of the mode on top
walk_there : (cutter : Cutter) (mode : ℕ) (w : Walker) → mode < length cutter.walkers.items → get_or cutter.walkers.items mode w ≡ w → slice_get cutter.walkers.items mode ≡ Some w
walk_there cutter mode w less same = slice_get-get_or cutter.walkers.items mode w less ∙ ap (λ (v : Walker). Some v) same

pub returns-in_ok-pass-in-Some-clause-kept : goal.returns-in_ok-pass-in-Some-clause-kept
returns-in_ok-pass-in-Some-clause-kept c =
    let r = c.args.lexer.now in
    let rest = c.range_from.result.now in
    let mode = c.top-mode.result in
    let cut = c.front_piece-front in
    let front : IsFrontBy (trees_in r mode) r.precedences rest cut.result.rule cut.result.size cut.result.reach = rw (← c.lexer.ensures.trees, ← c.lexer.ensures.precedences) cut.ensures.front in
    let read : IsReadFor (trees_in r mode) rest cut.result.rule cut.result.size cut.result.reach = rw (← c.lexer.ensures.trees) cut.ensures.reads in
    let kept = front_kept r mode rest c.in-Some.piece cut.result.rule cut.result.size cut.result.reach front read c.in-Some.ensures.some in
    subst (λ (m : ℕ). IsKept r m (drop c.args.place.now.at c.args.text.now) c.in-Some.piece) c.top-mode.ensures.mode
    (subst (λ (t : List ℕ). IsKept r mode t c.in-Some.piece) c.range_from.ensures.value kept)

pub returns-in_ok-pass-in-Some-clause-paid : goal.returns-in_ok-pass-in-Some-clause-paid
returns-in_ok-pass-in-Some-clause-paid c = λ whole.
    let r = c.args.lexer.now in
    let cutter = c.args.cutter.now in
    let place = c.args.place.now in
    let text = c.args.text.now in
    let mode = c.top-mode.result in
    let w = c.index.result.now in
    let less : mode < length cutter.walkers.items = search rules in
    let same : get_or cutter.walkers.items mode w ≡ w = first_of (cc, search rules) in
    let there : slice_get cutter.walkers.items place.stack.mode ≡ Some w = subst (λ (m : ℕ). slice_get cutter.walkers.items m ≡ Some w) c.top-mode.ensures.mode (walk_there cutter mode w less same) in
    let cut = c.front_piece-front in
    let kept = c.in-Some.ensures.some in
    let within : cut.result.size ≤ length (drop place.at text) = omega (arith, cut.ensures.boundary.0, ap length c.range_from.ensures.value) in
    let fits : place.at + c.in-Some.piece.size < 2 ^ 64 = omega (arith, kept.1, within, length-drop place.at text, c.requires.within) in
    let ends : c.pass.new.place.at ≡ place.at + cut.result.size = omega (arith, c.in_ok-pass-in-Some.ensures.at fits, kept.1) in
    let (news, (far, paid)) = cut.ensures.paid whole in
    let here : IsFrontPaid w (trees_in r mode) r.precedences cutter.memo cut.new.memo mode place.at c.range_from.result.now cut.result c.args.steps.now cut.new.steps news far =
    rw (← c.lexer.ensures.trees, ← c.lexer.ensures.precedences) paid in
    let left = subst (λ (t : List ℕ). IsFrontPaid w (trees_in r mode) r.precedences cutter.memo cut.new.memo mode place.at t cut.result c.args.steps.now cut.new.steps news far) c.range_from.ensures.value here in
    let top = subst (λ (m : ℕ). IsFrontPaid w (trees_in r m) r.precedences cutter.memo cut.new.memo m place.at (drop place.at text) cut.result c.args.steps.now cut.new.steps news far) c.top-mode.ensures.mode left in (
      news,
      (
        place.at + far,
        piece_paid r cutter (record cutter { memo = cut.new.memo }) text place c.pass.new.place w cut.result c.args.steps.now cut.new.steps far news (omega (arith, c.requires.within)) there ends
            (fault_stack r c.in-Some.piece place.stack c.pass.new.place.stack cut.result.rule kept.0 c.in_ok-pass-in-Some.ensures.stack) top,
      ),
    )
