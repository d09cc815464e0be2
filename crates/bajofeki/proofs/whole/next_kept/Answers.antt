use Rattle.std.proofs.Common.{◌≡◌, ◌≤◌, ◌+◌, ℕ, List, drop, length, nat_eq, arith, length-drop, sym, ap, subst, ◌∙◌}
use Rattle.std.proofs.lemmas.Bool.{eqb-true}
use Rattle.std.proofs.lemmas.List.{drop-drop}
use Rattle.bajofeki.specs.Internal.Ahead.{LeadOnAfter}
use Rattle.bajofeki.specs.Internal.Noted.{IsCutter}
use Rattle.bajofeki.proofs.AheadLaws.{lead_behind}
use Rattle.bajofeki.proofs.Chunking.{cutter_behind}
use Rattle.bajofeki.proofs.whole.next_kept.Goals as goal

pub returns-in-Some-clause-cutter : goal.returns-in-Some-clause-cutter
returns-in-Some-clause-cutter c =
    let r = c.args.lexer.now in
    let cutter = c.args.cutter.now in
    let at = c.args.place.now.at in
    let text = c.args.text.now in
    let size = c.in-Some.piece.size in
    let within : size ≤ length (drop at text) = omega (arith, c.in-Some.ensures.boundary.0, ap length c.range_from.ensures.value) in
    let there : c.pass.new.place.at ≡ at + size = c.in_ok-pass.ensures.at (omega (arith, within, length-drop at text, c.requires.within)) in
    subst (λ (n : ℕ). IsCutter r cutter n (drop n text)) (sym there)
    (subst (IsCutter r cutter (at + size)) (drop-drop size at text) (cutter_behind r cutter at size (drop at text) within c.requires.cutter))

pub returns-in-Some-clause-ahead : goal.returns-in-Some-clause-ahead
returns-in-Some-clause-ahead c =
    let r = c.args.lexer.now in
    let at = c.args.place.now.at in
    let text = c.args.text.now in
    let size = c.in-Some.piece.size in
    let within : size ≤ length (drop at text) = omega (arith, c.in-Some.ensures.boundary.0, ap length c.range_from.ensures.value) in
    let there : c.pass.new.place.at ≡ at + size = c.in_ok-pass.ensures.at (omega (arith, within, length-drop at text, c.requires.within)) in
    let left : drop size c.range_from.result.now ≡ drop c.pass.new.place.at text =
    ap (drop size) c.range_from.ensures.value ∙ drop-drop size at text ∙ ap (λ (n : ℕ). drop n text) (sym there) in
    subst (λ (t : List ℕ). LeadOnAfter r c.pass.new.place.stack.mode t 0 c.pass-in-Some.new.self) left
    (lead_behind r c.top-mode.result c.pass.new.place.stack.mode size c.found_kept.new.ahead c.pass-in-Some.new.self (nat_eq c.top.result c.top-mode.result)
    (λ is. (sym c.top.ensures.mode ∙ eqb-true c.top.result c.top-mode.result is, c.pass-in-Some.ensures.kept is)) c.pass-in-Some.ensures.none
    c.range_from.result.now c.in-Some.ensures.ahead)
