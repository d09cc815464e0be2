use Rattle.std.proofs.Common.{ℕ, List, take, sym, ap, subst, ◌∙◌, arith}
use Rattle.std.specs.Str.{chars}
use Rattle.bajofeki.specs.Internal.Held.{IsUnmatched}
use Rattle.bajofeki.specs.Internal.Walking.{behind, says}
use Rattle.bajofeki.proofs.Held.{cut_boundary, cut_met, held_cut, unmatched_more}
use Rattle.bajofeki.proofs.Steps.{step}
use Rattle.bajofeki.proofs.held_run.HeldRun.read_on.Goals as goal

pub reading-init : goal.reading-init
reading-init c =
    let held = c.requires.held in record {
      cut = held_cut held.0 held.1.0 c.args.text.now c.args.self.now c.utf8.text held.1.1;
      reached = held.1.1.reached;
      nothing = held.1.1.nothing;
    }

pub kind-requires-clause-met : goal.kind-requires-clause-met
kind-requires-clause-met c = cut_met c.args.self.now.walker c.args.text.now c.reading.read c.reading.place c.reading.invariant.cut c.reading.invariant.reached

pub read-place-requires-clause-met : goal.read-place-requires-clause-met
read-place-requires-clause-met c = cut_met c.args.self.now.walker c.args.text.now c.reading.read c.reading.place c.reading.invariant.cut c.reading.invariant.reached

pub read-place-requires-clause-boundary : goal.read-place-requires-clause-boundary
read-place-requires-clause-boundary c = cut_boundary c.args.text.now c.reading.read c.utf8.text c.reading.invariant.cut

pub reading-smaller : goal.reading-smaller
reading-smaller c =
    let t = step c.args.self.now.walker c.args.text.now c.reading.place c.reading.read c.read-place.result c.read-place.new.at c.utf8.text c.reading.invariant.cut c.read-place.ensures.read in
    omega (arith, t.forward, t.whole)

pub has_matched-has_match-requires-clause-met : goal.has_matched-has_match-requires-clause-met
has_matched-has_match-requires-clause-met c =
    let t = step c.args.self.now.walker c.args.text.now c.reading.place c.reading.read c.read-place.result c.read-place.new.at c.utf8.text c.reading.invariant.cut c.read-place.ensures.read in
    cut_met c.args.self.now.walker c.args.text.now c.read-place.new.at c.read-place.result t.cut (t.reached c.reading.invariant.reached)

pub reading-preserved : goal.reading-preserved
reading-preserved c =
    let w = c.args.self.now.walker in
    let text = c.args.text.now in
    let s = c.read-place.ensures.read in
    let t = step w text c.reading.place c.reading.read c.read-place.result c.read-place.new.at c.utf8.text c.reading.invariant.cut s in
    let reached = t.reached c.reading.invariant.reached in record {
      cut = t.cut;
      reached = reached;
      nothing = λ none.
          let past = c.has_matched-has_match.ensures.none none in
          subst (IsUnmatched w) (sym t.word)
          (unmatched_more w (chars (take c.reading.read text)) s.character (c.reading.invariant.nothing past.0)
          (λ i accepts. past.1 i (ap (says w) reached ∙ ap (λ (u : List ℕ). says w (behind w u)) t.word ∙ accepts)));
    }
