use Rattle.std.proofs.Common.{◌≡◌, ℕ, ◌≢◌, ◌+◌, ◌-◌, ◌/◌, ◌<◌, ◌++◌, ◌∷◌, inl, inr, [], length, take, drop, refl, sym, ap, subst, ◌∙◌, arith}
use Rattle.std.specs.Prelude.{Some, None}
use Rattle.std.specs.Char.{encode_utf8}
use Rattle.std.specs.Str.{chars}
use Rattle.std.proofs.lemmas.Str.{chars-nil, IsCharBoundary-from_take}
use Rattle.lalrpop_hir.proofs.Cuts.{cut_start, cut_within}
use Rattle.lalrpop_dfa.specs.declared.Kind.TheVariants.{Accepts, Reject, Neither}
use Rattle.bajofeki.specs.Internal.Walking.{IsMet, behind, next_of, says}
use Rattle.bajofeki.specs.Internal.Noted.{IsKnown, IsOver}
use Rattle.bajofeki.proofs.Walking.{met_behind, met_next, text_scalars}
use Rattle.bajofeki.proofs.Noting.{first_below, over_within, stand_there}
use Rattle.bajofeki.proofs.Steps.{at_end, step}
use Rattle.bajofeki.proofs.Vain.{if_none, vain_none, vain_more, vain_stop}
use Rattle.bajofeki.proofs.run.run_along.Goals as goal

pub walk-init : goal.walk-init
walk-init c =
    let w = c.args.walker.now in
    let text = c.args.text.now in
    let reached : c.start-there.result ≡ behind w (chars []) = c.start-there.ensures ∙ ap (behind w) (sym chars-nil) in
    record {
      cut = cut_start text c.utf8.text;
      reached = reached;
      stand = (None, stand_there w text text 0 c.start-there.result None (cut_start text c.utf8.text) reached refl);
      order = omega arith;
      back = λ n m e o. subst (IsOver w c.start-there.result (chars text)) (omega (arith, e)) o;
      vain = ([], vain_none w c.args.memo.now c.args.mode c.args.at text 0 c.start-there.result text refl);
      read = omega (arith, ap length chars-nil);
      cost = omega arith;
    }

pub read-place-requires-clause-met : goal.read-place-requires-clause-met
read-place-requires-clause-met c =
    let inv = c.walk.invariant in
    subst (IsMet c.args.walker.now) (sym inv.reached) (met_behind c.args.walker.now (chars (take c.walk.end c.args.text.now)) (text_scalars _ inv.cut.seen_utf8))

pub read-place-requires-clause-boundary : goal.read-place-requires-clause-boundary
read-place-requires-clause-boundary c =
    let inv = c.walk.invariant in
    IsCharBoundary-from_take c.args.text.now c.walk.end c.utf8.text (omega (arith, cut_within c.args.text.now (drop c.walk.end c.args.text.now) c.walk.end inv.cut)) inv.cut.seen_utf8

pub walk-smaller-in-Accepts : goal.walk-smaller-in-Accepts
walk-smaller-in-Accepts c =
    let t = step c.args.walker.now c.args.text.now c.walk.place c.walk.end c.read-place.result c.read-place.new.at c.utf8.text c.walk.invariant.cut c.read-place.ensures.read in
    omega (arith, t.forward, t.whole)

pub walk-smaller : goal.walk-smaller
walk-smaller c =
    let t = step c.args.walker.now c.args.text.now c.walk.place c.walk.end c.read-place.result c.read-place.new.at c.utf8.text c.walk.invariant.cut c.read-place.ensures.read in
    omega (arith, t.forward, t.whole)

pub kind-requires-clause-met : goal.kind-requires-clause-met
kind-requires-clause-met c =
    let s = c.read-place.ensures.read in
    let inv = c.walk.invariant in
    let w = c.args.walker.now in
    let text = c.args.text.now in
    let at = c.walk.end in
    let t = step w text c.walk.place at c.read-place.result c.read-place.new.at c.utf8.text inv.cut s in
    let below = first_below (drop at text) s.character (chars (drop c.read-place.new.at text)) inv.cut.rest_utf8 t.first in
    let met : IsMet w c.walk.place = subst (IsMet w) (sym inv.reached) (met_behind w (chars (take at text)) (text_scalars (take at text) inv.cut.seen_utf8)) in
    subst (IsMet w) (sym s.leads) (met_next w c.walk.place s.character met below)

pub walk-preserved-in-Accepts : goal.walk-preserved-in-Accepts
walk-preserved-in-Accepts c =
    let inv = c.walk.invariant in
    let w = c.args.walker.now in
    let text = c.args.text.now in
    let place = c.read-place.result in
    let end = c.read-place.new.at in
    let t = step w text c.walk.place c.walk.end place end c.utf8.text inv.cut c.read-place.ensures.read in
    let reached = t.reached inv.reached in
    let some : 0 < length (take end text) = omega (arith, t.cut.place, t.forward) in
    let accepts : says w place ≡ Accepts c.in-Accepts.field-0 = sym c.kind.ensures ∙ c.in-Accepts.is in
    record {
      cut = t.cut;
      reached = reached;
      stand = (
        Some (c.in-Accepts.field-0, take end text),
        stand_there w text (drop end text) end place (Some (c.in-Accepts.field-0, take end text)) t.cut reached (some, refl, accepts),
      );
      order = omega arith;
      back = λ n m e o. subst (IsOver w place (chars (drop end text))) (omega (arith, e)) o;
      vain = ([], vain_none w c.args.memo.now c.args.mode c.args.at text end place (drop end text) refl);
      read = omega (arith, inv.read, c.tick.ensures.counted, t.count);
      cost = omega (arith, inv.cost, c.tick.ensures.counted, t.forward);
    }

pub returns-in-Reject-clause-found : goal.returns-in-Reject-clause-found
returns-in-Reject-clause-found c =
    let s = c.read-place.ensures.read in
    let inv = c.walk.invariant in
    let w = c.args.walker.now in
    let text = c.args.text.now in
    let at = c.walk.end in
    let end = c.read-place.new.at in
    let t = step w text c.walk.place at c.read-place.result end c.utf8.text inv.cut s in
    let reject : says w (next_of w c.walk.place s.character) ≡ Reject = ap (says w) (sym s.leads) ∙ sym c.kind.ensures ∙ c.in-Reject.is in
    let over : IsOver w c.walk.place (chars (drop at text)) (length (encode_utf8 s.character)) = rw t.first (inr (inl (refl, reject))) in
    let n : ℕ = end - c.walk.matched in
    let sum : end ≡ c.walk.matched + n = omega (arith, inv.order, t.forward) in (
      (n, (sum, inv.back (length (encode_utf8 s.character)) n (omega (arith, sum, s.size)) over)),
      (
        inv.vain.0,
        vain_stop w c.args.memo.now c.args.mode c.args.at text c.walk.matched c.walk.there at c.walk.place end (drop at text) inv.vain.0 inv.vain.1
            (omega (arith, t.forward)) t.near (omega (arith, t.whole)),
      ),
      omega (arith, inv.cost, c.tick.ensures.counted, t.forward),
      omega (arith, inv.read, c.tick.ensures.counted, t.count),
    )

pub overflow_add-result : goal.overflow_add-result
overflow_add-result c =
    let text = c.args.text.now in
    let end = c.read-place.new.at in
    let there = c.requires.sound c.read-place.result end c.in-Some.size c.in-Some.ensures.known in
    let t = step c.args.walker.now text c.walk.place c.walk.end c.read-place.result end c.utf8.text c.walk.invariant.cut c.read-place.ensures.read in
    let most = over_within c.args.walker.now c.read-place.result c.in-Some.size (drop end text) (chars (drop end text)) t.cut.rest_utf8 refl there.1 in
    omega (arith, most, t.whole)

pub returns-in-Some-clause-found : goal.returns-in-Some-clause-found
returns-in-Some-clause-found c =
    let s = c.read-place.ensures.read in
    let inv = c.walk.invariant in
    let w = c.args.walker.now in
    let text = c.args.text.now in
    let at = c.walk.end in
    let end = c.read-place.new.at in
    let t = step w text c.walk.place at c.read-place.result end c.utf8.text inv.cut s in
    let there = c.requires.sound c.read-place.result end c.in-Some.size c.in-Some.ensures.known in
    let later : IsOver w (next_of w c.walk.place s.character) (chars (drop end text)) c.in-Some.size =
    subst (λ (p : ℕ). IsOver w p (chars (drop end text)) c.in-Some.size) s.leads there.1 in
    let neither : says w (next_of w c.walk.place s.character) ≡ Neither = ap (says w) (sym s.leads) ∙ sym c.kind.ensures ∙ c.in-Neither.is in
    let over : IsOver w c.walk.place (chars (drop at text)) (length (encode_utf8 s.character) + c.in-Some.size) = rw t.first (inr (inr (neither, (c.in-Some.size, (refl, later))))) in
    let n : ℕ = end + c.in-Some.size - c.walk.matched in
    let sum : end + c.in-Some.size ≡ c.walk.matched + n = omega (arith, inv.order, t.forward) in (
      (n, (sum, inv.back (length (encode_utf8 s.character) + c.in-Some.size) n (omega (arith, sum, s.size)) over)),
      (
        inv.vain.0,
        vain_stop w c.args.memo.now c.args.mode c.args.at text c.walk.matched c.walk.there at c.walk.place end (drop at text) inv.vain.0 inv.vain.1
            (omega (arith, t.forward)) t.near (omega (arith, t.whole)),
      ),
      omega (arith, inv.cost, c.tick.ensures.counted, t.forward),
      omega (arith, inv.read, c.tick.ensures.counted, t.count),
    )

pub walk-preserved : goal.walk-preserved
walk-preserved c =
    let s = c.read-place.ensures.read in
    let inv = c.walk.invariant in
    let w = c.args.walker.now in
    let text = c.args.text.now in
    let at = c.walk.end in
    let place = c.read-place.result in
    let end = c.read-place.new.at in
    let t = step w text c.walk.place at place end c.utf8.text inv.cut s in
    let neither : says w (next_of w c.walk.place s.character) ≡ Neither = ap (says w) (sym s.leads) ∙ sym c.kind.ensures ∙ c.in-Neither.is in
    let new : (c.args.at + at) / 64 ≢ (c.args.at + end) / 64 → ¬ IsKnown c.args.memo.now c.args.mode place (c.args.at + end) =
    if_none c.known.result _ c.known.ensures.unknown c.in_default.not-Some in
    record {
      cut = t.cut;
      reached = t.reached inv.reached;
      stand = inv.stand;
      order = omega (arith, inv.order, t.forward);
      back = λ n m e o.
          let later : IsOver w (next_of w c.walk.place s.character) (chars (drop end text)) n = subst (λ (p : ℕ). IsOver w p (chars (drop end text)) n) s.leads o in
          let over : IsOver w c.walk.place (chars (drop at text)) (length (encode_utf8 s.character) + n) = rw t.first (inr (inr (neither, (n, (refl, later))))) in
          inv.back (length (encode_utf8 s.character) + n) m (omega (arith, e, s.size)) over;
      vain = (
        inv.vain.0 ++ s.character ∷ [],
        vain_more w c.args.memo.now c.args.mode c.args.at text c.walk.matched c.walk.there at end c.walk.place place s.character (drop at text) (drop end text) inv.vain.0 inv.vain.1
            t.first s.size s.leads (sym c.kind.ensures ∙ c.in-Neither.is) new,
      );
      read = omega (arith, inv.read, c.tick.ensures.counted, t.count);
      cost = omega (arith, inv.cost, c.tick.ensures.counted, t.forward);
    }

pub left_open-requires-clause-met : goal.left_open-requires-clause-met
left_open-requires-clause-met c =
    let inv = c.walk.invariant in
    subst (IsMet c.args.walker.now) (sym inv.reached) (met_behind c.args.walker.now (chars (take c.walk.end c.args.text.now)) (text_scalars _ inv.cut.seen_utf8))

pub returns-clause-found : goal.returns-clause-found
returns-clause-found c =
    let inv = c.walk.invariant in
    let text = c.args.text.now in
    let rest = drop c.walk.end text in
    let end = at_end text c.walk.end inv.cut c.walk-test.false in
    let over : IsOver c.args.walker.now c.walk.place (chars rest) c.left_open.result = rw end.1 c.left_open.ensures.over in
    let n : ℕ = c.walk.end + c.left_open.result - c.walk.matched in
    let sum : c.walk.end + c.left_open.result ≡ c.walk.matched + n = omega (arith, inv.order) in (
      (n, (sum, inv.back c.left_open.result n sum over)),
      (
        inv.vain.0,
        vain_stop c.args.walker.now c.args.memo.now c.args.mode c.args.at text c.walk.matched c.walk.there c.walk.end c.walk.place c.walk.end rest inv.vain.0 inv.vain.1
            (omega arith) (omega arith) (omega (arith, end.0)),
      ),
      inv.cost,
      inv.read,
    )
