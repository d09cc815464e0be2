use Rattle.std.proofs.Common.{ℕ, List, [], length, ◌≡◌, ◌<◌, ◌+◌, ◌-◌, take, ap, sym, subst, ◌∙◌, inl, inr, arith, refl}
use Rattle.std.specs.Str.{chars, IsCharBoundary}
use Rattle.std.specs.Str.Iter.{char_indices_rest, char_indices_offset}
use Rattle.std.specs.Option.{option_map}
use Rattle.std.proofs.lemmas.Str.{chars-nil, len_utf8_bounds, length-encode, IsCharBoundary-from_take}
use Rattle.lalrpop_hir.proofs.TextWords.{chars-none}
use Rattle.lalrpop_hir.proofs.Cuts.{cut_start, cut_within, cut_more, count_more, count_within}
use Rattle.lalrpop_hir.specs.Tree.{Tree}
use Rattle.lalrpop_dfa.specs.Dfa.{step, IsReject, Recognizes}
use Rattle.lalrpop_dfa.specs.Lookahead.{IsOpen}
use Rattle.lalrpop_dfa.specs.declared.Kind.TheVariants.{Accepts, Neither}
use Rattle.lalrpop_dfa.proofs.EdgeTargets.{the_some}
use Rattle.lalrpop_dfa.proofs.LongestLemmas.{after_start, after_more, says_of, reject_at, longest_start, longest_accept, part_accept, longest_pass}
use Rattle.lalrpop_hir.proofs.TextWords.{text_word}
use Rattle.lalrpop_dense.specs.Matching.{characters_of}
use Rattle.lalrpop_dense.specs.Internal.Memory.{room}
use Rattle.lalrpop_dense.specs.Internal.Hopeless.{IsHopeless}
use Rattle.lalrpop_dense.proofs.Hopes.{longest_hopeless}
use Rattle.lalrpop_dense.proofs.Kept.{kept_start, kept_accept, kept_open, settled, known_hopeless}
use Rattle.lalrpop_dense.proofs.Marks.{same_twice, has_mark}
use Rattle.lalrpop_dense.proofs.TextWalks.{open_at, count_at, left_at, next_at, paid_next}
use Rattle.lalrpop_dense.proofs.remembering.longest_remembering.Goals as goal
use Rattle.lalrpop_dense.proofs.remembering.longest_remembering.Goals.{in-None, in-Some+in-Reject, in-Some+in-Neither+then-is_known}

pub loop-offset-init : goal.loop-offset-init
loop-offset-init c =
    let i = c.into_iter-offset-iterator.ensures.into_iter_gives in
    let at = ap char_indices_offset i ∙ c.char_indices-offset-items.ensures.offset in
    let rest = ap char_indices_rest i ∙ c.char_indices-offset-items.ensures.rest in
    rw (at, rest) record {
      cut = cut_start c.args.text.now c.utf8.text;
      after = after_start c.args.dfa.now c.args.text.now c.states-states.ensures.well_formed.some;
      best = λ ts ps h. longest_start ts ps c.args.text.now;
      prefix = tt;
      end = omega arith;
      index = let none : length (chars []) ≡ 0 = ap length chars-nil in omega arith;
      steps = omega arith;
      fewer = omega arith;
      ends = omega arith;
      same = refl;
      kept = kept_start c.args.dfa.now c.args.memo.now c.args.start 0 (chars c.args.text.now) (chars c.args.text.now) 0 c.requires.sound;
      paid = omega arith;
    }

pub overflow_add-index : goal.overflow_add-index
overflow_add-index c =
    let text = c.args.text.now in
    let at = char_indices_offset c.loop-offset.offset-iterator in
    let at2 = char_indices_offset c.next.new.self in
    let rest = char_indices_rest c.loop-offset.offset-iterator in
    let rest2 = char_indices_rest c.next.new.self in
    let s = c.in-Some.ensures.steps in
    let cut = cut_more text rest rest2 at at2 c.in-Some.c c.utf8.text c.loop-offset.invariant.cut s.1 s.2 in
    let more = count_more text rest rest2 at at2 c.in-Some.c c.loop-offset.invariant.cut s.1 s.2 in
    let within = count_within text rest2 at2 cut in
    omega (arith, c.loop-offset.invariant.index, c.requires.index)

pub range-requires-clause-end_boundary : goal.range-requires-clause-end_boundary
range-requires-clause-end_boundary c =
    let s = c.in-Some.ensures.steps in
    let at2 : char_indices_offset c.next.new.self ≡ c.in-Some.offset + c.len_utf8.result = omega (arith, s.0, s.2, c.len_utf8.ensures.len) in
    let cut = cut_more c.args.text.now (char_indices_rest c.loop-offset.offset-iterator) (char_indices_rest c.next.new.self) (char_indices_offset c.loop-offset.offset-iterator) (char_indices_offset c.next.new.self) c.in-Some.c c.utf8.text c.loop-offset.invariant.cut s.1 s.2 in
    let long = cut_within c.args.text.now (char_indices_rest c.next.new.self) (char_indices_offset c.next.new.self) cut in
    subst (IsCharBoundary c.args.text.now) at2 (IsCharBoundary-from_take c.args.text.now (char_indices_offset c.next.new.self) c.utf8.text (omega arith) cut.seen_utf8)

pub loop-offset-preserved-in-Accepts : goal.loop-offset-preserved-in-Accepts
loop-offset-preserved-in-Accepts c =
    let text = c.args.text.now in
    let at = char_indices_offset c.loop-offset.offset-iterator in
    let at2 = char_indices_offset c.next.new.self in
    let rest = char_indices_rest c.loop-offset.offset-iterator in
    let rest2 = char_indices_rest c.next.new.self in
    let s = c.in-Some.ensures.steps in
    let inv = c.loop-offset.invariant in
    let cut = cut_more text rest rest2 at at2 c.in-Some.c c.utf8.text inv.cut s.1 s.2 in
    let row = the_some _ _ c.state.ensures.at in
    let leads : c.step-state.result ≡ step c.args.dfa.now c.loop-offset.state c.in-Some.c = c.step-state.ensures.leads ∙ ap (step c.args.dfa.now c.loop-offset.state) c.from.ensures in
    let after = after_more c.args.dfa.now text rest rest2 at at2 c.in-Some.c c.loop-offset.state c.step-state.result inv.cut s.1 s.2 inv.after leads c.step-state.ensures.within in
    let some : 0 < at2 = omega (arith, s.2, length-encode c.in-Some.c, len_utf8_bounds c.in-Some.c) in
    let place : c.in-Some.offset + c.len_utf8.result - 0 ≡ at2 = omega (arith, s.0, s.2, c.len_utf8.ensures.len) in
    let is : c.range.result.now ≡ take at2 text = c.range.ensures.value ∙ ap (λ n. take n text) place in
    let more = count_more text rest rest2 at at2 c.in-Some.c inv.cut s.1 s.2 in
    let all = count_at text rest2 at2 cut in
    let read : length (chars c.range.result.now) ≡ length (chars (take at2 text)) = ap (λ w. length (chars w)) is in
    record {
      cut = cut;
      after = after;
      best = λ ts ps h.
          longest_accept ts ps text rest2 at2 c.in-Accepts.number c.range.result.now cut some is
          (says_of c.args.dfa.now ts ps (chars (take at2 text)) c.step-state.result row.0 c.kind.result.now (Accepts c.in-Accepts.number) (text_word (take at2 text) cut.seen_utf8) h after.reached row.1.0 (c.kind.ensures.kind ∙ row.1.1.kind) c.in-Accepts.is);
      prefix = part_accept text rest2 at2 c.range.result.now cut some is;
      end = omega (arith, inv.index, read);
      index = omega (arith, inv.index);
      steps = omega (arith, inv.steps);
      fewer = inv.fewer;
      ends = omega arith;
      same = inv.same;
      kept =
          kept_accept c.args.dfa.now c.loop-offset.memo c.args.start (characters_of (option_map (λ m. m.1.now) c.loop-offset.longest)) (length (chars c.range.result.now)) c.in-Some.c c.loop-offset.state
          c.step-state.result (chars text) (chars rest2) (omega (arith, read, all)) (omega (arith, read, more, inv.index, inv.end, inv.ends)) (rw (next_at text rest rest2 at c.in-Some.c inv.cut s.1) at inv.kept);
      paid = omega (arith, inv.steps, inv.fewer);
    }

pub loop-offset-preserved : goal.loop-offset-preserved
loop-offset-preserved c =
    let text = c.args.text.now in
    let at = char_indices_offset c.loop-offset.offset-iterator in
    let at2 = char_indices_offset c.next.new.self in
    let rest = char_indices_rest c.loop-offset.offset-iterator in
    let rest2 = char_indices_rest c.next.new.self in
    let s = c.in-Some.ensures.steps in
    let inv = c.loop-offset.invariant in
    let cut = cut_more text rest rest2 at at2 c.in-Some.c c.utf8.text inv.cut s.1 s.2 in
    let row = the_some _ _ c.state.ensures.at in
    let leads : c.step-state.result ≡ step c.args.dfa.now c.loop-offset.state c.in-Some.c = c.step-state.ensures.leads ∙ ap (step c.args.dfa.now c.loop-offset.state) c.from.ensures in
    let after = after_more c.args.dfa.now text rest rest2 at at2 c.in-Some.c c.loop-offset.state c.step-state.result inv.cut s.1 s.2 inv.after leads c.step-state.ensures.within in
    let more = count_more text rest rest2 at at2 c.in-Some.c inv.cut s.1 s.2 in
    let within = count_within text rest2 at2 cut in
    let stays = open_at c.args.dfa.now c.step-state.result row.0 row.1.0 (sym (c.kind.ensures.kind ∙ row.1.1.kind) ∙ c.in-Neither.is) in
    record {
      cut = cut;
      after = after;
      best = λ ts ps h.
          longest_pass ts ps text rest rest2 at at2 c.in-Some.c (option_map (λ m. (m.0, m.1.now)) c.loop-offset.longest) inv.cut s.1 s.2
          (says_of c.args.dfa.now ts ps (chars (take at2 text)) c.step-state.result row.0 c.kind.result.now Neither (text_word (take at2 text) cut.seen_utf8) h after.reached row.1.0 (c.kind.ensures.kind ∙ row.1.1.kind) c.in-Neither.is)
          (inv.best ts ps h);
      prefix = inv.prefix;
      end = inv.end;
      index = omega (arith, inv.index);
      steps = omega (arith, inv.steps);
      fewer = omega (arith, inv.fewer, c.is_known.ensures.fewer);
      ends = omega (arith, inv.ends);
      same = same_twice c.args.memo.now c.loop-offset.memo c.is_known.new.self inv.same c.is_known.ensures.same;
      kept =
          kept_open c.args.dfa.now c.loop-offset.memo c.is_known.new.self c.args.start (characters_of (option_map (λ m. m.1.now) c.loop-offset.longest)) (length (chars (take at2 text))) (c.loop-offset.index + 1) c.in-Some.c c.loop-offset.state c.step-state.result (chars text) (chars rest2)
          (left_at text rest2 at2 cut) (omega (arith, inv.index)) leads stays c.is_known.ensures.only
          (rw (next_at text rest rest2 at c.in-Some.c inv.cut s.1) at inv.kept);
      paid =
          let pay = paid_next c.loop-offset.index (room c.is_known.new.self) (room c.loop-offset.memo) c.is_known.ensures.fewer
          (λ k e. c.is_known.ensures.noted k e (has_mark c.args.dfa.now c.args.memo.now c.loop-offset.memo c.step-state.result k inv.same c.requires.fits stays (omega (arith, e, inv.index, c.requires.places))) c.if-is_known.false) in
          omega (arith, pay, inv.paid);
    }

pub returns-clause-found : goal.returns-clause-found
returns-clause-found c =
    let d = c.args.dfa.now in
    let text = c.args.text.now in
    let state = c.loop-offset.state in
    let at = char_indices_offset c.loop-offset.offset-iterator in
    let at2 = char_indices_offset c.next.new.self in
    let rest = char_indices_rest c.loop-offset.offset-iterator in
    let rest2 = char_indices_rest c.next.new.self in
    let inv = c.loop-offset.invariant in
    let bound = characters_of (option_map (λ m. m.1.now) c.loop-offset.longest) in
    -- no match comes from the state before the last character
    let answer = λ (none : IsHopeless d state (chars rest)) (ts : List Tree) (ps : List ℕ) (h : Recognizes d ts ps).
    longest_hopeless d ts ps text rest at state (option_map (λ m. (m.0, m.1.now)) c.loop-offset.longest) h inv.cut inv.after none (inv.best ts ps h) in
    let sound = λ (none : IsHopeless d state (chars rest)) (k : ℕ) (e : c.loop-offset.end ≡ c.args.start + k).
    settled d c.loop-offset.memo c.args.start bound state (chars text) (chars rest) none inv.kept c.loop-offset.end k e (omega (arith, inv.end, e)) in
    elim c.match-next.branch [
      | in-None w ↦
          let none : IsHopeless d state (chars rest) = subst (IsHopeless d state) (sym (chars-none rest w.in-None.ensures.steps.0)) tt in
          (answer none, rw w.memo-is (sound none))
      | in-Some+in-Reject w ↦
          let leads : w.step-state.result ≡ step d state w.in-Some.c = w.step-state.ensures.leads ∙ ap (step d state) w.from.ensures in
          let row = the_some _ _ w.state.ensures.at in
          let rejects : IsReject d w.step-state.result = reject_at d w.step-state.result row.0 w.kind.result.now row.1.0 (w.kind.ensures.kind ∙ row.1.1.kind) w.in-Reject.is in
          let none : IsHopeless d state (chars rest) = subst (IsHopeless d state) (sym (next_at text rest rest2 at w.in-Some.c inv.cut w.in-Some.ensures.steps.1)) (inl (subst (IsReject d) leads rejects)) in
          (answer none, rw w.memo-is (sound none))
      | in-Some+in-Neither+then-is_known w ↦
          let s = w.in-Some.ensures.steps in
          let cut = cut_more text rest rest2 at at2 w.in-Some.c c.utf8.text inv.cut s.1 s.2 in
          let leads : w.step-state.result ≡ step d state w.in-Some.c = w.step-state.ensures.leads ∙ ap (step d state) w.from.ensures in
          let row = the_some _ _ w.state.ensures.at in
          let stays = open_at d w.step-state.result row.0 row.1.0 (sym (w.kind.ensures.kind ∙ row.1.1.kind) ∙ w.in-Neither.is) in
          let more = count_more text rest rest2 at at2 w.in-Some.c inv.cut s.1 s.2 in
          let known = w.is_known.ensures.known w.if-is_known.true in
          let word = next_at text rest rest2 at w.in-Some.c inv.cut s.1 in
          let further : IsHopeless d w.step-state.result (chars rest2) =
          known_hopeless d c.loop-offset.memo c.args.start bound (length (chars (take at2 text))) (c.loop-offset.index + 1) w.in-Some.c known.0.0 state w.step-state.result (chars text) (chars rest2)
          (count_at text rest2 at2 cut) (left_at text rest2 at2 cut) (omega (arith, inv.end, inv.ends, inv.index, more)) (omega (arith, inv.index, more)) known.0.1.1 known.0.1.0 (rw word at inv.kept) in
          let none : IsHopeless d state (chars rest) = subst (IsHopeless d state) (sym word) (inr (subst (λ q. IsOpen d q × IsHopeless d q (chars rest2)) leads (stays, further))) in
          (answer none, rw (w.memo-is, known.1) (sound none))
    ]
