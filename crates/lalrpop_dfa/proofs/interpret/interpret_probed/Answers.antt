use Rattle.std.proofs.Common.{[], length, ◌≡◌, ◌<◌, ◌+◌, ◌-◌, take, ap, sym, subst, ◌∙◌, arith}
use Rattle.std.specs.Str.{chars, IsCharBoundary}
use Rattle.std.specs.Str.Iter.{char_indices_rest, char_indices_offset}
use Rattle.std.specs.Option.{option_map}
use Rattle.std.proofs.lemmas.Str.{chars-nil, len_utf8_bounds, length-encode, IsCharBoundary-from_take}
use Rattle.lalrpop_dfa.specs.Dfa.{step}
use Rattle.lalrpop_dfa.specs.declared.Kind.TheVariants.{Accepts, Reject, Neither}
use Rattle.lalrpop_dfa.proofs.LongestLemmas.{after_start, after_more, says_of, reject_at, longest_start, longest_accept, part_accept, longest_pass, longest_end, longest_stop}
use Rattle.lalrpop_hir.proofs.TextWords.{text_word}
use Rattle.lalrpop_dfa.proofs.Trails.{some_read, trail_accept, trail_pass, trail_cost, still_pays}
use Rattle.lalrpop_dfa.proofs.EdgeTargets.{the_some, probed_turn, probed_end}
use Rattle.lalrpop_hir.proofs.Cuts.{cut_start, cut_within, cut_more, count_more, count_within}
use Rattle.lalrpop_dfa.proofs.interpret.interpret_probed.Goals as goal

pub loop-offset-init : goal.loop-offset-init
loop-offset-init c =
    let i = c.into_iter-offset-iterator.ensures.into_iter_gives in
    let at = ap char_indices_offset i ∙ c.char_indices-offset-items.ensures.offset in
    let rest = ap char_indices_rest i ∙ c.char_indices-offset-items.ensures.rest in
    rw (at, rest) record {
      cut = cut_start c.args.input.now c.utf8.input;
      after = after_start c.args.dfa.now c.args.input.now c.states-states.ensures.well_formed.some;
      best = λ ts ps h. longest_start ts ps c.args.input.now;
      prefix = tt;
      cost = let none : length (chars []) ≡ 0 = ap length chars-nil in omega arith;
      never_falls = omega arith;
      probed = λ n d h l. omega arith;
      read = tt;
      trail = tt;
    }

pub range-requires-clause-end_boundary : goal.range-requires-clause-end_boundary
range-requires-clause-end_boundary c =
    let s = c.in-Some.ensures.steps in
    let at2 : char_indices_offset c.next.new.self ≡ c.in-Some.offset + c.len_utf8.result = omega (arith, s.0, s.2, c.len_utf8.ensures.len) in
    let cut = cut_more c.args.input.now (char_indices_rest c.loop-offset.offset-iterator) (char_indices_rest c.next.new.self) (char_indices_offset c.loop-offset.offset-iterator) (char_indices_offset c.next.new.self) c.in-Some.c c.utf8.input c.loop-offset.invariant.cut s.1 s.2 in
    let long = cut_within c.args.input.now (char_indices_rest c.next.new.self) (char_indices_offset c.next.new.self) cut in
    subst (IsCharBoundary c.args.input.now) at2 (IsCharBoundary-from_take c.args.input.now (char_indices_offset c.next.new.self) c.utf8.input (omega arith) cut.seen_utf8)

pub loop-offset-preserved-in-Accepts : goal.loop-offset-preserved-in-Accepts
loop-offset-preserved-in-Accepts c =
    let text = c.args.input.now in
    let at = char_indices_offset c.loop-offset.offset-iterator in
    let at2 = char_indices_offset c.next.new.self in
    let rest = char_indices_rest c.loop-offset.offset-iterator in
    let rest2 = char_indices_rest c.next.new.self in
    let s = c.in-Some.ensures.steps in
    let cut = cut_more text rest rest2 at at2 c.in-Some.c c.utf8.input c.loop-offset.invariant.cut s.1 s.2 in
    let row = the_some _ _ c.state.ensures.at in
    let leads : c.step_probed-state.result ≡ step c.args.dfa.now c.loop-offset.state c.in-Some.c = c.step_probed-state.ensures.leads ∙ ap (step c.args.dfa.now c.loop-offset.state) c.from.ensures in
    let after = after_more c.args.dfa.now text rest rest2 at at2 c.in-Some.c c.loop-offset.state c.step_probed-state.result c.loop-offset.invariant.cut s.1 s.2 c.loop-offset.invariant.after leads c.step_probed-state.ensures.within in
    let some : 0 < at2 = omega (arith, s.2, length-encode c.in-Some.c, len_utf8_bounds c.in-Some.c) in
    let place : c.in-Some.offset + c.len_utf8.result - 0 ≡ at2 = omega (arith, s.0, s.2, c.len_utf8.ensures.len) in
    let is : c.range.result.now ≡ take at2 text = c.range.ensures.value ∙ ap (λ n. take n text) place in
    record {
      cut = cut;
      after = after;
      best = λ ts ps h.
          longest_accept ts ps text rest2 at2 c.in-Accepts.index c.range.result.now cut some is
          (says_of c.args.dfa.now ts ps (chars (take at2 text)) c.step_probed-state.result row.0 c.kind.result.now (Accepts c.in-Accepts.index) (text_word (take at2 text) cut.seen_utf8) h after.reached row.1.0 (c.kind.ensures.kind ∙ row.1.1.kind) c.in-Accepts.is);
      prefix = part_accept text rest2 at2 c.range.result.now cut some is;
      cost = let more = count_more text rest rest2 at at2 c.in-Some.c c.loop-offset.invariant.cut s.1 s.2 in omega arith;
      never_falls = omega (arith, c.loop-offset.invariant.never_falls, c.step_probed-state.ensures.never_falls);
      probed = λ n d h l. probed_turn _ _ _ _ _ d (c.loop-offset.invariant.probed n d h l) (c.step_probed-state.ensures.probed n d h l) (count_more text rest rest2 at at2 c.in-Some.c c.loop-offset.invariant.cut s.1 s.2);
      read = omega (arith, c.loop-offset.invariant.cost, count_more text rest rest2 at at2 c.in-Some.c c.loop-offset.invariant.cut s.1 s.2, ap (λ w. length (chars w)) is);
      trail = trail_accept c.args.dfa.now text at2 c.range.result.now c.step_probed-state.result row.0 c.in-Accepts.index is after.reached row.1.0 (sym (c.kind.ensures.kind ∙ row.1.1.kind) ∙ c.in-Accepts.is)
          (some_read text rest rest2 at at2 c.in-Some.c c.loop-offset.invariant.cut s.1 s.2);
    }

pub loop-offset-preserved : goal.loop-offset-preserved
loop-offset-preserved c =
    let text = c.args.input.now in
    let at = char_indices_offset c.loop-offset.offset-iterator in
    let at2 = char_indices_offset c.next.new.self in
    let rest = char_indices_rest c.loop-offset.offset-iterator in
    let rest2 = char_indices_rest c.next.new.self in
    let s = c.in-Some.ensures.steps in
    let cut = cut_more text rest rest2 at at2 c.in-Some.c c.utf8.input c.loop-offset.invariant.cut s.1 s.2 in
    let row = the_some _ _ c.state.ensures.at in
    let leads : c.step_probed-state.result ≡ step c.args.dfa.now c.loop-offset.state c.in-Some.c = c.step_probed-state.ensures.leads ∙ ap (step c.args.dfa.now c.loop-offset.state) c.from.ensures in
    let after = after_more c.args.dfa.now text rest rest2 at at2 c.in-Some.c c.loop-offset.state c.step_probed-state.result c.loop-offset.invariant.cut s.1 s.2 c.loop-offset.invariant.after leads c.step_probed-state.ensures.within in
    record {
      cut = cut;
      after = after;
      best = λ ts ps h.
          longest_pass ts ps text rest rest2 at at2 c.in-Some.c (option_map (λ m. (m.0, m.1.now)) c.loop-offset.longest) c.loop-offset.invariant.cut s.1 s.2
          (says_of c.args.dfa.now ts ps (chars (take at2 text)) c.step_probed-state.result row.0 c.kind.result.now Neither (text_word (take at2 text) cut.seen_utf8) h after.reached row.1.0 (c.kind.ensures.kind ∙ row.1.1.kind) c.in-Neither.is)
          (c.loop-offset.invariant.best ts ps h);
      prefix = c.loop-offset.invariant.prefix;
      cost = let more = count_more text rest rest2 at at2 c.in-Some.c c.loop-offset.invariant.cut s.1 s.2 in omega arith;
      never_falls = omega (arith, c.loop-offset.invariant.never_falls, c.step_probed-state.ensures.never_falls);
      probed = λ n d h l. probed_turn _ _ _ _ _ d (c.loop-offset.invariant.probed n d h l) (c.step_probed-state.ensures.probed n d h l) (count_more text rest rest2 at at2 c.in-Some.c c.loop-offset.invariant.cut s.1 s.2);
      read = still_pays (λ m. m.1.now) c.args.steps.now c.loop-offset.steps c.tick.new.self c.loop-offset.longest (omega arith) c.loop-offset.invariant.read;
      trail = trail_pass (λ m. m.1.now) c.args.dfa.now text rest rest2 at at2 c.in-Some.c c.step_probed-state.result row.0 c.loop-offset.longest c.loop-offset.invariant.cut s.1 s.2 after.reached row.1.0 (sym (c.kind.ensures.kind ∙ row.1.1.kind) ∙ c.in-Neither.is) c.loop-offset.invariant.trail;
    }

pub returns-in-Reject-clause-answer : goal.returns-in-Reject-clause-answer
returns-in-Reject-clause-answer c = λ ts ps h.
    let text = c.args.input.now in
    let at = char_indices_offset c.loop-offset.offset-iterator in
    let at2 = char_indices_offset c.next.new.self in
    let rest = char_indices_rest c.loop-offset.offset-iterator in
    let rest2 = char_indices_rest c.next.new.self in
    let s = c.in-Some.ensures.steps in
    let cut = cut_more text rest rest2 at at2 c.in-Some.c c.utf8.input c.loop-offset.invariant.cut s.1 s.2 in
    let row = the_some _ _ c.state.ensures.at in
    let leads : c.step_probed-state.result ≡ step c.args.dfa.now c.loop-offset.state c.in-Some.c = c.step_probed-state.ensures.leads ∙ ap (step c.args.dfa.now c.loop-offset.state) c.from.ensures in
    let after = after_more c.args.dfa.now text rest rest2 at at2 c.in-Some.c c.loop-offset.state c.step_probed-state.result c.loop-offset.invariant.cut s.1 s.2 c.loop-offset.invariant.after leads c.step_probed-state.ensures.within in
    let best = option_map (λ m. (m.0, m.1.now)) c.loop-offset.longest in
    longest_stop c.args.dfa.now ts ps text rest2 at2 c.step_probed-state.result best h cut after
    (reject_at c.args.dfa.now c.step_probed-state.result row.0 c.kind.result.now row.1.0 (c.kind.ensures.kind ∙ row.1.1.kind) c.in-Reject.is)
    (longest_pass ts ps text rest rest2 at at2 c.in-Some.c best c.loop-offset.invariant.cut s.1 s.2
    (says_of c.args.dfa.now ts ps (chars (take at2 text)) c.step_probed-state.result row.0 c.kind.result.now Reject (text_word (take at2 text) cut.seen_utf8) h after.reached row.1.0 (c.kind.ensures.kind ∙ row.1.1.kind) c.in-Reject.is)
    (c.loop-offset.invariant.best ts ps h))

pub returns-in-None-clause-answer : goal.returns-in-None-clause-answer
returns-in-None-clause-answer c = λ ts ps h.
    longest_end ts ps c.args.input.now (char_indices_rest c.loop-offset.offset-iterator) (char_indices_offset c.loop-offset.offset-iterator)
    (option_map (λ m. (m.0, m.1.now)) c.loop-offset.longest) c.loop-offset.invariant.cut c.in-None.ensures.steps.0 (c.loop-offset.invariant.best ts ps h)

pub returns-in-Reject-clause-cost : goal.returns-in-Reject-clause-cost
returns-in-Reject-clause-cost c =
    let at = char_indices_offset c.loop-offset.offset-iterator in
    let at2 = char_indices_offset c.next.new.self in
    let rest = char_indices_rest c.loop-offset.offset-iterator in
    let rest2 = char_indices_rest c.next.new.self in
    let s = c.in-Some.ensures.steps in
    let cut = cut_more c.args.input.now rest rest2 at at2 c.in-Some.c c.utf8.input c.loop-offset.invariant.cut s.1 s.2 in
    let more = count_more c.args.input.now rest rest2 at at2 c.in-Some.c c.loop-offset.invariant.cut s.1 s.2 in
    let within = count_within c.args.input.now rest2 at2 cut in
    omega arith

pub returns-in-None-clause-cost : goal.returns-in-None-clause-cost
returns-in-None-clause-cost c =
    let within = count_within c.args.input.now (char_indices_rest c.loop-offset.offset-iterator) (char_indices_offset c.loop-offset.offset-iterator) c.loop-offset.invariant.cut in
    omega arith

pub returns-in-Reject-clause-never_falls : goal.returns-in-Reject-clause-never_falls
returns-in-Reject-clause-never_falls c = (omega (arith, c.loop-offset.invariant.cost), omega (arith, c.loop-offset.invariant.never_falls, c.step_probed-state.ensures.never_falls))

pub returns-in-Reject-clause-probed : goal.returns-in-Reject-clause-probed
returns-in-Reject-clause-probed c = λ n d h l.
    let at = char_indices_offset c.loop-offset.offset-iterator in
    let at2 = char_indices_offset c.next.new.self in
    let rest = char_indices_rest c.loop-offset.offset-iterator in
    let rest2 = char_indices_rest c.next.new.self in
    let s = c.in-Some.ensures.steps in
    let cut = cut_more c.args.input.now rest rest2 at at2 c.in-Some.c c.utf8.input c.loop-offset.invariant.cut s.1 s.2 in
    let more = count_more c.args.input.now rest rest2 at at2 c.in-Some.c c.loop-offset.invariant.cut s.1 s.2 in
    probed_end _ _ _ _ d (probed_turn _ _ _ _ _ d (c.loop-offset.invariant.probed n d h l) (c.step_probed-state.ensures.probed n d h l) more) (count_within c.args.input.now rest2 at2 cut)

pub returns-in-None-clause-never_falls : goal.returns-in-None-clause-never_falls
returns-in-None-clause-never_falls c = (omega (arith, c.loop-offset.invariant.cost), c.loop-offset.invariant.never_falls)

pub returns-in-None-clause-probed : goal.returns-in-None-clause-probed
returns-in-None-clause-probed c = λ n d h l.
    probed_end _ _ _ _ d (c.loop-offset.invariant.probed n d h l) (count_within c.args.input.now (char_indices_rest c.loop-offset.offset-iterator) (char_indices_offset c.loop-offset.offset-iterator) c.loop-offset.invariant.cut)

pub returns-in-Reject-clause-looked : goal.returns-in-Reject-clause-looked
returns-in-Reject-clause-looked c = λ n most.
    trail_cost (λ m. m.1.now) c.args.dfa.now c.args.input.now (char_indices_offset c.loop-offset.offset-iterator) n c.args.steps.now c.tick.new.self c.loop-offset.longest most (omega (arith, c.loop-offset.invariant.cost)) c.loop-offset.invariant.trail

pub returns-in-None-clause-looked : goal.returns-in-None-clause-looked
returns-in-None-clause-looked c = λ n most.
    trail_cost (λ m. m.1.now) c.args.dfa.now c.args.input.now (char_indices_offset c.loop-offset.offset-iterator) n c.args.steps.now c.loop-offset.steps c.loop-offset.longest most (omega (arith, c.loop-offset.invariant.cost)) c.loop-offset.invariant.trail

pub returns-in-Reject-clause-read : goal.returns-in-Reject-clause-read
returns-in-Reject-clause-read c = still_pays (λ m. m.1.now) c.args.steps.now c.loop-offset.steps c.tick.new.self c.loop-offset.longest (omega arith) c.loop-offset.invariant.read
