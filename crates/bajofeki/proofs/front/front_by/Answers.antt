use Rattle.std.proofs.Common.{◌≡◌, ◌≢◌, ℕ, ◌+◌, ◌<◌, ◌≤◌, List, [], ◌++◌, length, drop, refl, sym, ap, subst, ◌∙◌, inl, inr, arith, length-drop, length-append}
use Rattle.std.specs.Prelude.{Some, None}
use Rattle.std.specs.Option.{option_map, IfSome}
use Rattle.std.specs.Str.{IsUtf8, IsCharBoundary}
use Rattle.std.specs.Str.Iter.{char_indices_rest, char_indices_offset}
use Rattle.std.proofs.lemmas.Str.{IsCharBoundary-from_take, IsCharBoundary-start}
use Rattle.lalrpop_hir.specs.Prefix.{IsPrefix}
use Rattle.lalrpop_hir.specs.Longest.{IsLongest}
use Rattle.lalrpop_hir.proofs.Cuts.{IsCut, cut_start, cut_more, cut_within}
use Rattle.lalrpop_lexer.proofs.Cuttings.{cut_behind}
use Rattle.lalrpop_rules.proofs.FirstMatches.{before_next, before_start, left_at, some_length}
use Rattle.bajofeki.specs.declared.memo.Memo.{Memo}
use Rattle.bajofeki.specs.declared.walker.Walker.{Walker}
use Rattle.bajofeki.specs.Internal.Reach.{IsSettledBy}
use Rattle.bajofeki.specs.Internal.Noted.{IsSound}
use Rattle.bajofeki.specs.Internal.Paying.{IsRunPaid, size_of}
use Rattle.bajofeki.proofs.Noting.{left_sound}
use Rattle.bajofeki.specs.Internal.Parts.{IsVoidTo}
use Rattle.bajofeki.proofs.Fronts.{read_start, read_more, fault_before, fault_to_end, none_up_to, token_front, waits_more}
use Rattle.bajofeki.proofs.Voids.{void_none, void_there}
use Rattle.bajofeki.proofs.NewNotes.{char_size}
use Rattle.bajofeki.proofs.Reading.{AreOpen, none_read, read_past, fault_read, token_read}
use Rattle.bajofeki.proofs.FrontCosts.{walked_start, walked_more, run_there, token_paid, fault_paid, end_paid}
use Rattle.bajofeki.proofs.front.front_by.Goals as goal

pub returns-then-offset-gt0-clause-front : goal.returns-then-offset-gt0-clause-front
returns-then-offset-gt0-clause-front c = λ d ts ps walks h.
    let text = c.args.rest.now in
    let at = char_indices_offset c.loop-offset.offset-iterator in
    let inv = c.loop-offset.invariant in
    let answer = subst (λ o. IsLongest ts ps c.range_from.result.now (option_map (λ m. (m.0, m.1.now)) o)) c.in-Some-longest.is (c.longest_settled-found.ensures.answer d ts ps walks h) in
    let longest = subst (λ (t : List ℕ). IsLongest ts ps t (Some (c.in-Some-longest.index, c.in-Some-longest.slice.now))) c.range_from.ensures.value answer in
    fault_before ts ps text (char_indices_rest c.loop-offset.offset-iterator) c.in-Some-longest.slice.now at c.in-Some.offset c.in-Some-longest.index c.loop-offset.reach c.max.result
    inv.cut c.in-Some.ensures.steps.0 (omega (arith, c.if-offset-gt0.true)) (inv.before d ts ps walks h) (inv.read d ts ps walks h) (omega (arith, c.max.ensures)) longest (omega (arith, c.max.ensures))

pub returns-in-Some-longest-clause-front : goal.returns-in-Some-longest-clause-front
returns-in-Some-longest-clause-front c = λ d ts ps walks h.
    let text = c.args.rest.now in
    let zero : c.in-Some.offset ≡ 0 = omega (arith, c.if-offset-gt0.false) in
    let same : c.range_from.result.now ≡ text = c.range_from.ensures.value ∙ ap (λ (n : ℕ). drop n text) zero in
    let answer = subst (λ o. IsLongest ts ps c.range_from.result.now (option_map (λ m. (m.0, m.1.now)) o)) c.in-Some-longest.is (c.longest_settled-found.ensures.answer d ts ps walks h) in
    let longest = subst (λ (t : List ℕ). IsLongest ts ps t (Some (c.in-Some-longest.index, c.in-Some-longest.slice.now))) same answer in
    let settled = subst (λ (t : List ℕ). IsSettledBy ts t c.longest_settled-found.result.reach) same (c.longest_settled-found.ensures.settled d ts ps walks h) in
    token_front d ts ps text c.in-Some-longest.slice.now c.in-Some-longest.index c.longest_settled-found.result.reach c.longest_settled-found.result.reach h longest settled
    (omega arith)

pub returns-in-Some-longest-clause-boundary : goal.returns-in-Some-longest-clause-boundary
returns-in-Some-longest-clause-boundary c =
    let text = c.args.rest.now in
    let zero : c.in-Some.offset ≡ 0 = omega (arith, c.if-offset-gt0.false) in
    let same : c.range_from.result.now ≡ text = c.range_from.ensures.value ∙ ap (λ (n : ℕ). drop n text) zero in
    let prefix = subst (λ o. IfSome o (λ m. IsPrefix m.1.now c.range_from.result.now × (m.1.now ≢ []))) c.in-Some-longest.is c.longest_settled-found.ensures.prefix in
    cut_behind c.in-Some-longest.slice.now text c.utf8.rest (subst (λ (t : List ℕ). IsPrefix c.in-Some-longest.slice.now t) same prefix.0)

pub returns-clause-front : goal.returns-clause-front
returns-clause-front c = λ d ts ps walks h.
    let cut = c.loop-offset.invariant.cut in
    fault_to_end ts ps c.args.rest.now (char_indices_offset c.loop-offset.offset-iterator) c.utf8.rest c.requires.some
    (omega (arith, cut_within _ _ _ cut, c.in-None.ensures.steps.0)) (c.loop-offset.invariant.before d ts ps walks h)

pub returns-clause-held : goal.returns-clause-held
returns-clause-held c = λ past d ts ps walks trim h.
    let cut = c.loop-offset.invariant.cut in
    let end : char_indices_offset c.loop-offset.offset-iterator ≡ length c.args.rest.now = omega (arith, cut_within _ _ _ cut, c.in-None.ensures.steps.0) in
    inl (rw (← end) (c.loop-offset.invariant.before d ts ps walks h))

-- where the text was cut a character begins
cut_boundary : (text rest : List ℕ) (at : ℕ) → IsUtf8 text → IsCut text at rest → IsCharBoundary text at
cut_boundary text rest at utf8 cut = IsCharBoundary-from_take text at utf8 (omega (arith, cut_within text rest at cut)) cut.seen_utf8

pub loop-offset-init : goal.loop-offset-init
loop-offset-init c =
    let i = c.into_iter-offset-iterator.ensures.into_iter_gives in
    let at = ap char_indices_offset i ∙ c.char_indices-offset-items.ensures.offset in
    let rest = ap char_indices_rest i ∙ c.char_indices-offset-items.ensures.rest in
    let text = c.args.rest.now in
    rw (at, rest) record {
      cut = cut_start text c.utf8.rest;
      before = λ d ts ps walks h. before_start ts text;
      read = λ d ts ps walks h. read_start ts text;
      within = omega arith;
      held = λ past. absurd (omega (arith, past));
      sound = c.requires.sound;
      others = λ m p e n other noted. noted;
      stays = λ m p e known. known;
      whole = λ whole. whole;
      reads = λ d ts ps walks trim h. none_read ts text;
      paid = λ whole d ts ps walks trim h. ([], (0, (walked_start c.args.walker.now ts c.args.memo.now c.args.mode c.args.at text (IsCharBoundary-start text c.utf8.rest), omega arith)));
      never_falls = omega arith;
      void = λ d ts ps walks h. void_none ts text c.utf8.rest;
    }

pub loop-offset-preserved : goal.loop-offset-preserved
loop-offset-preserved c =
    let text = c.args.rest.now in
    let at = char_indices_offset c.loop-offset.offset-iterator in
    let rest = char_indices_rest c.loop-offset.offset-iterator in
    let s = c.in-Some.ensures.steps in
    let inv = c.loop-offset.invariant in
    let there : c.range_from.result.now ≡ drop at text = c.range_from.ensures.value ∙ ap (λ n. drop n text) s.0 in
    let here : c.range_from.result.now ≡ rest = there ∙ left_at text rest at inv.cut in
    let found = c.longest_settled-found in
    let w = c.args.walker.now in
    let at2 = char_indices_offset c.next.new.self in
    let cut2 = cut_more text rest (char_indices_rest c.next.new.self) at at2 c.in-Some.c c.utf8.rest inv.cut s.1 s.2 in
    let begins = cut_boundary text rest at c.utf8.rest inv.cut in
    let begins2 = cut_boundary text (char_indices_rest c.next.new.self) at2 c.utf8.rest cut2 in
    let further : at < at2 = omega (arith, s.2, char_size c.in-Some.c) in
    record {
      cut = cut2;
      before = λ d ts ps walks h.
          before_next ts ps text rest _ at _ c.in-Some.c c.utf8.rest inv.cut s.1 s.2 (inv.before d ts ps walks h)
          (subst (λ (t : List ℕ). IsLongest ts ps t None) here
          (subst (λ o. IsLongest ts ps c.range_from.result.now (option_map (λ m. (m.0, m.1.now)) o)) c.in_default.is (found.ensures.answer d ts ps walks h)));
      read = λ d ts ps walks h.
          read_more ts text rest _ at _ c.in-Some.c c.loop-offset.reach c.max-reach.result found.result.reach c.utf8.rest inv.cut s.1 s.2 (inv.read d ts ps walks h) (omega (arith, c.max-reach.ensures))
          (omega (arith, s.0, c.max-reach.ensures))
          (subst (λ (t : List ℕ). IsSettledBy ts t found.result.reach) there (found.ensures.settled d ts ps walks h));
      within = omega (arith, inv.within, c.max-reach.ensures, found.ensures.within, ap length there, length-drop at text, s.0, cut_within text rest at inv.cut);
      held = λ past d ts ps walks trim h.
          let none = subst (λ o. IsLongest ts ps c.range_from.result.now (option_map (λ m. (m.0, m.1.now)) o)) c.in_default.is (found.ensures.answer d ts ps walks h) in
          waits_more ts text rest c.range_from.result.now at c.in-Some.offset c.loop-offset.reach c.max-reach.result found.result.reach c.utf8.rest inv.cut s.0 c.range_from.ensures.value c.max-reach.ensures
          (inr (none_up_to ts ps text at (inv.before d ts ps walks h) (subst (λ (t : List ℕ). IsLongest ts ps t None) there none))) (λ earlier. inv.held earlier d ts ps walks trim h) (λ far. found.ensures.earliest far d ts ps walks trim h) past;
      sound = found.ensures.sound c.args.at c.in-Some.offset text refl (omega (arith, s.0, cut_within text rest at inv.cut)) (sym c.range_from.ensures.value) inv.sound;
      others = λ m p e n other noted. inv.others m p e n other (found.ensures.others m p e n other noted);
      stays = λ m p e known. found.ensures.stays m p e (inv.stays m p e known);
      whole = λ whole. inv.whole (found.ensures.whole whole);
      reads = λ d ts ps walks trim h.
          let all = subst (λ o. AreOpen w c.range_from.result.now (size_of (option_map (λ m. (m.0, m.1.now)) o)) found.result.reach) c.in_default.is found.ensures.all_open in
          read_past w d ts ps text at at2 c.in-Some.offset found.result.reach c.loop-offset.reach c.max-reach.result walks trim h (inv.reads d ts ps walks trim h) s.0
          (subst (λ (t : List ℕ). AreOpen w t 0 found.result.reach) c.range_from.ensures.value all) begins further c.max-reach.ensures;
      paid = λ whole d ts ps walks trim h.
          let (xs, (far, (walked, cost))) = inv.paid (found.ensures.whole whole) d ts ps walks trim h in
          let (ys, (run, ran)) = found.ensures.paid whole in
          let none = subst (λ o. IsRunPaid w c.loop-offset.memo found.new.memo c.args.mode (c.args.at + c.in-Some.offset) c.range_from.result.now (size_of (option_map (λ m. (m.0, m.1.now)) o)) c.loop-offset.steps found.new.steps ys run)
          c.in_default.is ran in
          let paid = run_there w c.loop-offset.memo found.new.memo c.args.mode c.args.at c.in-Some.offset at 0 c.loop-offset.steps found.new.steps run text c.range_from.result.now ys c.range_from.ensures.value s.0 none in
          let more = walked_more w d ts ps c.args.memo.now c.loop-offset.memo found.new.memo c.args.mode c.args.at text at at2 0 c.loop-offset.steps found.new.steps far run xs ys walks trim h c.utf8.rest begins begins2
          (omega (arith, further)) inv.stays found.ensures.stays (inl refl) walked paid in
          (xs ++ ys, (more.0, (more.1.1, omega (arith, further, cost, paid.cost, length-append xs ys))));
      never_falls = omega (arith, inv.never_falls, found.ensures.never_falls);
      void = λ d ts ps walks h.
          let before2 = before_next ts ps text rest _ at _ c.in-Some.c c.utf8.rest inv.cut s.1 s.2 (inv.before d ts ps walks h)
          (subst (λ (t : List ℕ). IsLongest ts ps t None) here
          (subst (λ o. IsLongest ts ps c.range_from.result.now (option_map (λ m. (m.0, m.1.now)) o)) c.in_default.is (found.ensures.answer d ts ps walks h))) in
          let read2 = read_more ts text rest _ at _ c.in-Some.c c.loop-offset.reach c.max-reach.result found.result.reach c.utf8.rest inv.cut s.1 s.2 (inv.read d ts ps walks h) (omega (arith, c.max-reach.ensures))
          (omega (arith, s.0, c.max-reach.ensures))
          (subst (λ (t : List ℕ). IsSettledBy ts t found.result.reach) there (found.ensures.settled d ts ps walks h)) in
          elim c.void_up_to-void.ensures [
            | inl near ↦ void_there ts text at2 c.max-reach.result c.void_up_to-void.result c.utf8.rest begins2 before2 read2 near.0 (omega (arith, near.1, s.0, s.2, c.len_utf8.ensures.len))
            | inr same ↦ subst (IsVoidTo ts text) (sym same) (inv.void d ts ps walks h)
          ];
    }

pub returns-in-Some-longest-clause-held : goal.returns-in-Some-longest-clause-held
returns-in-Some-longest-clause-held c = λ past d ts ps walks trim h.
    let inv = c.loop-offset.invariant in
    let found = c.longest_settled-found in
    let zero : c.in-Some.offset ≡ 0 = omega (arith, c.if-offset-gt0.false) in
    inr (waits_more ts c.args.rest.now (char_indices_rest c.loop-offset.offset-iterator) c.range_from.result.now (char_indices_offset c.loop-offset.offset-iterator) c.in-Some.offset 0 found.result.reach found.result.reach
    c.utf8.rest inv.cut c.in-Some.ensures.steps.0 c.range_from.ensures.value (omega (arith, zero))
    (inl (omega (arith, zero, c.in-Some.ensures.steps.0))) (λ earlier. absurd (omega (arith, earlier))) (λ far. found.ensures.earliest far d ts ps walks trim h) past)

pub returns-then-offset-gt0-clause-held : goal.returns-then-offset-gt0-clause-held
returns-then-offset-gt0-clause-held c = λ past d ts ps walks trim h.
    let text = c.args.rest.now in
    let at = char_indices_offset c.loop-offset.offset-iterator in
    let inv = c.loop-offset.invariant in
    let found = c.longest_settled-found in
    let prefix = subst (λ o. IfSome o (λ m. IsPrefix m.1.now c.range_from.result.now × (m.1.now ≢ []))) c.in-Some-longest.is found.ensures.prefix in
    let short : length c.in-Some-longest.slice.now ≤ length c.range_from.result.now = omega (arith, ap length prefix.0.1.0, length-append c.in-Some-longest.slice.now prefix.0.0) in
    let seen : c.in-Some.offset + length c.in-Some-longest.slice.now ≤ length text = omega (arith, short, ap length c.range_from.ensures.value, length-drop c.in-Some.offset text, cut_within text _ at inv.cut, c.in-Some.ensures.steps.0) in
    inr (inv.held (omega (arith, past, c.max.ensures, seen)) d ts ps walks trim h)

sound_there : (w : Walker) (m n : Memo) (mode at k : ℕ) (text part : List ℕ) → k ≤ length text → part ≡ drop k text
    → ((begin i : ℕ) (all : List ℕ) → begin + i ≡ at + k → i ≤ length all → drop i all ≡ part → IsSound w m mode begin all → IsSound w n mode begin all)
    → IsSound w m mode at text → IsSound w n mode at text
sound_there w m n mode at k text part within is later sound = later at k text refl within (sym is) sound

pub longest_settled-found-requires-clause-sound : goal.longest_settled-found-requires-clause-sound
longest_settled-found-requires-clause-sound c =
    let text = c.args.rest.now in
    let inv = c.loop-offset.invariant in
    subst (IsSound c.args.walker.now c.loop-offset.memo c.args.mode (c.args.at + c.in-Some.offset)) (sym c.range_from.ensures.value)
    (left_sound c.args.walker.now c.loop-offset.memo c.args.mode c.args.at c.in-Some.offset text (omega (arith, c.in-Some.ensures.steps.0, cut_within text _ _ inv.cut)) inv.sound)

pub returns-then-offset-gt0-clause-sound : goal.returns-then-offset-gt0-clause-sound
returns-then-offset-gt0-clause-sound c =
    let inv = c.loop-offset.invariant in
    sound_there c.args.walker.now c.loop-offset.memo c.longest_settled-found.new.memo c.args.mode c.args.at c.in-Some.offset c.args.rest.now c.range_from.result.now
    (omega (arith, c.in-Some.ensures.steps.0, cut_within c.args.rest.now _ _ inv.cut)) c.range_from.ensures.value c.longest_settled-found.ensures.sound inv.sound

pub returns-in-Some-longest-clause-sound : goal.returns-in-Some-longest-clause-sound
returns-in-Some-longest-clause-sound c =
    let inv = c.loop-offset.invariant in
    sound_there c.args.walker.now c.loop-offset.memo c.longest_settled-found.new.memo c.args.mode c.args.at c.in-Some.offset c.args.rest.now c.range_from.result.now
    (omega (arith, c.in-Some.ensures.steps.0, cut_within c.args.rest.now _ _ inv.cut)) c.range_from.ensures.value c.longest_settled-found.ensures.sound inv.sound

pub returns-then-offset-gt0-clause-reads : goal.returns-then-offset-gt0-clause-reads
returns-then-offset-gt0-clause-reads c = λ d ts ps walks trim h.
    let text = c.args.rest.now in
    let at = char_indices_offset c.loop-offset.offset-iterator in
    let inv = c.loop-offset.invariant in
    let answer = subst (λ o. IsLongest ts ps c.range_from.result.now (option_map (λ m. (m.0, m.1.now)) o)) c.in-Some-longest.is (c.longest_settled-found.ensures.answer d ts ps walks h) in
    let longest = subst (λ (t : List ℕ). IsLongest ts ps t (Some (c.in-Some-longest.index, c.in-Some-longest.slice.now))) c.range_from.ensures.value answer in
    fault_read ts text c.in-Some-longest.slice.now at c.in-Some.offset c.loop-offset.reach c.max.result (inv.reads d ts ps walks trim h) c.in-Some.ensures.steps.0 longest.0
    (cut_boundary text (char_indices_rest c.loop-offset.offset-iterator) at c.utf8.rest inv.cut) c.max.ensures

pub returns-in-Some-longest-clause-reads : goal.returns-in-Some-longest-clause-reads
returns-in-Some-longest-clause-reads c = λ d ts ps walks trim h.
    let text = c.args.rest.now in
    let found = c.longest_settled-found in
    let zero : c.in-Some.offset ≡ 0 = omega (arith, c.if-offset-gt0.false) in
    let same : c.range_from.result.now ≡ text = c.range_from.ensures.value ∙ ap (λ (n : ℕ). drop n text) zero in
    let all = subst (λ o. AreOpen c.args.walker.now c.range_from.result.now (size_of (option_map (λ m. (m.0, m.1.now)) o)) found.result.reach) c.in-Some-longest.is found.ensures.all_open in
    token_read c.args.walker.now d ts ps walks trim h text c.in-Some-longest.index (length c.in-Some-longest.slice.now) found.result.reach
    (subst (λ (t : List ℕ). AreOpen c.args.walker.now t (length c.in-Some-longest.slice.now) found.result.reach) same all)

pub returns-clause-reads : goal.returns-clause-reads
returns-clause-reads c = λ d ts ps walks trim h. λ n above below within u. absurd (omega (arith, above, within))

pub returns-then-offset-gt0-clause-paid : goal.returns-then-offset-gt0-clause-paid
returns-then-offset-gt0-clause-paid c = λ whole d ts ps walks trim h.
    let text = c.args.rest.now in
    let w = c.args.walker.now in
    let at = char_indices_offset c.loop-offset.offset-iterator in
    let s = c.in-Some.ensures.steps in
    let inv = c.loop-offset.invariant in
    let found = c.longest_settled-found in
    let p = c.in-Some-longest.slice.now in
    let answer = subst (λ o. IsLongest ts ps c.range_from.result.now (option_map (λ m. (m.0, m.1.now)) o)) c.in-Some-longest.is (found.ensures.answer d ts ps walks h) in
    let longest = subst (λ (t : List ℕ). IsLongest ts ps t (Some (c.in-Some-longest.index, p))) (c.range_from.ensures.value ∙ ap (λ (n : ℕ). drop n text) s.0) answer in
    let (xs, (far, (walked, cost))) = inv.paid (found.ensures.whole whole) d ts ps walks trim h in
    let (ys, (run, ran)) = found.ensures.paid whole in
    let one = subst (λ o. IsRunPaid w c.loop-offset.memo found.new.memo c.args.mode (c.args.at + c.in-Some.offset) c.range_from.result.now (size_of (option_map (λ m. (m.0, m.1.now)) o)) c.loop-offset.steps found.new.steps ys run)
    c.in-Some-longest.is ran in
    let paid = run_there w c.loop-offset.memo found.new.memo c.args.mode c.args.at c.in-Some.offset at (length p) c.loop-offset.steps found.new.steps run text c.range_from.result.now ys c.range_from.ensures.value s.0 one in
    fault_paid w d ts ps c.args.memo.now c.loop-offset.memo found.new.memo c.args.mode c.args.at text _ at c.args.steps.now c.loop-offset.steps found.new.steps far run c.in-Some-longest.index p xs ys walks trim h c.utf8.rest
    (cut_boundary text (char_indices_rest c.loop-offset.offset-iterator) at c.utf8.rest inv.cut) inv.stays found.ensures.stays refl s.0 (omega (arith, c.if-offset-gt0.true, s.0)) longest walked cost paid

pub returns-in-Some-longest-clause-paid : goal.returns-in-Some-longest-clause-paid
returns-in-Some-longest-clause-paid c = λ whole d ts ps walks trim h.
    let text = c.args.rest.now in
    let w = c.args.walker.now in
    let at = char_indices_offset c.loop-offset.offset-iterator in
    let s = c.in-Some.ensures.steps in
    let inv = c.loop-offset.invariant in
    let found = c.longest_settled-found in
    let p = c.in-Some-longest.slice.now in
    let zero : c.in-Some.offset ≡ 0 = omega (arith, c.if-offset-gt0.false) in
    let same : c.range_from.result.now ≡ text = c.range_from.ensures.value ∙ ap (λ (n : ℕ). drop n text) zero in
    let answer = subst (λ o. IsLongest ts ps c.range_from.result.now (option_map (λ m. (m.0, m.1.now)) o)) c.in-Some-longest.is (found.ensures.answer d ts ps walks h) in
    let longest = subst (λ (t : List ℕ). IsLongest ts ps t (Some (c.in-Some-longest.index, p))) (c.range_from.ensures.value ∙ ap (λ (n : ℕ). drop n text) s.0) answer in
    let prefix = subst (λ o. IfSome o (λ m. IsPrefix m.1.now c.range_from.result.now × (m.1.now ≢ []))) c.in-Some-longest.is found.ensures.prefix in
    let (xs, (far, (walked, cost))) = inv.paid (found.ensures.whole whole) d ts ps walks trim h in
    let (ys, (run, ran)) = found.ensures.paid whole in
    let one = subst (λ o. IsRunPaid w c.loop-offset.memo found.new.memo c.args.mode (c.args.at + c.in-Some.offset) c.range_from.result.now (size_of (option_map (λ m. (m.0, m.1.now)) o)) c.loop-offset.steps found.new.steps ys run)
    c.in-Some-longest.is ran in
    let paid = run_there w c.loop-offset.memo found.new.memo c.args.mode c.args.at c.in-Some.offset at (length p) c.loop-offset.steps found.new.steps run text c.range_from.result.now ys c.range_from.ensures.value s.0 one in
    token_paid w d ts ps c.args.memo.now c.loop-offset.memo found.new.memo c.args.mode c.args.at text _ at c.args.steps.now c.loop-offset.steps found.new.steps far run p xs ys walks trim h c.utf8.rest
    (cut_boundary text (char_indices_rest c.loop-offset.offset-iterator) at c.utf8.rest inv.cut)
    (cut_behind p text c.utf8.rest (subst (λ (t : List ℕ). IsPrefix p t) same prefix.0)) inv.stays found.ensures.stays (omega (arith, zero, s.0)) refl (some_length p prefix.1) longest.0 walked cost paid

pub returns-clause-paid : goal.returns-clause-paid
returns-clause-paid c = λ whole d ts ps walks trim h.
    let inv = c.loop-offset.invariant in
    let text = c.args.rest.now in
    let at = char_indices_offset c.loop-offset.offset-iterator in
    let end : at ≡ length text = omega (arith, cut_within text _ at inv.cut, c.in-None.ensures.steps.0) in
    let (xs, (far, (walked, cost))) = inv.paid whole d ts ps walks trim h in
    (xs, (far, end_paid c.args.walker.now ts ps c.args.memo.now c.loop-offset.memo c.args.mode c.args.at text _ at c.args.steps.now c.loop-offset.steps far xs (sym end) walked cost))
