use Rattle.std.proofs.Common.{◌≡◌, ◌+◌, ◌-◌, List, ℕ, ◌++◌, take, drop, subst, sym, ap, ◌∙◌, arith, string_bytes}
use Rattle.std.proofs.lemmas.List.{drop-take}
use Rattle.std.proofs.lemmas.Str.{chars-nil, IsCharBoundary-start}
use Rattle.std.specs.Str.{IsCharBoundary}
use Rattle.std.specs.Str.Iter.{char_indices_rest, char_indices_offset}
use Rattle.std.specs.Prelude.{flat_map}
use Rattle.lalrpop_hir.proofs.Cuts.{cut_start, cut_more}
use Rattle.bajofeki.proofs.ShownRuns.{run_more, run_ends, cut_boundary}
use Rattle.bajofeki.proofs.shown.push_shown.Goals as goal

pub loop-at-init : goal.loop-at-init
loop-at-init g c =
    let i = c.into_iter-at-iterator.ensures.into_iter_gives in
    let at = ap char_indices_offset i ∙ c.char_indices-at-items.ensures.offset in
    let rest = ap char_indices_rest i ∙ c.char_indices-at-items.ensures.rest in
    rw (at, rest) record {
      cut = cut_start c.args.text.now c.utf8.text;
      from = omega arith;
      begins = IsCharBoundary-start c.args.text.now c.utf8.text;
      shown = ap (λ w. string_bytes c.args.page.now ++ flat_map (g.S.Shows.shown c.args.style.now) w) (sym chars-nil);
    }

pub loop-at-preserved-then-not-is_plain : goal.loop-at-preserved-then-not-is_plain
loop-at-preserved-then-not-is_plain g c =
    let text = c.args.text.now in
    let at = char_indices_offset c.loop-at.at-iterator in
    let rest = char_indices_rest c.loop-at.at-iterator in
    let at2 = char_indices_offset c.next.new.self in
    let s = c.in-Some.ensures.steps in
    let cut = c.loop-at.invariant.cut in
    let from = c.loop-at.from in
    let cut2 = cut_more text rest _ at _ c.in-Some.c c.utf8.text cut s.1 s.2 in
    let next : c.in-Some.at + c.len_utf8.result ≡ at2 = omega (arith, s.0, s.2, c.len_utf8.ensures.len) in
    let run : take (c.in-Some.at - from) (drop from text) ≡ drop from (take at text) =
    sym (drop-take from (c.in-Some.at - from) text) ∙ ap (λ n. drop from (take n text)) (omega (arith, s.0, c.loop-at.invariant.from)) in
    let told_all : string_bytes c.push.new.page ≡ (string_bytes c.loop-at.page ++ drop from (take at text)) ++ g.S.Shows.shown c.args.style.now c.in-Some.c =
    c.in_ok-push.ensures ∙ ap (λ (xs : List ℕ). xs ++ g.S.Shows.shown c.args.style.now c.in-Some.c) (c.in_ok-push_str.ensures.bytes ∙ ap (λ (xs : List ℕ). string_bytes c.loop-at.page ++ xs) (c.range.ensures.value ∙ run)) in
    record {
      cut = cut2;
      from = omega (arith, next);
      begins = subst (IsCharBoundary text) (sym next) (cut_boundary text _ at2 cut2);
      shown = ap (λ n. string_bytes c.push.new.page ++ drop n (take at2 text)) next ∙ ap (λ (xs : List ℕ). xs ++ drop at2 (take at2 text)) told_all
          ∙ run_ends (g.S.Shows.shown c.args.style.now) text rest _ at _ c.in-Some.c cut s.1 s.2 _ _ from c.loop-at.invariant.shown;
    }

pub loop-at-preserved : goal.loop-at-preserved
loop-at-preserved g c =
    let text = c.args.text.now in
    let at = char_indices_offset c.loop-at.at-iterator in
    let rest = char_indices_rest c.loop-at.at-iterator in
    let s = c.in-Some.ensures.steps in
    let cut = c.loop-at.invariant.cut in
    record {
      cut = cut_more text rest _ at _ c.in-Some.c c.utf8.text cut s.1 s.2;
      from = omega (arith, c.loop-at.invariant.from, s.2);
      begins = c.loop-at.invariant.begins;
      shown = run_more (g.S.Shows.shown c.args.style.now) text rest _ at _ c.in-Some.c cut s.1 s.2 _ _ c.loop-at.from c.loop-at.invariant.from (c.is_plain.ensures c.if-not-is_plain.false) c.loop-at.invariant.shown;
    }
