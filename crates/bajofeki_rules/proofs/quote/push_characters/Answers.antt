use Rattle.std.proofs.Common.{take_all, ℕ, List, ◌∷◌, flat_map, ◌≡◌, ◌+◌, ◌-◌, [], ◌++◌, length, take, drop, sym, ap, ◌∙◌, arith, append_assoc}
use Rattle.std.specs.Str.{chars}
use Rattle.std.specs.Str.Iter.{char_indices_rest, char_indices_offset}
use Rattle.std.proofs.lemmas.List.{append-nil, drop-take}
use Rattle.std.proofs.lemmas.Str.{chars-nil}
use Rattle.lalrpop_hir.proofs.Cuts.{cut_start, cut_more, cut_within}
use Rattle.bajofeki_rules.specs.Quoted.{told}
use Rattle.bajofeki_rules.proofs.QuotedRuns.{run_more, run_ends, up_to}
use Rattle.bajofeki_rules.proofs.quote.push_characters.Goals as goal

pub loop-at-init : goal.loop-at-init
loop-at-init c =
    let i = c.into_iter-at-iterator.ensures.into_iter_gives in
    let at = ap char_indices_offset i ∙ c.char_indices-at-items.ensures.offset in
    let rest = ap char_indices_rest i ∙ c.char_indices-at-items.ensures.rest in
    rw (at, rest) record {
      cut = cut_start c.args.slice.now c.utf8.slice;
      from = omega arith;
      written = ap (λ (xs : List ℕ). xs ++ []) c.in_ok-push.ensures.items ∙ append-nil _ ∙ ap (λ (w : List ℕ). c.args.bytes.now.items ++ 34 ∷ flat_map told w) (sym chars-nil);
    }

pub slice_bounds-extend_from_slice-count : goal.slice_bounds-extend_from_slice-count
slice_bounds-extend_from_slice-count c = omega (arith, c.in-Some.ensures.steps.0, c.loop-at.invariant.from)

pub slice_bounds-extend_from_slice-start : goal.slice_bounds-extend_from_slice-start
slice_bounds-extend_from_slice-start c =
    let within = cut_within _ _ _ c.loop-at.invariant.cut in
    let whole = ap length c.as_bytes.ensures.value in
    omega (arith, c.in-Some.ensures.steps.0, c.loop-at.invariant.from)

pub loop-at-preserved-then-not-is_plain : goal.loop-at-preserved-then-not-is_plain
loop-at-preserved-then-not-is_plain c =
    let slice = c.args.slice.now in
    let at = char_indices_offset c.loop-at.at-iterator in
    let rest = char_indices_rest c.loop-at.at-iterator in
    let at2 = char_indices_offset c.next.new.self in
    let s = c.in-Some.ensures.steps in
    let cut = c.loop-at.invariant.cut in
    let from = c.loop-at.from in
    let next : c.in-Some.at + c.len_utf8.result ≡ at2 = omega (arith, s.0, s.2, c.len_utf8.ensures.len) in
    let run : take (c.in-Some.at - from) (drop from slice) ≡ drop from (take at slice) =
    sym (drop-take from (c.in-Some.at - from) slice) ∙ ap (λ n. drop from (take n slice)) (omega (arith, s.0, c.loop-at.invariant.from)) in
    let told_all = c.in_ok-push_told.ensures ∙ ap (λ (xs : List ℕ). xs ++ told c.in-Some.c) (c.in_ok-extend_from_slice.ensures.items ∙ ap (λ (xs : List ℕ). c.loop-at.bytes.items ++ xs) (ap (λ (xs : List ℕ). take (c.in-Some.at - from) (drop from xs)) c.as_bytes.ensures.value ∙ run)) in
    record {
      cut = cut_more slice rest _ at _ c.in-Some.c c.utf8.slice cut s.1 s.2;
      from = omega (arith, next);
      written = ap (λ n. c.push_told.new.bytes.items ++ drop n (take at2 slice)) next ∙ ap (λ (xs : List ℕ). xs ++ drop at2 (take at2 slice)) told_all
          ∙ run_ends slice rest _ at _ c.in-Some.c cut s.1 s.2 _ _ from c.loop-at.invariant.written;
    }

pub loop-at-preserved : goal.loop-at-preserved
loop-at-preserved c =
    let slice = c.args.slice.now in
    let at = char_indices_offset c.loop-at.at-iterator in
    let rest = char_indices_rest c.loop-at.at-iterator in
    let s = c.in-Some.ensures.steps in
    let cut = c.loop-at.invariant.cut in
    record {
      cut = cut_more slice rest _ at _ c.in-Some.c c.utf8.slice cut s.1 s.2;
      from = omega (arith, c.loop-at.invariant.from, s.2);
      written = run_more slice rest _ at _ c.in-Some.c cut s.1 s.2 _ _ c.loop-at.from c.loop-at.invariant.from (c.is_plain.ensures.plain c.if-not-is_plain.false) c.loop-at.invariant.written;
    }

pub slice_bounds-extend_from_slice-start-2 : goal.slice_bounds-extend_from_slice-start-2
slice_bounds-extend_from_slice-start-2 c =
    let within = cut_within _ _ _ c.loop-at.invariant.cut in
    let whole = ap length c.as_bytes-2.ensures.value in
    omega (arith, c.loop-at.invariant.from)

pub returns : goal.returns
returns c =
    let slice = c.args.slice.now in
    let at = char_indices_offset c.loop-at.at-iterator in
    let rest = char_indices_rest c.loop-at.at-iterator in
    let from = c.loop-at.from in
    let cut = c.loop-at.invariant.cut in
    let whole : take at slice ≡ slice = take_all at slice (omega (arith, cut_within slice rest at cut, c.in-None.ensures.steps.0)) in
    let run : take (length slice - from) (drop from slice) ≡ drop from (take at slice) =
    sym (drop-take from (length slice - from) slice)
    ∙ ap (λ n. drop from (take n slice)) (omega (arith, cut_within slice rest at cut, c.in-None.ensures.steps.0, c.loop-at.invariant.from)) in
    let all : c.extend_from_slice-2.new.self.items ≡ c.args.bytes.now.items ++ up_to slice at =
    c.in_ok-extend_from_slice-2.ensures.items
    ∙ ap (λ (xs : List ℕ). c.loop-at.bytes.items ++ xs) (ap (λ (xs : List ℕ). take (length xs - from) (drop from xs)) c.as_bytes-2.ensures.value ∙ run)
    ∙ c.loop-at.invariant.written in
    record {
      quoted = c.in_ok-push-2.ensures.items ∙ ap (λ (xs : List ℕ). xs ++ 34 ∷ []) all ∙ append_assoc c.args.bytes.now.items (up_to slice at) (34 ∷ [])
          ∙ ap (λ (w : List ℕ). c.args.bytes.now.items ++ ((34 ∷ flat_map told (chars w)) ++ 34 ∷ [])) whole;
    }
