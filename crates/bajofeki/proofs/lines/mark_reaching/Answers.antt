use Rattle.std.proofs.Common.{true≢false, ◌≡◌, ◌+◌, ◌++◌, ◌≤◌, ℕ, List, length, drop, refl, arith, sym, ap, subst, ◌∙◌}
use Rattle.std.specs.Char.{encode_utf8}
use Rattle.std.specs.Str.{IsCharBoundary, IsUtf8}
use Rattle.std.specs.declared.str.Chars.{Chars}
use Rattle.std.proofs.lemmas.Str.{IsCharBoundary-from_take}
use Rattle.lalrpop_hir.proofs.Cuts.{IsCut, cut_more, cut_within}
use Rattle.bajofeki.proofs.LineLaws.{cut_here, none_behind, none_more}
use Rattle.bajofeki.proofs.lines.mark_reaching.Goals as goal

pub loop-c-init : goal.loop-c-init
loop-c-init c =
    let text = c.args.text.now in
    let rest : c.into_iter-c-iterator.result.rest.now ≡ drop c.args.from.at text =
    ap (λ (s : Chars). s.rest.now) c.into_iter-c-iterator.ensures.into_iter_gives ∙ c.chars-c-items.ensures.rest ∙ c.range_from.ensures.value in
    record {
      mark = c.requires.mark;
      cut = subst (IsCut text c.args.from.at) (sym rest) (cut_here text c.args.from.at c.utf8.text c.requires.mark.boundary);
      between = λ n boundary le less. absurd (omega (arith, le, less));
    }

pub returns-then-not-is_before-clause-mark : goal.returns-then-not-is_before-clause-mark
returns-then-not-is_before-clause-mark c = c.loop-c.invariant.mark

pub returns-then-not-is_before-clause-between : goal.returns-then-not-is_before-clause-between
returns-then-not-is_before-clause-between c = c.loop-c.invariant.between

pub returns-then-not-is_before-clause-reaches : goal.returns-then-not-is_before-clause-reaches
returns-then-not-is_before-clause-reaches c =
    none_behind c.args.text.now c.loop-c.mark c.args.place c.utf8.text c.loop-c.invariant.mark (λ before. true≢false (sym (c.if-not-is_before.ensures.before.1 before)))

-- the text is cut after the character too
cut_behind : (text rest rest2 : List ℕ) (at c size : ℕ) → IsUtf8 text → IsCut text at rest → rest ≡ encode_utf8 c ++ rest2 → size ≡ length (encode_utf8 c)
    → IsCut text (at + size) rest2 × ((at + size ≤ length text) × IsCharBoundary text (at + size))
cut_behind text rest rest2 at c size u cut step is =
    let sum : at + size ≡ at + length (encode_utf8 c) = ap (λ (n : ℕ). at + n) is in
    let later = cut_more text rest rest2 at (at + size) c u cut step sum in
    let long = cut_within text rest2 (at + size) later in
    (later, (omega (arith, long), IsCharBoundary-from_take text (at + size) u (omega (arith, long)) later.seen_utf8))

pub overflow_add-mark : goal.overflow_add-mark
overflow_add-mark c =
    let next = cut_behind c.args.text.now c.loop-c.c-iterator.rest.now c.next.new.self.rest.now c.loop-c.mark.at c.in-Some.c c.len_utf8.result c.utf8.text c.loop-c.invariant.cut c.in-Some.ensures.steps.0 c.len_utf8.ensures.len in
    record { fits = omega (arith, next.1.0) }

pub behind_stretch-mark-requires-clause-mark : goal.behind_stretch-mark-requires-clause-mark
behind_stretch-mark-requires-clause-mark c = c.loop-c.invariant.mark

pub behind_stretch-mark-requires-clause-boundary : goal.behind_stretch-mark-requires-clause-boundary
behind_stretch-mark-requires-clause-boundary c =
    (cut_behind c.args.text.now c.loop-c.c-iterator.rest.now c.next.new.self.rest.now c.loop-c.mark.at c.in-Some.c c.len_utf8.result c.utf8.text c.loop-c.invariant.cut c.in-Some.ensures.steps.0 c.len_utf8.ensures.len).1.1

pub loop-c-preserved : goal.loop-c-preserved
loop-c-preserved c =
    let text = c.args.text.now in
    let rest2 = c.next.new.self.rest.now in
    let inv = c.loop-c.invariant in
    let end = c.behind_stretch-mark in
    let step = c.in-Some.ensures.steps.0 in
    let next = cut_behind text c.loop-c.c-iterator.rest.now rest2 c.loop-c.mark.at c.in-Some.c c.len_utf8.result c.utf8.text inv.cut step c.len_utf8.ensures.len in
    let size : end.result.at ≡ c.loop-c.mark.at + length (encode_utf8 c.in-Some.c) = omega (arith, end.ensures.at, c.len_utf8.ensures.len) in
    record {
      mark = end.ensures.mark;
      cut = subst (λ (n : ℕ). IsCut text n rest2) (sym end.ensures.at) next.0;
      between = none_more text c.loop-c.c-iterator.rest.now rest2 c.loop-c.mark c.args.from.at end.result.at c.in-Some.c c.args.place c.utf8.text inv.mark inv.cut step size
          (c.if-not-is_before.ensures.before.0 refl) inv.between;
    }

pub returns-clause-mark : goal.returns-clause-mark
returns-clause-mark c = c.loop-c.invariant.mark

pub returns-clause-between : goal.returns-clause-between
returns-clause-between c = c.loop-c.invariant.between

pub returns-clause-reaches : goal.returns-clause-reaches
returns-clause-reaches c = λ n boundary less.
    absurd (omega (arith, less, boundary.0, cut_within c.args.text.now c.loop-c.c-iterator.rest.now c.loop-c.mark.at c.loop-c.invariant.cut, c.in-None.ensures.steps.0))
