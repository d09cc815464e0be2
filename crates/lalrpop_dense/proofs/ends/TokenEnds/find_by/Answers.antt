use Rattle.std.proofs.Common.{◌≡◌, ℕ, ◌+◌, ◌≤◌, List, length, map, take, arith, sym, ap, subst, ◌∙◌}
use Rattle.std.proofs.lemmas.List.{length-map, length-take-le}
use Rattle.lalrpop_dense.specs.Leading.{AreAhead, last_end}
use Rattle.lalrpop_dense.specs.Internal.Marks.{named, ends_of}
use Rattle.lalrpop_dense.specs.Internal.Table.{numbers_of}
use Rattle.lalrpop_dense.specs.declared.mark.Mark.{Mark}
use Rattle.lalrpop_dense.proofs.Marking.{marks_within, marks_ahead, marks_last, marks_on, ahead_in, last_in}
use Rattle.lalrpop_dense.proofs.ends.TokenEnds.find_by.Goals as goal

pub name_patterns-requires : goal.name_patterns-requires
name_patterns-requires g c =
    let e = c.args.engine.now in
    let m = c.mark_ends-marked.ensures.marks in
    λ k d below. omega (
      arith,
      marks_within e.fused.now e.layout.now e.dfa.now c.args.text.now c.args.at c.args.at m.0 (take c.mark_ends-marked.result.count c.mark_ends-marked.new.marks) m.2 k d below,
      ap (length {A = ℕ}) c.requires.cells,
    )

pub overflow_sub-marked : goal.overflow_sub-marked
overflow_sub-marked g c =
    let e = c.args.engine.now in
    let ms = take c.mark_ends-marked.result.count c.mark_ends-marked.new.marks in
    let m = c.mark_ends-marked.ensures.marks in
    let same : c.name_patterns.new.marks ≡ map (named (numbers_of e.fused.now.cells) e.layout.now.width) ms =
    c.name_patterns.ensures ∙ ap (λ (xs : List ℕ). map (named xs e.layout.now.width) ms) c.requires.cells in
    let last : c.last_place-last.result ≡ m.0 =
    c.last_place-last.ensures ∙ ap (λ (xs : List Mark). last_end c.args.at (ends_of c.args.at xs)) same
    ∙ marks_last e.fused.now e.layout.now e.dfa.now c.args.text.now c.args.at c.args.at m.0 ms m.2 in
    omega (arith, last, m.1)

pub returns-clause-ahead : goal.returns-clause-ahead
returns-clause-ahead g c =
    let e = c.args.engine.now in
    let count = c.mark_ends-marked.result.count in
    let ms = take count c.mark_ends-marked.new.marks in
    let m = c.mark_ends-marked.ensures.marks in
    let same : c.name_patterns.new.marks ≡ map (named (numbers_of e.fused.now.cells) e.layout.now.width) ms =
    c.name_patterns.ensures ∙ ap (λ (xs : List ℕ). map (named xs e.layout.now.width) ms) c.requires.cells in
    let size : length c.name_patterns.new.marks ≡ count =
    ap (length {A = Mark}) same ∙ length-map ms (named (numbers_of e.fused.now.cells) e.layout.now.width) ∙ length-take-le count c.mark_ends-marked.new.marks c.mark_ends-marked.ensures.within in
    ahead_in e.dfa.now c.args.text.now c.args.at c.args.at count c.name_patterns.new.marks _ size
    (subst (λ (xs : List Mark). AreAhead e.dfa.now c.args.text.now c.args.at (ends_of c.args.at xs)) (sym same)
    (marks_ahead e.fused.now e.layout.now e.dfa.now c.args.text.now c.args.at c.args.at m.0 ms m.2))

pub returns-clause-cost : goal.returns-clause-cost
returns-clause-cost g c =
    let e = c.args.engine.now in
    let count = c.mark_ends-marked.result.count in
    let ms = take count c.mark_ends-marked.new.marks in
    let m = c.mark_ends-marked.ensures.marks in
    let same : c.name_patterns.new.marks ≡ map (named (numbers_of e.fused.now.cells) e.layout.now.width) ms =
    c.name_patterns.ensures ∙ ap (λ (xs : List ℕ). map (named xs e.layout.now.width) ms) c.requires.cells in
    let size : length c.name_patterns.new.marks ≡ count =
    ap (length {A = Mark}) same ∙ length-map ms (named (numbers_of e.fused.now.cells) e.layout.now.width) ∙ length-take-le count c.mark_ends-marked.new.marks c.mark_ends-marked.ensures.within in
    let last : c.last_place-last.result ≡ m.0 =
    c.last_place-last.ensures ∙ ap (λ (xs : List Mark). last_end c.args.at (ends_of c.args.at xs)) same
    ∙ marks_last e.fused.now e.layout.now e.dfa.now c.args.text.now c.args.at c.args.at m.0 ms m.2 in
    subst (λ (n : ℕ). c.mark_ends-marked.new.steps + c.args.at ≤ c.args.steps.now + n + c.min.result)
    (sym (last_in c.args.at c.args.at count c.name_patterns.new.marks _ size ∙ sym c.last_place-last.ensures))
    (omega (arith, last, m.1, marks_on e.fused.now e.layout.now e.dfa.now c.args.text.now c.args.at c.args.at m.0 ms m.2, c.min.ensures, c.mark_ends-marked.ensures.cost, c.mark_ends-marked.ensures.limit))
