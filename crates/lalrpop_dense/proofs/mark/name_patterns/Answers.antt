use Rattle.std.proofs.Common.{◌≡◌, ℕ, ◌+◌, ◌-◌, ◌<◌, ◌++◌, List, length, map, take, drop, get_or, slice_set, arith, ap, subst, sym, ◌∙◌}
use Rattle.std.proofs.lemmas.List.{take_all, drop_all, append-nil, get_or_default, length-map, length-take-le, get_or-append_right, get_or-drop}
use Rattle.std.proofs.lemmas.List.Edits.{map_over_more}
use Rattle.lalrpop_dense.specs.Internal.Marks.{named}
use Rattle.lalrpop_dense.specs.declared.mark.Mark.{Mark}
use Rattle.lalrpop_dense.proofs.mark.name_patterns.Goals as goal

-- what is still to be done is as it was
still : (f : Mark → Mark) (xs ys : List Mark) (i : ℕ) (d : Mark) → i < length xs → ys ≡ map f (take i xs) ++ drop i xs → get_or ys i d ≡ get_or xs i d
still f xs ys i d within e =
    let size : length (map f (take i xs)) ≡ i = length-map (take i xs) f ∙ length-take-le i xs (omega (arith, within)) in
    let place : i + (i - i) ≡ i = omega arith in
    ap (λ (ms : List Mark). get_or ms i d) e ∙ get_or-append_right (map f (take i xs)) (drop i xs) i i d size (omega arith)
    ∙ get_or-drop i xs (i - i) d ∙ ap (λ (k : ℕ). get_or xs k d) place

pub pattern-mark-requires : goal.pattern-mark-requires
pattern-mark-requires g c =
    let xs = c.args.marks.now in
    let i = c.loop-mark.mark-index in
    let none : Mark = record { place = 0; number = 0 } in
    subst (λ (m : Mark). m.number + c.args.width < length (g.R.Rows.numbers c.args.cells))
    (sym (still (named (g.R.Rows.numbers c.args.cells) c.args.width) xs c.loop-mark.marks i none c.loop-mark-test.true c.loop-mark.invariant))
    (c.requires i none c.loop-mark-test.true)

pub loop-mark-preserved : goal.loop-mark-preserved
loop-mark-preserved g c =
    let xs = c.args.marks.now in
    let ys = c.loop-mark.marks in
    let i = c.loop-mark.mark-index in
    let none : Mark = record { place = 0; number = 0 } in
    let m : Mark = get_or ys i none in
    let within : i < length ys = omega (arith, c.loop-mark.auto.marks, c.loop-mark-test.true) in
    ap (λ (n : ℕ). slice_set ys i (record { place = m.place; number = n })) c.pattern-mark.ensures
    ∙ map_over_more (named (g.R.Rows.numbers c.args.cells) c.args.width) xs ys i m c.loop-mark-test.true c.loop-mark.invariant (get_or_default ys i none m within)

pub returns : goal.returns
returns g c =
    let f = named (g.R.Rows.numbers c.args.cells) c.args.width in
    let xs = c.args.marks.now in
    let i = c.loop-mark.mark-index in
    c.loop-mark.invariant ∙ ap (λ (ms : List Mark). map f ms ++ drop i xs) (take_all i xs c.loop-mark-test.false)
    ∙ ap (λ (ms : List Mark). map f xs ++ ms) (drop_all i xs c.loop-mark-test.false) ∙ append-nil (map f xs)
