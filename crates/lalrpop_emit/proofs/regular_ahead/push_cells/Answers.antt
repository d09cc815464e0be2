use Rattle.std.proofs.Common.{◌≡◌, ◌∙◌, ◌*◌, ◌+◌, ℕ, List, [], ◌∷◌, ◌++◌, ap, map, append_assoc, arith, sym, subst, ◌^◌, ◌<◌}
use Rattle.std.specs.List.{All, range_with_len}
use Rattle.std.proofs.lemmas.List.Elements.{All-push}
use Rattle.lalrpop_emit.specs.Ahead.{by_column}
use Rattle.lalrpop_emit.specs.Internal.Lists.{list_numbers}
use Rattle.lalrpop_emit.specs.Internal.Standings.{place_in}
use Rattle.lalrpop_emit.proofs.Standings.{one_more_of}
use Rattle.lalrpop_emit.proofs.regular_ahead.push_cells.Goals as goal

pub loop-column-preserved : goal.loop-column-preserved
loop-column-preserved c = record {
  cells =
      one_more_of (λ column. place_in c.args.shape (by_column (list_numbers c.args.table.now) c.args.width c.args.standing column) * (c.args.width + 1)) c.args.cells.now.items c.loop-column.cells.items
      c.push.new.self.items c.target.result c.loop-column.column c.loop-column.invariant.cells c.target.ensures.target c.in_ok-push.ensures.items;
  small = subst (All (λ n. n < 2 ^ 32)) (sym c.in_ok-push.ensures.items) (All-push (λ n. n < 2 ^ 32) c.loop-column.cells.items c.target.result c.loop-column.invariant.small (omega (arith, c.target.ensures.small)));
}

pub returns-clause-cells : goal.returns-clause-cells
returns-clause-cells c =
    let old = c.args.cells.now.items in
    let f : ℕ → ℕ = λ column. place_in c.args.shape (by_column (list_numbers c.args.table.now) c.args.width c.args.standing column) * (c.args.width + 1) in
    let all : c.loop-column.column ≡ c.args.width = omega (arith, c.loop-column-test.false, c.loop-column.auto.column-end) in
    let rule = c.rule_number.result in
    c.in_ok-push-2.ensures.items ∙ ap (λ (xs : List ℕ). xs ++ rule ∷ []) c.loop-column.invariant.cells ∙ append_assoc old (map f (range_with_len 0 c.loop-column.column)) (rule ∷ [])
    ∙ ap (λ (n : ℕ). old ++ (map f (range_with_len 0 n) ++ rule ∷ [])) all
    ∙ ap (λ (n : ℕ). old ++ (map f (range_with_len 0 c.args.width) ++ n ∷ [])) c.rule_number.ensures
