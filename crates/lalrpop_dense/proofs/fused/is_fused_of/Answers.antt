use Rattle.std.proofs.Common.{◌≡◌, ℕ, arith, rules, subst}
use Rattle.std.proofs.lemmas.List.{get_or_read}
use Rattle.std.proofs.lemmas.List.Elements.{All-contains}
use Rattle.lalrpop_dense.specs.Internal.Table.{row_of}
use Rattle.lalrpop_dense.specs.Internal.Fused.{IsRow, IsRightRow, LeadsBack}
use Rattle.lalrpop_dense.proofs.fused.is_fused_of.Goals as goal

pub returns : goal.returns
returns c =
    let f = c.args.fused.now in
    let t = c.args.layout.now in
    let origin : c.index.result.now ≡ row_of t 0 = get_or_read t.rows.items 0 c.index.result.now (search rules) c.index.ensures 0 in
    let start : IsRow f f.first c.index.result.now = c.if-not-is_row.ensures (search rules) in
    λ is. record {
      start = subst (λ (o : ℕ). IsRow f f.first o) origin start;
      rows = λ r has. All-contains (IsRightRow f t c.args.cells.now) f.rows.items r (λ k d below. c.loop-row.invariant k d (omega arith)) has;
      stays = λ s has. All-contains (LeadsBack f t) f.stays.items s (λ k d below. c.loop-stay.invariant k d (omega arith)) has;
    }
