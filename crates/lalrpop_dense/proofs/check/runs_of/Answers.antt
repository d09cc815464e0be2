use Rattle.std.proofs.Common.{ℕ, arith, subst, sym, length-set}
use Rattle.std.specs.List.{All}
use Rattle.std.proofs.lemmas.List.Elements.{All-push}
use Rattle.lalrpop_dense.specs.Internal.Runs.{IsRun}
use Rattle.lalrpop_dense.proofs.Rights.{ends_more}
use Rattle.lalrpop_dense.proofs.check.runs_of.Goals as goal

pub loop-start-preserved : goal.loop-start-preserved
loop-start-preserved c = record {
  list = subst (All (IsRun c.args.layout.now)) (sym c.in_ok-push.ensures.items) (All-push (IsRun c.args.layout.now) c.loop-start.list.items c.run_from-run.result c.loop-start.invariant.list c.run_from-run.ensures.run);
  enough = omega (arith, length-set {A = ℕ}, c.loop-start.invariant.enough);
  ends = λ v below. ends_more c.args.layout.now c.loop-start.ends.items c.run_from-run.result c.run_from-run.ensures.run (omega (arith, c.run_from-run.type_inv, c.loop-start.invariant.enough))
      (λ u l. c.loop-start.invariant.ends u (omega (arith, c.run_from-run.ensures.begins))) v below;
}
