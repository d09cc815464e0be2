use Rattle.std.proofs.Common.{cond, subst}
use Rattle.lalrpop_hir.specs.Range.{Covered}
use Rattle.lalrpop_hir.specs.Runs.{IsCanon}
use Rattle.lalrpop_re.specs.CharacterSet.{Set, nothing, just, complement, HasRuns}
use Rattle.lalrpop_re.proofs.SetLaws.{HasRuns-nothing, HasRuns-just, HasRuns-complement}
use Rattle.lalrpop_re.proofs.sets.tree_of_dot.Goals as goal
use Rattle.lalrpop_re.proofs.sets.tree_of_dot.Goals.{then-flags+in_ok-left_out, else-flags+in_ok-left_out-2}

pub returns : goal.returns
returns c =
    let f = c.args.flags in
    let left = c.if-flags.left_out in
    let rs = c.in_ok-complement.field-0 in
    let s : Set = cond f.dot_matches_new_line (complement nothing) (complement (just 10)) in
    let runs : HasRuns rs s = elim c.if-flags.branch [
      | then-flags+in_ok-left_out w ↦
          let none : HasRuns left nothing = rw w.left_out-is (HasRuns-nothing w.in_ok-left_out.left_out (subst (λ l. IsCanon (Covered l) w.in_ok-left_out.left_out) w.new.ensures.items w.in_ok-left_out.ensures.runs)) in
          rw w.if-flags.true (HasRuns-complement left rs nothing none c.in_ok-complement.ensures.runs)
      | else-flags+in_ok-left_out-2 w ↦
          let feed : HasRuns left (just 10) = rw w.left_out-is (HasRuns-just w.in_ok-left_out-2.left_out 10 w.in_ok-left_out-2.ensures.runs) in
          rw w.if-flags.false (HasRuns-complement left rs (just 10) feed c.in_ok-complement.ensures.runs)
    ] in
    record { tree = c.tree_of_class.ensures.tree s runs }
