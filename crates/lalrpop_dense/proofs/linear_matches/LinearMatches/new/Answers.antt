use Rattle.std.proofs.Common.{◌+◌, ◌/◌, ◌*◌, ◌≤◌, length, arith, refl, sym, subst}
use Rattle.std.specs.Str.{chars}
use Rattle.lalrpop_dense.specs.Matching.{open_states}
use Rattle.lalrpop_dense.specs.Internal.Blocks.{Rest}
use Rattle.lalrpop_dense.specs.Internal.Memory.{room}
use Rattle.lalrpop_dense.specs.Internal.Standing.{IsReached, spare_of}
use Rattle.lalrpop_dense.proofs.Standings.{reached_start, all_spare}
use Rattle.lalrpop_dense.proofs.linear_matches.LinearMatches.new.Goals as goal

pub invariant_of-result : goal.invariant_of-result
invariant_of-result c =
    subst (λ (r : Rest). IsReached r.automaton r.text r.at 0 0 c.in_ok-memo.memo) (sym c.new-2.ensures.start)
    (reached_start c.args.dense.now c.args.text.now c.in_ok-memo.memo c.utf8.text (omega arith) (omega (arith, c.in_ok-memo.ensures.places))
    (rw (← c.dfa.ensures.same) c.in_ok-memo.ensures.open) c.in_ok-memo.ensures.nothing)

pub returns-clause-spare : goal.returns-clause-spare
returns-clause-spare c =
    let most : room c.in_ok-memo.memo ≤ open_states c.args.dense.now * (length c.args.text.now / 64 + 1) = rw (← c.dfa.ensures.same) c.in_ok-memo.ensures.room in
    subst (λ (r : Rest). spare_of r.text (length c.args.text.now) 0 c.in_ok-memo.memo ≤ length (chars c.args.text.now) + length c.args.text.now + open_states c.args.dense.now * (length c.args.text.now + 64))
    (sym c.new-2.ensures.start)
    (all_spare c.args.text.now c.in_ok-memo.memo (open_states c.args.dense.now) (length c.args.text.now / 64 + 1) most refl)
