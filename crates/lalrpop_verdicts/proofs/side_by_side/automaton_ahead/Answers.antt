use Rattle.std.proofs.Common.{◌≡◌, ◌++◌, ◌∷◌, [], ℕ, length, ◌∙◌, subst, sym, arith}
use Rattle.std.specs.Prelude.{slice_get, IsSomeAnd}
use Rattle.std.proofs.lemmas.Result.{IfOk-weaker}
use Rattle.lalrpop_verdicts.specs.Answers.{accepted_by}
use Rattle.lalrpop_verdicts.specs.Internal.Beside.{AreAhead, IsAhead, row_ahead}
use Rattle.lalrpop_verdicts.proofs.AheadLaws.{ahead_none, ahead_more, ahead_well}
use Rattle.lalrpop_verdicts.proofs.side_by_side.automaton_ahead.Goals as goal

pub loop-number-init : goal.loop-number-init
loop-number-init c = (
  ahead_none c.args.dfa.now c.args.state c.new-rows.result.rows c.write_shifted.new.rows.rows c.new-rows.ensures.rows c.in_ok-write_shifted.ensures.row,
  c.in_ok-write_shifted.ensures.empty,
)

pub write_ahead-requires-clause-empty : goal.write_ahead-requires-clause-empty
write_ahead-requires-clause-empty c = c.loop-number.invariant.1

pub loop-number-preserved : goal.loop-number-preserved
loop-number-preserved c =
    let d = c.args.dfa.now in
    let n = c.loop-number.number in
    let old = c.loop-number.rows.rows in
    let rows = c.write_ahead.new.rows.rows in
    let row = subst (λ (q : ℕ). IsSomeAnd (slice_get d q) (λ r. rows ≡ old ++ row_ahead q r (accepted_by r.kind) ∷ [])) c.new.ensures.value c.in_ok-write_ahead.ensures.row in
    (ahead_more d c.args.state n old rows c.loop-number.invariant.0 row, c.in_ok-write_ahead.ensures.empty)

pub new-requires-2 : goal.new-requires-2
new-requires-2 c =
    let d = c.args.dfa.now in
    let all : c.loop-number.number ≡ length d = omega (arith, c.loop-number.auto.number-end, c.loop-number-test.false, c.states-count.ensures.states.same_length) in
    let rows = subst (λ n. AreAhead d c.args.state n c.loop-number.rows.rows) all c.loop-number.invariant.0 in
    rw c.into_rows.ensures (ahead_well d c.args.state c.loop-number.rows.rows c.states-count.ensures.well_formed c.requires rows)

pub returns : goal.returns
returns c =
    let d = c.args.dfa.now in
    let all : c.loop-number.number ≡ length d = omega (arith, c.loop-number.auto.number-end, c.loop-number-test.false, c.states-count.ensures.states.same_length) in
    let rows = subst (λ n. AreAhead d c.args.state n c.loop-number.rows.rows) all c.loop-number.invariant.0 in
    let is : IsAhead d c.args.state c.loop-number.rows.rows = record { well_formed = c.states-count.ensures.well_formed; within = c.requires; rows = rows } in
    IfOk-weaker c.new-2.result (λ e. e ≡ c.into_rows.result) (IsAhead d c.args.state) (λ e same. subst (IsAhead d c.args.state) (sym (same ∙ c.into_rows.ensures)) is) c.new-2.ensures
