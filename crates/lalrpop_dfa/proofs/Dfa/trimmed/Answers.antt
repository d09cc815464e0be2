use Rattle.std.proofs.Common.{◌≡◌, ◌<◌, ◌≤◌, ℕ, Bool, List, length, true, sym, ap, ◌∙◌, subst, arith}
use Rattle.std.specs.Prelude.{Some}
use Rattle.lalrpop_dfa.specs.Internal.Marks.{AreLive}
use Rattle.lalrpop_dfa.specs.Stored.{IsRejecting}
use Rattle.lalrpop_dfa.specs.Lookahead.{IsTrimmed}
use Rattle.lalrpop_dfa.proofs.Marking.{mark_at}
use Rattle.lalrpop_dfa.specs.Dfa.{Row}
use Rattle.lalrpop_dfa.proofs.Trimming.{IsTrimmedTo, trim_end, trim_kept, trim_rejected, trimmed_listed, trimmed_recognizes, trimmed_well}
use Rattle.lalrpop_dfa.proofs.Dfa.trimmed.Goals as goal
use Rattle.lalrpop_dfa.proofs.Dfa.trimmed.Goals.{then-not-index, else-not-index}

pub loop-number-preserved : goal.loop-number-preserved
loop-number-preserved c =
    let d = c.self.inside.rows in
    let e = c.loop-number.rows in
    let live = c.in_ok-live.live.items in
    let n = c.loop-number.number in
    let h = c.loop-number.invariant in
    let within : n < length live = omega (arith, c.loop-number-test.true, c.len-number-end.ensures, c.in_ok-live.live.ok.0) in
    elim c.if-not-index.branch [
      | then-not-index w ↦
          rw w.rows-is
          (trim_rejected d e live n h w.reject.new.self
          (λ m. absurd (let f : Some c.index.result.now ≡ Some true = sym (mark_at live n c.index.result.now within c.index.ensures) ∙ m in let e = w.if-not-index.true in cc))
          (subst (λ k. IsRejecting e k w.reject.new.self) w.new.ensures.value w.reject.ensures))
      | else-not-index w ↦ rw w.rows-is (trim_kept d e live n h (mark_at live n c.index.result.now within c.index.ensures ∙ ap (λ b. Some b) w.if-not-index.false))
    ]

is_trimmed : (d0 d e : List Row) (live : List Bool) (count n : ℕ) → d ≡ d0 → AreLive d0 live → count ≡ length live → count ≤ n → IsTrimmedTo d e live n → IsTrimmed d e
is_trimmed d0 d e live count n same are is all h =
    let here : AreLive d live = subst (λ x. AreLive x live) (sym same) are in
    trim_end d e live n (omega (arith, here.same_length)) here h

pub invariant_of-result : goal.invariant_of-result
invariant_of-result c = (
  trimmed_well c.self.inside.rows c.loop-number.rows (is_trimmed c.args.self c.self.inside.rows c.loop-number.rows c.in_ok-live.live.items c.len-number-end.result c.loop-number.number c.self.view_is c.in_ok-live.ensures.marks (c.len-number-end.ensures ∙ c.in_ok-live.live.ok.0) c.loop-number-test.false c.loop-number.invariant) c.self.invariant.0,
  trimmed_listed c.self.inside.rows c.loop-number.rows (is_trimmed c.args.self c.self.inside.rows c.loop-number.rows c.in_ok-live.live.items c.len-number-end.result c.loop-number.number c.self.view_is c.in_ok-live.ensures.marks (c.len-number-end.ensures ∙ c.in_ok-live.live.ok.0) c.loop-number-test.false c.loop-number.invariant) c.self.inside.places.items c.self.inside.lists.items c.self.invariant.1,
)

pub returns-clause-trimmed : goal.returns-clause-trimmed
returns-clause-trimmed c =
    rw (← c.self.view_is)
    (is_trimmed c.args.self c.self.inside.rows c.loop-number.rows c.in_ok-live.live.items c.len-number-end.result c.loop-number.number c.self.view_is c.in_ok-live.ensures.marks (c.len-number-end.ensures ∙ c.in_ok-live.live.ok.0) c.loop-number-test.false c.loop-number.invariant)

pub returns-clause-recognizes : goal.returns-clause-recognizes
returns-clause-recognizes c =
    rw (← c.self.view_is)
    (trimmed_recognizes c.self.inside.rows c.loop-number.rows (is_trimmed c.args.self c.self.inside.rows c.loop-number.rows c.in_ok-live.live.items c.len-number-end.result c.loop-number.number c.self.view_is c.in_ok-live.ensures.marks (c.len-number-end.ensures ∙ c.in_ok-live.live.ok.0) c.loop-number-test.false c.loop-number.invariant)
    c.self.invariant.0)
