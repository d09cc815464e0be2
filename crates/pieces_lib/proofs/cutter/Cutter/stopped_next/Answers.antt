use Rattle.std.proofs.Common.{◌≡◌, false, inl, sym, subst, ◌∙◌}
use Rattle.bajofeki.specs.Begun.{IsBad, IsBegun, NoCharacter}
use Rattle.pieces_lib.specs.CutEnds.{IsFound}
use Rattle.pieces_lib.proofs.FoundLaws.{found_next, may_wait}
use Rattle.pieces_lib.proofs.cutter.Cutter.stopped_next.Goals as goal
use Rattle.pieces_lib.proofs.cutter.Cutter.stopped_next.Goals.{else-not-is_ended-via-then-not-is_ended+else-is_begun, else-not-is_ended-via-else-not-is_ended}

pub returns-then-is_begun-clause-none : goal.returns-then-is_begun-clause-none
returns-then-is_begun-clause-none c = inl (subst IsBegun c.rest.ensures.rest (c.is_begun.ensures.yes c.if-is_begun.true))

pub returns-then-not-begins_fault-clause-none : goal.returns-then-not-begins_fault-clause-none
returns-then-not-begins_fault-clause-none c = may_wait c.args.self.now.incoming.chunks (c.begins_fault.ensures.no c.if-not-begins_fault.true)

pub returns-clause-fault : goal.returns-clause-fault
returns-clause-fault c =
    let chunks = c.args.self.now.incoming.chunks in
    let begins = c.begins_fault.ensures.yes c.if-not-begins_fault.false in
    let shown = c.stopped.ensures.stopped in
    let bad : chunks.is_ended ≡ false → NoCharacter chunks.rest → IsBad chunks.rest =
    elim c.else-not-is_ended.branch [
      | else-not-is_ended-via-then-not-is_ended+else-is_begun w ↦ (
          λ goes none. subst IsBad w.rest.ensures.rest
          (w.is_begun.ensures.no w.if-is_begun.false (λ empty. begins.0 (sym w.rest.ensures.rest ∙ empty)) (subst NoCharacter (sym w.rest.ensures.rest) none))
          )
      | else-not-is_ended-via-else-not-is_ended w ↦ (λ goes none. absurd (cc (c.is_ended.ensures.ended, w.if-not-is_ended.false, goes)))
    ] in
    (shown.0, (shown.1.0, (found_next chunks shown.0 bad (subst (λ t. IsFound t shown.0) c.rest-2.ensures.rest shown.1.1), begins)))
