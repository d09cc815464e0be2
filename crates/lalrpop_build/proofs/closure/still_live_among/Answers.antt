use Rattle.std.proofs.Common.{◌≡◌, ◌≢◌, ◌∙◌, ℕ, get_or, rules, append-nil, sym, ap, subst}
use Rattle.std.specs.Prelude.{slice_get, Some}
use Rattle.std.specs.declared.cmp.Ordering.TheVariants.{Less}
use Rattle.lalrpop_dfa.specs.Ascending.{Item, item_cmp}
use Rattle.lalrpop_dfa.specs.Split.{AreBefore}
use Rattle.lalrpop_hir.specs.States.{reject_state}
use Rattle.lalrpop_build.proofs.StillLive.{still_live_more}
use Rattle.lalrpop_build.proofs.closure.still_live_among.Goals as goal
use Rattle.lalrpop_build.proofs.closure.still_live_among.Goals.{then-ne+in_ok-push, else-ne}

-- the REJECT item of a pattern
abbrev at : ℕ → Item
at i = (i, reject_state)

pub loop-pattern-preserved : goal.loop-pattern-preserved
loop-pattern-preserved c =
    let reject : c.new-reject.result ≡ at (get_or c.args.live_patterns.now c.loop-pattern.pattern-index 0) = c.new-reject.ensures.value ∙ ap at c.new.ensures.value in
    still_live_more c.args.items.now c.args.live_patterns.now c.loop-pattern.pattern-index c.loop-pattern.place c.place_of-place.result c.loop-pattern.still.items c.if-ne.still.items
    c.get.result _ c.ne.result c.requires.ascending c.requires.rising c.loop-pattern.invariant (search rules)
    c.place_of-place.ensures.within (subst (AreBefore c.args.items.now c.place_of-place.result) reject c.place_of-place.ensures.before) (subst (λ (x : Item). (y : Item) → slice_get c.args.items.now c.place_of-place.result ≡ Some y → item_cmp y x ≢ Less) reject c.place_of-place.ensures.next) reject c.get.ensures.lookup.3 c.ne.ensures
    (elim c.if-ne.branch [
      | then-ne+in_ok-push w ↦ rw (w.still-is, w.if-ne.true) w.in_ok-push.ensures.items
      | else-ne w ↦ rw (w.still-is, w.if-ne.false) (sym (append-nil c.loop-pattern.still.items))
    ])
