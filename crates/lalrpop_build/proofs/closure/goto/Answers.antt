use Rattle.std.proofs.Common.{◌∙◌, ◌≡◌, ℕ, List, ap, sym, subst}
use Rattle.std.specs.List.{Contains}
use Rattle.std.proofs.lemmas.Result.{IfOk-weaker}
use Rattle.lalrpop_dfa.specs.Ascending.{Item, AreAscendingItems, AreByPattern}
use Rattle.lalrpop_build.specs.Internal.Given.{AreItemsOf}
use Rattle.lalrpop_dfa.specs.LiveItems.{live_of}
use Rattle.lalrpop_dfa.specs.Split.{still_live, full}
use Rattle.lalrpop_build.specs.Internal.Subsets.{move}
use Rattle.lalrpop_build.specs.Internal.Transitions.{AreTransitions}
use Rattle.lalrpop_build.proofs.Moving.{targets_inside}
use Rattle.lalrpop_build.proofs.Sets.{closed_ascends}
use Rattle.lalrpop_build.proofs.LiveSets.{live_inside, moved_within, moved_is, edges_leave_live, targets_alike, closed_from_live}
use Rattle.lalrpop_build.proofs.TransitionMoves.{leads_move}
use Rattle.lalrpop_build.proofs.closure.goto.Goals as goal

pub targets_by-requires-clause-inside : goal.targets_by-requires-clause-inside
targets_by-requires-clause-inside c =
    subst (AreItemsOf c.args.nfas.now) (sym c.live.ensures.value)
    (live_inside c.args.nfas.now c.requires.automata c.live_patterns-patterns.result.0 c.live_patterns-patterns.result.1.now (live_of c.args.set.now) c.live_patterns-patterns.ensures.split (subst (AreItemsOf c.args.nfas.now) c.live_patterns-patterns.ensures.items c.requires.inside))

pub targets_by-requires-clause-ascending : goal.targets_by-requires-clause-ascending
targets_by-requires-clause-ascending c = subst AreAscendingItems (sym c.live.ensures.value) c.live_patterns-patterns.ensures.split.ascending

pub targets_by-requires-clause-leave : goal.targets_by-requires-clause-leave
targets_by-requires-clause-leave c l h =
    subst (λ (xs : List Item). Contains xs l.item) (sym c.live.ensures.value)
    (edges_leave_live c.args.nfas.now c.requires.automata c.live_patterns-patterns.result.0 c.live_patterns-patterns.result.1.now (live_of c.args.set.now) c.live_patterns-patterns.ensures.split c.requires.taken.0 c.args.transitions.now
    (subst (λ (s : List Item). AreTransitions c.args.nfas.now s c.requires.taken.0 c.args.transitions.now) c.live_patterns-patterns.ensures.items c.requires.taken.1) l h)

pub follow_all-requires-clause-inside : goal.follow_all-requires-clause-inside
follow_all-requires-clause-inside c =
    let ns = c.args.nfas.now in
    let n = c.live_patterns-patterns.result.0 in
    let live_patterns = c.live_patterns-patterns.result.1.now in
    let live = (live_of c.args.set.now) in
    let v : ℕ = c.requires.taken.0 in
    let held : AreItemsOf ns (full n live_patterns live) = subst (AreItemsOf ns) c.live_patterns-patterns.ensures.items c.requires.inside in
    let have : AreTransitions ns (full n live_patterns live) v c.args.transitions.now = subst (λ (s : List Item). AreTransitions ns s v c.args.transitions.now) c.live_patterns-patterns.ensures.items c.requires.taken.1 in
    let alike = targets_alike ns c.requires.automata n live_patterns live c.live_patterns-patterns.ensures.split v c.args.transitions.now c.live.result.now c.targets_by.new.targets.items held have c.live.ensures.value c.in_ok-targets_by.ensures.targets in
    subst (AreItemsOf ns) (sym c.deref.ensures.value) (λ z h. targets_inside ns v live c.requires.automata (live_inside ns c.requires.automata n live_patterns live c.live_patterns-patterns.ensures.split held) z ((alike z).0 h))

pub follow_all-requires-clause-by_pattern : goal.follow_all-requires-clause-by_pattern
follow_all-requires-clause-by_pattern c = subst AreByPattern (sym c.deref.ensures.value) c.in_ok-targets_by.ensures.by_pattern

pub set_of-requires-clause-within : goal.set_of-requires-clause-within
set_of-requires-clause-within c =
    let ns = c.args.nfas.now in
    let n = c.live_patterns-patterns.result.0 in
    let live_patterns = c.live_patterns-patterns.result.1.now in
    let live = (live_of c.args.set.now) in
    let v : ℕ = c.requires.taken.0 in
    let held : AreItemsOf ns (full n live_patterns live) = subst (AreItemsOf ns) c.live_patterns-patterns.ensures.items c.requires.inside in
    let have : AreTransitions ns (full n live_patterns live) v c.args.transitions.now = subst (λ (s : List Item). AreTransitions ns s v c.args.transitions.now) c.live_patterns-patterns.ensures.items c.requires.taken.1 in
    let keys = closed_from_live ns c.requires.automata n live_patterns live c.live_patterns-patterns.ensures.split v c.args.transitions.now c.live.result.now c.targets_by.new.targets.items c.deref.result.now c.deref-2.result.now held have c.live.ensures.value c.in_ok-targets_by.ensures.targets
    c.deref.ensures.value (c.deref-2.ensures.value ∙ c.in_ok-follow_all.ensures) in
    moved_within ns c.requires.automata n live_patterns live c.live_patterns-patterns.ensures.split v held c.deref-2.result.now keys

pub set_of-requires-clause-ascending : goal.set_of-requires-clause-ascending
set_of-requires-clause-ascending c = rw (c.deref-2.ensures.value, c.in_ok-follow_all.ensures) (closed_ascends c.args.nfas.now c.deref.result.now)

pub returns : goal.returns
returns c =
    let ns = c.args.nfas.now in
    let n = c.live_patterns-patterns.result.0 in
    let live_patterns = c.live_patterns-patterns.result.1.now in
    let live = (live_of c.args.set.now) in
    let v : ℕ = c.requires.taken.0 in
    let items = c.deref-2.result.now in
    let held : AreItemsOf ns (full n live_patterns live) = subst (AreItemsOf ns) c.live_patterns-patterns.ensures.items c.requires.inside in
    let have : AreTransitions ns (full n live_patterns live) v c.args.transitions.now = subst (λ (s : List Item). AreTransitions ns s v c.args.transitions.now) c.live_patterns-patterns.ensures.items c.requires.taken.1 in
    let keys = closed_from_live ns c.requires.automata n live_patterns live c.live_patterns-patterns.ensures.split v c.args.transitions.now c.live.result.now c.targets_by.new.targets.items c.deref.result.now items held have c.live.ensures.value c.in_ok-targets_by.ensures.targets
    c.deref.ensures.value (c.deref-2.ensures.value ∙ c.in_ok-follow_all.ensures) in
    let to = moved_is ns c.requires.automata n live_patterns live c.live_patterns-patterns.ensures.split v held items keys in
    let is : full n (still_live items c.live_patterns-patterns.result.1.now) (live_of items) ≡ move ns c.args.set.now v = to ∙ ap (λ s. move ns s v) (sym c.live_patterns-patterns.ensures.items) in
    IfOk-weaker c.set_of.result (λ s. s ≡ full n (still_live items c.live_patterns-patterns.result.1.now) (live_of items)) (λ s. (w : ℕ) → AreTransitions ns c.args.set.now w c.args.transitions.now → s ≡ move ns c.args.set.now w)
    (λ s same w are. same ∙ (is ∙ leads_move ns c.args.set.now c.args.transitions.now v w c.requires.taken.1 are)) c.set_of.ensures
