use Rattle.std.proofs.Common.{◌∙◌, ◌≡◌, ap, subst, length, IfOk}
use Rattle.std.specs.List.{range_with_len}
use Rattle.lalrpop_dfa.specs.LiveItems.{live_of}
use Rattle.lalrpop_dfa.specs.Split.{still_live, full}
use Rattle.lalrpop_build.proofs.Sets.{closed_ascends}
use Rattle.lalrpop_build.proofs.LiveSets.{all_live_patterns, closed_within, split_closed}
use Rattle.lalrpop_build.proofs.closure.closure.Goals as goal

pub set_of-requires-clause-within : goal.set_of-requires-clause-within
set_of-requires-clause-within c = closed_within c.args.nfas.now c.args.given.now c.deref-2.result.now (c.deref-2.ensures.value ∙ c.in_ok-follow_all.ensures)

pub set_of-requires-clause-live_patterns : goal.set_of-requires-clause-live_patterns
set_of-requires-clause-live_patterns c = rw (c.deref.ensures.value, c.in_ok-all.ensures) (all_live_patterns (length c.args.nfas.now))

pub returns : goal.returns
returns c =
    let all : c.deref.result.now ≡ range_with_len 0 (length c.args.nfas.now) = c.deref.ensures.value ∙ c.in_ok-all.ensures in
    subst (λ t. IfOk c.set_of.result (λ s. s ≡ t))
    (ap (λ sp. full (length c.args.nfas.now) (still_live c.deref-2.result.now sp) (live_of c.deref-2.result.now)) all ∙ split_closed c.args.nfas.now c.args.given.now c.deref-2.result.now (c.deref-2.ensures.value ∙ c.in_ok-follow_all.ensures))
    c.set_of.ensures

pub set_of-requires-clause-ascending : goal.set_of-requires-clause-ascending
set_of-requires-clause-ascending c = rw (c.deref-2.ensures.value, c.in_ok-follow_all.ensures) (closed_ascends c.args.nfas.now c.args.given.now)
