use Rattle.std.proofs.Common.{arith, ◌∙◌, ◌==◌, ap, ltb-true}
use Rattle.std.specs.List.{list_any}
use Rattle.lalrpop_dfa.proofs.FullSets.{live_pattern_found, reject_below}
use Rattle.lalrpop_dfa.proofs.items.ItemSet.has_reject.Goals as goal

pub returns-then-pattern-self : goal.returns-then-pattern-self
returns-then-pattern-self c =
    live_pattern_found c.self.inside.patterns c.self.inside.live_patterns.items c.self.inside.live.items c.self.invariant.split c.args.pattern c.contains.result c.args.self.now c.self.view_is c.if-pattern-self.true
    (c.contains.ensures.value ∙ ap (list_any (λ j. j == c.args.pattern)) c.deref.ensures.value)

pub returns-else-pattern-self : goal.returns-else-pattern-self
returns-else-pattern-self c = (
  λ t. absurd (omega (arith, ltb-true c.args.pattern c.self.inside.patterns t)),
  λ h. absurd (omega (arith, reject_below c.self.inside.patterns c.self.inside.live_patterns.items c.self.inside.live.items c.self.invariant.split c.args.pattern c.args.self.now c.self.view_is h)),
)
