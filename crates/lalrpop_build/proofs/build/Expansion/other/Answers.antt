use Rattle.std.proofs.Common.{◌≡◌, ℕ, [], map, arith, refl, ap}
use Rattle.lalrpop_build.proofs.Dead.{takes_none}
use Rattle.lalrpop_build.proofs.StageLaws.{expansion_grows, target_if_added}
use Rattle.lalrpop_build.proofs.build.Expansion.other.Goals as goal

pub successor-requires-clause-inside : goal.successor-requires-clause-inside
successor-requires-clause-inside c = rw (← c.self.view_is) at c.requires.at.inside

pub successor-requires-clause-transitions : goal.successor-requires-clause-transitions
successor-requires-clause-transitions c = takes_none c.self.inside.automata.graphs c.self.invariant.automata_are c.args.set.now c.new-origin.result.1 [] (let v : c.new-origin.result.1 ≡ 4294967295 = ap (λ (o : ℕ × ℕ). o.1) c.new-origin.ensures in omega (arith, v)) refl

pub invariant_of-self : goal.invariant_of-self
invariant_of-self c = expansion_grows _ _ _ _ _ _ _ c.args.set.now c.self.invariant (rw (← c.self.view_is) at c.requires.at.here) c.successor.ensures.kept

pub returns-clause-automata : goal.returns-clause-automata
returns-clause-automata c = rw (← c.self.view_is) c.self.invariant.automata_are

pub returns-clause-target : goal.returns-clause-target
returns-clause-target c =
    rw (← c.self.view_is)
    (target_if_added c.self.inside.automata (map (λ p. p.0) c.self.inside.precedences.now) c.self.inside.sets c.successor.new.self c.self.inside.number c.self.inside.scratch c.self.inside.writer c.args.set.now c.new-origin.result 4294967295 c.successor.result c.new-origin.ensures c.successor.ensures.added)
