use Rattle.std.proofs.Common.{◌∙◌, ap}
use Rattle.std.specs.Prelude.{Some}
use Rattle.lalrpop_dense.specs.Matching.{Matching, rest_of}
use Rattle.lalrpop_dense.proofs.Blocks.{IsMatch, alone_some, alone_none}
use Rattle.lalrpop_dense.proofs.matches.Matches.next_alone.Goals as goal

alone : (c : goal.After-pass) → IsMatch c.args.self.now c.pass.new.self (Some c.in-Some.found) c.args.steps.now c.longest_counted.new.steps
alone c =
    let e = c.in-Some.ensures in
    alone_some c.args.self.now c.pass.new.self c.dense.result.now c.rest-rest.result.now c.in-Some.found c.args.steps.now c.longest_counted.new.steps
    (c.dense.ensures.same ∙ ap (λ (s : Matching). s.automaton) c.self.view_is) (c.rest-rest.ensures.rest ∙ ap (λ (s : Matching). rest_of s) c.self.view_is)
    e.answer e.prefix c.pass.ensures.passes c.pass.ensures.prepays e.looked e.read

pub returns-in-Some-clause-next : goal.returns-in-Some-clause-next
returns-in-Some-clause-next c = (alone c).0

pub returns-in-Some-clause-paid : goal.returns-in-Some-clause-paid
returns-in-Some-clause-paid c = (alone c).1

pub returns-in-None-clause-next : goal.returns-in-None-clause-next
returns-in-None-clause-next c =
    let e = c.in-None.ensures in
    (alone_none c.args.self.now c.dense.result.now c.rest-rest.result.now c.args.steps.now c.longest_counted.new.steps
    (c.dense.ensures.same ∙ ap (λ (s : Matching). s.automaton) c.self.view_is) (c.rest-rest.ensures.rest ∙ ap (λ (s : Matching). rest_of s) c.self.view_is)
    e.answer e.never_falls e.cost).0
