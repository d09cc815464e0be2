use Rattle.std.proofs.Common.{arith}
use Rattle.std.specs.Prelude.{Some, None}
use Rattle.lalrpop_lexer.specs.Matching.{rest_of}
use Rattle.lalrpop_rules.proofs.Finding.{found_for, char_passed, match_pays, char_pays}
use Rattle.lalrpop_rules.proofs.front.next_or_pass.Goals as goal

pub returns-in-Some-clause-answer : goal.returns-in-Some-clause-answer
returns-in-Some-clause-answer c =
    let m = c.args.matches.now in
    found_for m.automaton (rest_of m) (Some c.in-Some.found) c.in-Some.ensures.answer

pub returns-in-Some-clause-paid : goal.returns-in-Some-clause-paid
returns-in-Some-clause-paid c =
    let e = c.in-Some.ensures in
    match_pays c.args.matches.now c.next_match.new.self c.in-Some.found.1.now c.args.steps.now c.next_match.new.steps e.prefix.0 e.prefix.1 e.goes_on
    e.never_falls e.paid

pub returns-in-None-clause-answer : goal.returns-in-None-clause-answer
returns-in-None-clause-answer c =
    let m = c.args.matches.now in
    found_for m.automaton (rest_of m) None c.in-None.ensures.answer

pub returns-in-None-clause-passes : goal.returns-in-None-clause-passes
returns-in-None-clause-passes c =
    let p = c.pass_char in
    (char_passed c.args.matches.now c.next_match.new.self p.new.self p.result c.requires.some.0 c.in-None.ensures.stays p.ensures.first p.ensures.passes p.ensures.end).0

pub returns-in-None-clause-paid : goal.returns-in-None-clause-paid
returns-in-None-clause-paid c =
    let m = c.args.matches.now in
    let e = c.in-None.ensures in
    let p = c.pass_char in
    let passed = char_passed m c.next_match.new.self p.new.self p.result c.requires.some.0 e.stays p.ensures.first p.ensures.passes p.ensures.end in
    char_pays m p.new.self c.next_match.new.self.spare c.args.steps.now c.next_match.new.steps c.requires.some.1 passed.0 passed.1 e.never_falls
    (omega (arith, e.paid))
