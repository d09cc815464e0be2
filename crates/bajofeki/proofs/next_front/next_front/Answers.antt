use Rattle.std.proofs.Common.{inr}
use Rattle.lalrpop_rules.specs.Modes.{trees_in}
use Rattle.lalrpop_dense.specs.Rules.{IsBuiltFrom}
use Rattle.bajofeki.specs.Internal.Parts.{text_in}
use Rattle.bajofeki.proofs.AheadLaws.{found_first, first_given}
use Rattle.bajofeki.proofs.next_front.next_front.Goals as goal

pub returns-in-Some-clause-given : goal.returns-in-Some-clause-given
returns-in-Some-clause-given c =
    let r = c.args.lexer.now in
    let d = c.lexer.result.now.automaton in
    let found = found_first r c.args.mode c.args.bytes.now c.args.part.now c.args.ahead.now c.requires.found c.in-Some.ensures.some in
    let first = c.in-Some.ensures.first d (text_in c.args.bytes.now c.args.part.now) (found.1 d c.lexer.ensures.automaton) in
    let built : IsBuiltFrom (trees_in r c.args.mode) r.precedences d =
    rw (← c.lexer.ensures.trees, ← c.lexer.ensures.precedences, ← c.dense-dense.ensures.same) c.dense-dense.ensures.built in
    first_given r c.args.mode c.args.bytes.now c.args.part.now c.args.is_ended d c.in-Some.piece c.next.new.self c.requires.part built found.0 first

pub returns-in-Some-clause-found : goal.returns-in-Some-clause-found
returns-in-Some-clause-found c =
    let r = c.args.lexer.now in
    let own = c.lexer.result.now.automaton in
    let text = text_in c.args.bytes.now c.args.part.now in
    let found = found_first r c.args.mode c.args.bytes.now c.args.part.now c.args.ahead.now c.requires.found c.in-Some.ensures.some in
    let first = c.in-Some.ensures.first own text (found.1 own c.lexer.ensures.automaton) in
    inr (found.0, inr (first.1.1.boundary.0, λ d is. (c.in-Some.ensures.first d text (found.1 d is)).1.2))
