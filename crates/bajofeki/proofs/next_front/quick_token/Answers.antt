use Rattle.std.proofs.Common.{inr}
use Rattle.lalrpop_rules.specs.Modes.{trees_in}
use Rattle.lalrpop_dense.specs.Rules.{IsBuiltFrom}
use Rattle.bajofeki.specs.Internal.Ahead.{IsFirst}
use Rattle.bajofeki.proofs.AheadLaws.{end_told}
use Rattle.bajofeki.proofs.next_front.quick_token.Goals as goal

pub returns-in-Some-clause-told : goal.returns-in-Some-clause-told
returns-in-Some-clause-told c =
    let r = c.args.lexer.now in
    let d = c.lexer-own.result.now.automaton in
    let text = c.args.text.now in
    let first : IsFirst d text c.in-Some.piece c.first_of.new.self = c.in-Some.ensures.first d c.lexer-own.ensures.automaton in
    let built : IsBuiltFrom (trees_in r c.args.mode) r.precedences d =
    rw (← c.lexer-own.ensures.trees, ← c.lexer-own.ensures.precedences, ← c.dense-dense.ensures.same) c.dense-dense.ensures.built in
    end_told d (trees_in r c.args.mode) r.precedences text c.in-Some.piece first.0 built c.utf8.text first.1.1 first.1.0

pub returns-in-Some-clause-found : goal.returns-in-Some-clause-found
returns-in-Some-clause-found c =
    let own = c.lexer-own.result.now.automaton in
    let text = c.args.text.now in
    let first : IsFirst own text c.in-Some.piece c.first_of.new.self = c.in-Some.ensures.first own c.lexer-own.ensures.automaton in
    inr (first.1.1.boundary.0, λ d is. (c.in-Some.ensures.first d is).1.2)
