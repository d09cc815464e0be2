use Rattle.std.proofs.lemmas.Option.{IfSome_then}
use Rattle.lalrpop_rules.specs.Modes.{trees_in}
use Rattle.lalrpop_dense.specs.Rules.{IsBuiltFrom}
use Rattle.bajofeki.proofs.AheadLaws.{first_kept}
use Rattle.bajofeki.proofs.whole.found_kept.Goals as goal

pub returns-in-Some-clause-kept : goal.returns-in-Some-clause-kept
returns-in-Some-clause-kept c =
    let r = c.args.lexer.now in
    let d = c.lexer.result.now.automaton in
    let built : IsBuiltFrom (trees_in r c.args.mode) r.precedences d =
    rw (← c.lexer.ensures.trees, ← c.lexer.ensures.precedences, ← c.dense-dense.ensures.same) c.dense-dense.ensures.built in
    IfSome_then c.kept_token.result c.kept_token.ensures.kept
    (λ k kept. first_kept r c.args.mode d c.args.text.now c.in-Some.token k c.found_token.new.ahead built c.utf8.text (c.in-Some.ensures.first d c.lexer.ensures.automaton) kept)
