use Rattle.std.proofs.Common.{length, inl, sym, ◌∙◌}
use Rattle.std.proofs.lemmas.Bool.{leb-true}
use Rattle.bajofeki.proofs.Chunking.{none_comes, none_follows, some_there}
use Rattle.bajofeki.proofs.stream.nothing_matches.Goals as goal

pub returns-then-is_some-clause-no : goal.returns-then-is_some-clause-no
returns-then-is_some-clause-no c = λ _.
    let lexer = c.args.lexer.now in
    let found = c.longest_settled-found in
    let stands = c.dense.ensures.built.stands in
    inl (some_there lexer.trees lexer.precedences c.args.text.now found.result.longest (sym c.is_some.ensures ∙ c.if-is_some.true) (found.ensures.answer c.dense.result.now lexer.trees lexer.precedences c.of-walker.ensures.same stands))

pub returns-then-is_last-clause-yes : goal.returns-then-is_last-clause-yes
returns-then-is_last-clause-yes c = λ yes tail none.
    let lexer = c.args.lexer.now in
    let found = c.longest_settled-found in
    let stands = c.dense.ensures.built.stands in
    none_follows lexer.trees lexer.precedences c.args.text.now tail found.result.longest (sym c.is_some.ensures ∙ c.if-is_some.false)
    (found.ensures.answer c.dense.result.now lexer.trees lexer.precedences c.of-walker.ensures.same stands) c.utf8.text (none yes)

pub returns-else-is_last-clause-yes : goal.returns-else-is_last-clause-yes
returns-else-is_last-clause-yes c = λ yes tail none.
    let lexer = c.args.lexer.now in
    let found = c.longest_settled-found in
    let stands = c.dense.ensures.built.stands in
    none_comes lexer.trees lexer.precedences c.args.text.now tail found.result.longest found.result.reach (sym c.is_some.ensures ∙ c.if-is_some.false)
    (found.ensures.answer c.dense.result.now lexer.trees lexer.precedences c.of-walker.ensures.same stands) (found.ensures.settled c.dense.result.now lexer.trees lexer.precedences c.of-walker.ensures.same stands)
    (leb-true found.result.reach (length c.args.text.now) yes)
