use Rattle.std.proofs.Common.{refl, subst}
use Rattle.std.specs.Option.{option_map}
use Rattle.std.specs.Str.{chars}
use Rattle.lalrpop_hir.specs.Longest.{IsLongest}
use Rattle.bajofeki.proofs.Fronts.{only_strongest}
use Rattle.bajofeki.proofs.Settling.{settled_longest}
use Rattle.bajofeki.proofs.settled_token.SettledToken.of.Goals as goal

pub returns-in-Some-clause-token : goal.returns-in-Some-clause-token
returns-in-Some-clause-token c =
    let lexer = c.args.lexer.now in
    let h = c.dense.ensures.built.stands in
    let longest = subst (λ o. IsLongest lexer.trees lexer.precedences c.args.text.now (option_map (λ m. (m.0, m.1.now)) o)) c.in-Some.is
    (c.least_settled-found.ensures.answer c.dense.result.now lexer.trees lexer.precedences c.of-walker.ensures.same h) in
    (refl, longest, only_strongest c.dense.result.now lexer.trees lexer.precedences (chars c.in-Some.slice.now) c.in-Some.index h longest.2.0)

pub returns-in-Some-clause-settled : goal.returns-in-Some-clause-settled
returns-in-Some-clause-settled c = λ other alike longest is.
    let lexer = c.args.lexer.now in
    let found = c.least_settled-found in
    settled_longest lexer.trees lexer.precedences c.args.text.now other found.result.reach longest
    (found.ensures.settled c.dense.result.now lexer.trees lexer.precedences c.of-walker.ensures.same c.dense.ensures.built.stands) alike is

pub returns-in-Some-clause-least : goal.returns-in-Some-clause-least
returns-in-Some-clause-least c =
    let lexer = c.args.lexer.now in
    c.least_settled-found.ensures.least c.dense.result.now lexer.trees lexer.precedences c.of-walker.ensures.same c.dense.ensures.trim c.dense.ensures.built.stands

pub returns-in-None-clause-none : goal.returns-in-None-clause-none
returns-in-None-clause-none c =
    let lexer = c.args.lexer.now in
    subst (λ o. IsLongest lexer.trees lexer.precedences c.args.text.now (option_map (λ m. (m.0, m.1.now)) o)) c.in-None.is
    (c.least_settled-found.ensures.answer c.dense.result.now lexer.trees lexer.precedences c.of-walker.ensures.same c.dense.ensures.built.stands)

pub returns-in-None-clause-settled : goal.returns-in-None-clause-settled
returns-in-None-clause-settled c = λ other alike longest is.
    let lexer = c.args.lexer.now in
    let found = c.least_settled-found in
    settled_longest lexer.trees lexer.precedences c.args.text.now other found.result.reach longest
    (found.ensures.settled c.dense.result.now lexer.trees lexer.precedences c.of-walker.ensures.same c.dense.ensures.built.stands) alike is

pub returns-in-None-clause-least : goal.returns-in-None-clause-least
returns-in-None-clause-least c =
    let lexer = c.args.lexer.now in
    c.least_settled-found.ensures.least c.dense.result.now lexer.trees lexer.precedences c.of-walker.ensures.same c.dense.ensures.trim c.dense.ensures.built.stands
