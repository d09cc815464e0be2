use Rattle.std.proofs.Common.{◌≡◌, ◌↔◌, true, false, length, sym, subst, ◌∙◌}
use Rattle.std.specs.Prelude.{None, IsTrue, ◌==◌}
use Rattle.std.proofs.lemmas.Bool.{eqb-true, eqb-false}
use Rattle.lalrpop_hir.specs.Longest.{IsLongest}
use Rattle.lalrpop_hir.specs.Tokens.{IsToken}
use Rattle.lalrpop_dense.specs.Rules.{Rules}
use Rattle.lalrpop_dense.specs.Neighbours.{IsWhole}
use Rattle.lalrpop_lexer.specs.Joined.{plain}
use Rattle.lalrpop_lexer.proofs.Joining.{decided_by_length, found_if_whole}
use Rattle.lalrpop_lexer.proofs.neighbours.Neighbours.is_whole.Goals as goal

pub returns-then-eq : goal.returns-then-eq
returns-then-eq c =
    let rules = c.self.inside.lexer.now in
    let is : IsToken rules.trees rules.precedences c.args.token.now.slice.now 0 c.in-Some.found = c.in-Some.ensures.token in
    let same : c.in-Some.found.index ≡ c.args.token.now.index = eqb-true c.in-Some.found.index c.args.token.now.index (sym c.eq.ensures ∙ c.if-eq.true) in
    subst (λ (r : Rules). IsTrue (length c.in-Some.found.slice.now == length c.args.token.now.slice.now) ↔ IsWhole r.trees r.precedences (plain c.args.token.now)) c.self.view_is
    (decided_by_length rules.trees rules.precedences (plain c.args.token.now) c.in-Some.found is same)

pub returns-else-eq : goal.returns-else-eq
returns-else-eq c =
    let rules = c.self.inside.lexer.now in
    let is : IsToken rules.trees rules.precedences c.args.token.now.slice.now 0 c.in-Some.found = c.in-Some.ensures.token in
    let not = subst (λ (r : Rules). ¬ IsWhole r.trees r.precedences (plain c.args.token.now)) c.self.view_is
    (λ whole. eqb-false c.in-Some.found.index c.args.token.now.index (sym c.eq.ensures ∙ c.if-eq.false) (found_if_whole rules.trees rules.precedences (plain c.args.token.now) c.in-Some.found is whole).0) in
    (λ e. (let no : false ≡ true = sym c.if-eq.false ∙ e in absurd (cc)), λ whole. absurd (not whole))

pub returns-in-None : goal.returns-in-None
returns-in-None c =
    let rules = c.self.inside.lexer.now in
    let none : IsLongest rules.trees rules.precedences c.args.token.now.slice.now None = c.in-None.ensures.none in
    let not = subst (λ (r : Rules). ¬ IsWhole r.trees r.precedences (plain c.args.token.now)) c.self.view_is
    (λ whole. none c.args.token.now.slice.now whole.0.0) in
    (λ e. (let no : false ≡ true = e in absurd (cc)), λ whole. absurd (not whole))
