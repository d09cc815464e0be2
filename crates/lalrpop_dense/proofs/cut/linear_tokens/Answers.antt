use Rattle.std.proofs.Common.{◌≡◌, ◌∙◌, ap, refl, sym, subst}
use Rattle.std.specs.Prelude.{Some}
use Rattle.lalrpop_dense.specs.Matching.{Matching}
use Rattle.lalrpop_dense.specs.Cutting.{Cutting, start_of}
use Rattle.lalrpop_dense.proofs.cut.linear_tokens.Goals as goal

begins : (c : goal.After-new-2) → c.new-2.result ≡ start_of c.args.dense.now c.args.text.now (Some c.in_ok-matches.matches.spare)
begins c =
    c.new-2.ensures.start ∙ ap (λ (m : Matching). start_of m.automaton c.args.text.now (Some c.in_ok-matches.matches.spare)) c.in_ok-matches.ensures.start

pub returns-clause-start : goal.returns-clause-start
returns-clause-start c = subst (λ (x : Cutting). x ≡ start_of c.args.dense.now c.args.text.now x.spare) (sym (begins c)) refl

pub returns-clause-spare : goal.returns-clause-spare
returns-clause-spare c = rw (begins c) c.in_ok-matches.ensures.spare
