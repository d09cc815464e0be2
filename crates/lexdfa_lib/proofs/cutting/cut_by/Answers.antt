use Rattle.std.proofs.Common.{◌≡◌, ℕ, inr, List, subst, map}
use Rattle.std.proofs.lemmas.Result.{IfOk-weaker}
use Rattle.lalrpop_hir.specs.Tree.{Tree}
use Rattle.lexdfa_lib.specs.Whole.{Token, Cuts}
use Rattle.lexdfa_lib.specs.declared.outcome.Outcome.{Outcome}
use Rattle.lexdfa_lib.proofs.cutting.cut_by.Goals as goal

-- what the lexer's trees cut a text into, these do
cuts_by : (ts us : List Tree) (ps qs text : List ℕ) (tokens : List Token) (o : Outcome) → ts ≡ us → ps ≡ qs → Cuts ts ps text tokens o → Cuts us qs text tokens o
cuts_by ts us ps qs text tokens o e f cuts =
    subst (λ (vs : List Tree). Cuts vs qs text tokens o) e (subst (λ (rs : List ℕ). Cuts ts rs text tokens o) f cuts)

pub returns-in-Ok : goal.returns-in-Ok
returns-in-Ok c =
    let built = c.in-Ok.ensures in
    IfOk-weaker c.cut.result _ _
    (λ answers given bytes terminals. (
      given.0,
      (
        inr (
          c.args.regexs.items,
          (
            map (λ p. p.0) c.args.precedences.items,
            (
              record { terminals = terminals; no_fault = built.no_fault; no_clash = built.no_clash },
              cuts_by _ _ _ _ c.args.text.now given.0 answers.outcome built.trees built.precedences given.1.0,
            ),
          ),
        ),
        given.1.1,
      ),
    ))
    c.cut.ensures
