use Rattle.std.proofs.Common.{◌≡◌, ◌∙◌, ℕ, List, Option, Some, None, sym, ap, subst}
use Rattle.std.specs.Prelude.{IfSome, slice_get}
use Rattle.std.proofs.lemmas.Result.{IfOk-weaker}
use Rattle.lalrpop_hir.specs.Tree.{Tree}
use Rattle.lalrpop_hir.specs.Winners.{IsOnlyStrongest}
use Rattle.lalrpop_dfa.specs.Dfa.{Row, after, IsRightKind, RecognizesAll}
use Rattle.lalrpop_dfa.specs.declared.Kind.{Kind}
use Rattle.lalrpop_dfa.specs.declared.Kind.TheVariants.{Accepts, Reject, Neither}
use Rattle.lalrpop_dfa.proofs.EdgeTargets.{the_some}
use Rattle.lalrpop_verdicts.specs.Answers.{accepted_by, accepted_at, answer}
use Rattle.uses_lexer.proofs.ask_verdicts.examples.Goals as goal

some_weaker : {A : Type 0} (o : Option A) (P Q : A → Type 0) → ((x : A) → P x → Q x) → IfSome o P → IfSome o Q
some_weaker None P Q f h = tt
some_weaker (Some x) P Q f h = f x h

-- the tree that a word is answered by wins it
winner : (d : List Row) (ts : List Tree) (ps : List ℕ) (i : ℕ) (w : List ℕ) → RecognizesAll d ts ps → answer d w ≡ Some i → IsOnlyStrongest ts ps w i
winner d ts ps i w h e = (let (r, (at, is)) = the_some (slice_get d (after d w)) (λ r. IsRightKind ts ps w r.kind) (h.kinds w) in by r.kind is (sym (ap accepted_at at) ∙ e))
  where
    by : (k : Kind) → IsRightKind ts ps w k → accepted_by k ≡ Some i → IsOnlyStrongest ts ps w i
    by (Accepts j) only f = let same : j ≡ i = cc in subst (λ n. IsOnlyStrongest ts ps w n) same only
    by Reject none f = cc
    by Neither none f = cc

pub returns-clause-without_space : goal.returns-clause-without_space
returns-clause-without_space c =
    let d = c.args.dfa.now in
    IfOk-weaker c.beside.result _ _
    (λ joins. some_weaker joins.kept _ _ (λ p least ts ps h. let pair = least.second.holds in (winner d ts ps c.args.first p.first h pair.0.2, winner d ts ps c.args.second p.second h pair.1.2)))
    c.beside.ensures.kept

pub returns-clause-with_space : goal.returns-clause-with_space
returns-clause-with_space c =
    let d = c.args.dfa.now in
    IfOk-weaker c.beside.result _ _
    (λ joins. some_weaker joins.lost _ _ (λ p least ts ps h. let pair = least.second.holds in (winner d ts ps c.args.first p.first h pair.0.2, winner d ts ps c.args.second p.second h pair.1.2)))
    c.beside.ensures.lost
