use Rattle.std.proofs.Common.{ℕ, List, ap, subst, ◌∙◌}
use Rattle.std.specs.Prelude.{Option, Some, None, Ok, Err, Result, IfOk, IfSome, IfNone}
use Rattle.lalrpop_hir.specs.Winners.{Matched}
use Rattle.lalrpop_dfa.specs.Lookahead.{Accepted}
use Rattle.lalrpop_dfa.specs.Witness.{IsOpenMatch, IsWitness}
use Rattle.lalrpop_dfa.proofs.Recognized.{recognized_words}
use Rattle.lalrpop_dfa.proofs.WitnessLaws.{same_none, same_witness}
use Rattle.lalrpop_dense.specs.Rules.{Rules, IsBuiltFrom}
use Rattle.lalrpop_lexer.proofs.lexer.Lexer.lookahead_witness.Goals as goal

if_some : {A E : Type 0} {P Q : A → Type 0} (r : Result (Option A) E) → ((x : A) → P x → Q x) → IfOk r (λ o. IfSome o P) → IfOk r (λ o. IfSome o Q)
if_some (Ok (Some x)) f p = f x p
if_some (Ok None) f p = tt
if_some (Err e) f p = tt

if_none : {A E P Q : Type 0} (r : Result (Option A) E) → (P → Q) → IfOk r (λ o. IfNone o P) → IfOk r (λ o. IfNone o Q)
if_none (Ok None) f p = f p
if_none (Ok (Some x)) f p = tt
if_none (Err e) f p = tt

pub returns-clause-least : goal.returns-clause-least
returns-clause-least c =
    let d = c.args.self.now.automaton in
    let ts = c.args.self.now.trees in
    let n = c.args.count in
    let built : IsBuiltFrom ts c.args.self.now.precedences d = rw (← c.self.view_is) c.self.invariant.0 in
    let told = subst (λ e. IfOk c.lookahead_witness.result (λ found. IfSome found (λ w. IsWitness (Accepted e) n w.word w.after)))
    (c.dfa.ensures.same ∙ ap (λ (r : Rules). r.automaton) c.self.view_is) c.lookahead_witness.ensures.least in
    if_some c.lookahead_witness.result (λ w. same_witness (Accepted d) (Matched ts) (recognized_words d ts c.args.self.now.precedences built.stands) n w.word w.after) told

pub returns-clause-none : goal.returns-clause-none
returns-clause-none c =
    let d = c.args.self.now.automaton in
    let ts = c.args.self.now.trees in
    let n = c.args.count in
    let built : IsBuiltFrom ts c.args.self.now.precedences d = rw (← c.self.view_is) c.self.invariant.0 in
    let told = subst (λ e. IfOk c.lookahead_witness.result (λ found. IfNone found ((v x : List ℕ) → ¬ IsOpenMatch (Accepted e) n v x)))
    (c.dfa.ensures.same ∙ ap (λ (r : Rules). r.automaton) c.self.view_is) c.lookahead_witness.ensures.none in
    if_none c.lookahead_witness.result (same_none (Accepted d) (Matched ts) (recognized_words d ts c.args.self.now.precedences built.stands) n) told
