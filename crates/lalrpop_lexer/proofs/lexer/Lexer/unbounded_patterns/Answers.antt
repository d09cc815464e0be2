use Rattle.std.proofs.Common.{◌≡◌, ◌<◌, ◌↔◌, ℕ, length, true, ap, subst, ◌∙◌}
use Rattle.std.specs.Prelude.{Some, Ok, Err, Result, IfOk, slice_get}
use Rattle.lalrpop_hir.specs.Winners.{IsOnlyStrongest, Matched}
use Rattle.lalrpop_dfa.specs.Lookahead.{Accepted, AcceptedAs, StaysOpenEver}
use Rattle.lalrpop_dfa.proofs.Recognized.{recognized_by, recognized_words}
use Rattle.lalrpop_dfa.proofs.WitnessLaws.{same_ever}
use Rattle.lalrpop_dense.specs.Rules.{Rules, IsBuiltFrom}
use Rattle.lalrpop_lexer.proofs.lexer.Lexer.unbounded_patterns.Goals as goal

pub returns-clause-same_length : goal.returns-clause-same_length
returns-clause-same_length c =
    let count : length c.regexs.result.now ≡ length c.args.self.now.trees = ap length c.regexs.ensures.trees in
    subst (λ n. IfOk c.unbounded_patterns.result (λ found. length found.items ≡ n)) count c.unbounded_patterns.ensures.same_length

if_ok : {A E : Type 0} {P Q : A → Type 0} (r : Result A E) → ((x : A) → P x → Q x) → IfOk r P → IfOk r Q
if_ok (Ok x) f p = f x p
if_ok (Err e) f p = tt

pub returns-clause-each : goal.returns-clause-each
returns-clause-each c =
    let d = c.args.self.now.automaton in
    let ts = c.args.self.now.trees in
    let ps = c.args.self.now.precedences in
    let count : length c.regexs.result.now ≡ length ts = ap length c.regexs.ensures.trees in
    let built : IsBuiltFrom ts ps d = rw (← c.self.view_is) c.self.invariant.0 in
    let told = subst (λ e. IfOk c.unbounded_patterns.result (λ found. (i : ℕ) → i < length ts → (slice_get found.items i ≡ Some true) ↔ StaysOpenEver (Accepted e) (AcceptedAs e i)))
    (c.dfa.ensures.same ∙ ap (λ (r : Rules). r.automaton) c.self.view_is)
    (subst (λ n. IfOk c.unbounded_patterns.result (λ found. (i : ℕ) → i < n → (slice_get found.items i ≡ Some true) ↔ StaysOpenEver (Accepted c.dfa.result.now) (AcceptedAs c.dfa.result.now i))) count c.unbounded_patterns.ensures.each) in
    if_ok c.unbounded_patterns.result (λ found each i l.
    let ever = same_ever (Accepted d) (Matched ts) (recognized_words d ts ps built.stands) (AcceptedAs d i) (λ w. IsOnlyStrongest ts ps w i) (recognized_by d ts ps built.stands i) in
    (λ e. ever.0 ((each i l).0 e), λ h. (each i l).1 (ever.1 h))) told
