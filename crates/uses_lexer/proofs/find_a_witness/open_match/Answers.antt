use Rattle.std.proofs.Common.{◌≡◌, ℕ, List, Some, None, Ok, Err}
use Rattle.std.specs.Prelude.{Option, Result, IfOk, IfSome}
use Rattle.lalrpop_dfa.specs.Dfa.{Row}
use Rattle.lalrpop_dfa.specs.Lookahead.{Accepted}
use Rattle.lalrpop_dfa.specs.Witness.{IsWitness, OpenMatch}
use Rattle.lalrpop_dfa.proofs.WitnessLaws.{witness-unique}
use Rattle.uses_lexer.proofs.find_a_witness.open_match.Goals as goal

no_other : {E : Type 0} (d : List Row) (n : ℕ) (r : Result (Option OpenMatch) E) → IfOk r (λ found. IfSome found (λ w. IsWitness (Accepted d) n w.word w.after))
    → IfOk r (λ found. IfSome found (λ w. (v x : List ℕ) → IsWitness (Accepted d) n v x → (w.word ≡ v) × (w.after ≡ x)))
no_other d n (Ok (Some w)) h = λ v x g. witness-unique (Accepted d) n w.word w.after v x h g
no_other d n (Ok None) h = tt
no_other d n (Err e) h = tt

pub returns-clause-one : goal.returns-clause-one
returns-clause-one c = no_other c.args.dfa.now c.args.count c.lookahead_witness.result c.lookahead_witness.ensures.least
