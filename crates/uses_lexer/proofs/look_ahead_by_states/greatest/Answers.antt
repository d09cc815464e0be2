use Rattle.std.proofs.Common.{ℕ, List}
use Rattle.std.specs.Prelude.{Option, Ok, Err, Result, IfOk}
use Rattle.lalrpop_hir.specs.Tree.{Tree}
use Rattle.lalrpop_hir.specs.Winners.{Matched}
use Rattle.lalrpop_dfa.specs.Dfa.{Row, RecognizesAll}
use Rattle.lalrpop_dfa.specs.Lookahead.{Accepted, IsLookahead}
use Rattle.lalrpop_dfa.proofs.Recognized.{recognized_words}
use Rattle.lalrpop_dfa.proofs.WitnessLaws.{same_lookahead}
use Rattle.uses_lexer.proofs.look_ahead_by_states.greatest.Goals as goal

of_trees : {E : Type 0} (d : List Row) (r : Result (Option ℕ) E) → IfOk r (λ found. IsLookahead (Accepted d) found)
    → IfOk r (λ found. (ts : List Tree) (ps : List ℕ) → RecognizesAll d ts ps → IsLookahead (Matched ts) found)
of_trees d (Ok found) h = λ ts ps stands. same_lookahead (Accepted d) (Matched ts) (recognized_words d ts ps stands) found h
of_trees d (Err e) h = tt

pub returns : goal.returns
returns c = record { matches = of_trees c.args.dfa.now c.lookahead.result c.lookahead.ensures.answer }
