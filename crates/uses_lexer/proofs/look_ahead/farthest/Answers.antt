use Rattle.std.proofs.Common.{◌≡◌, ◌⊎◌, inl, inr, ℕ, List, subst}
use Rattle.std.specs.Prelude.{Option, Some, None, Ok, Err, Result, IfOk, IfNone}
use Rattle.lalrpop_lexer.specs.Language.{Words}
use Rattle.lalrpop_lexer.specs.Winners.{Matched}
use Rattle.lalrpop_lexer.specs.Lookahead.{CanStayOpen, LeavesOpen, LooksAtMost}
use Rattle.lalrpop_lexer.specs.Witness.{IsOpenMatch}
use Rattle.uses_lexer.proofs.look_ahead.farthest.Goals as goal

-- no n values of 32 bits leave a word open
abbrev IsClosed : Words → ℕ → Type 0
IsClosed L n = (v x : List ℕ) → ¬ IsOpenMatch L n v x

-- a word that is left open and the values that leave it open fit 32 bits
abbrev InWords : Words → Type 0
InWords L = (n : ℕ) (v x : List ℕ) → LeavesOpen L n v x → IsOpenMatch L n v x

not_open : (L : Words) (n : ℕ) → InWords L → IsClosed L n → ¬ CanStayOpen L n
not_open L n words closed (v, x, left) = closed v x (words n v x left)

at_most_none : (L : Words) (n : ℕ) → LooksAtMost L n → (n ≡ 0) ⊎ CanStayOpen L n → ¬ CanStayOpen L n → LooksAtMost L 0
at_most_none L n most (inl zero) closed = subst (LooksAtMost L) zero most
at_most_none L n most (inr can) closed = absurd (closed can)

none_then : {A E P Q : Type 0} (r : Result (Option A) E) → (P → Q) → IfOk r (λ o. IfNone o P) → IfOk r (λ o. IfNone o Q)
none_then (Ok None) f p = f p
none_then (Ok (Some x)) f p = tt
none_then (Err e) f p = tt

pub returns-in-Some : goal.returns-in-Some
returns-in-Some c =
    let L = Matched c.args.lexer.now.trees in
    let n = c.in-Some.number in
    let is = c.in-Some.ensures.answer in
    record {
      none = none_then c.lookahead_witness.result
          (λ closed. at_most_none L n is.0 is.1 (not_open L n c.in-Some.ensures.words closed)) c.lookahead_witness.ensures.none;
    }

pub returns-in-None : goal.returns-in-None
returns-in-None c =
    let L = Matched c.args.lexer.now.trees in
    record {
      none = none_then c.lookahead_witness-in-None.result
          (λ closed. absurd (not_open L c.args.otherwise c.in-None.ensures.words closed (c.in-None.ensures.answer c.args.otherwise)))
          c.lookahead_witness-in-None.ensures.none;
    }
