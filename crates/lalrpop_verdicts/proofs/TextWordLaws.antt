-- Words of texts are words, and words that an automaton accepts don't pass a reject state.
use Rattle.std.proofs.Common.{◌≡◌, ℕ, suc, ◌<◌, ◌≤◌, List, [], ◌∷◌, ◌++◌, arith, subst, sym, ap, ◌∙◌}
use Rattle.std.specs.Prelude.{slice_get, Option, Some, None, IsSomeAnd}
use Rattle.std.specs.Char.{IsScalar}
use Rattle.std.proofs.lemmas.Bool.Decides.{nat_tests}
use Rattle.lalrpop_hir.specs.Word.{IsWord}
use Rattle.lalrpop_dfa.specs.Dfa.{Row, run, step, after, IsReject}
use Rattle.lalrpop_dfa.specs.Lookahead.{Accepted}
use Rattle.lalrpop_dfa.specs.declared.Kind.TheVariants.{Accepts, Reject}
use Rattle.lalrpop_dfa.proofs.AfterLaws.{run_append}
use Rattle.lalrpop_verdicts.specs.Answers.{IsTextWord}
use Rattle.lalrpop_verdicts.specs.Internal.WonWords.{StaysDead}

scalar_fits : (c : ℕ) → IsScalar c → c ≤ 4294967295
scalar_fits c is = let below : c < 0x110000 = grind (arith, nat_tests) in omega arith

-- the characters of a text are a word
pub text_is_word : (w : List ℕ) → IsTextWord w → IsWord w
text_is_word [] text = tt
text_is_word (c ∷ w) text = (scalar_fits c (text 0 c (omega arith)), text_is_word w (λ k d l. text (suc k) d (omega arith)))

pub word_behind : (u v : List ℕ) → IsWord (u ++ v) → IsWord v
word_behind [] v h = h
word_behind (c ∷ u) v h = word_behind u v h.1

-- no word leads out of a reject state
pub dead_run : (d : List Row) (p : ℕ) (v : List ℕ) → StaysDead d → IsWord v → IsReject d p → IsReject d (run d p v)
dead_run d p [] stays word dead = dead
dead_run d p (c ∷ v) stays word dead = dead_run d (step d p c) v stays word.1 (stays p c word.0 dead)

not_both : (o : Option Row) → IsSomeAnd o (λ r. r.kind ≡ Reject) → IsSomeAnd o (λ r. (i : ℕ) × (r.kind ≡ Accepts i)) → ⊥
not_both None dead a = a
not_both (Some r) dead (i, a) = let f : Reject ≡ Accepts i = sym dead ∙ a in cc

-- no part of an accepted word from its start leads to a reject state
pub accepted_alive : (d : List Row) (w u v : List ℕ) → StaysDead d → IsWord w → Accepted d w → w ≡ u ++ v → ¬ IsReject d (after d u)
accepted_alive d w u v stays word accepted parts dead =
    let behind : IsWord v = word_behind u v (subst IsWord parts word) in
    let end : IsReject d (run d (after d u) v) = dead_run d (after d u) v stays behind dead in
    let same : after d w ≡ run d (after d u) v = ap (λ x. after d x) parts ∙ run_append d 0 u v in
    not_both (slice_get d (after d w)) (rw same end) accepted
