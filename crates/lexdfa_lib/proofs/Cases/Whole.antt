-- Cases of specs/Whole.antt: no input, which has an automaton that matches nothing, and the input `x`, which has none.
use Rattle.std.proofs.Common.{◌≡◌, ℕ, ◌+◌, List, [], ◌∷◌, length, Some, None, inl, inr, refl, sym, ap, subst, ◌∙◌, codes, drop, arith}
use Rattle.std.specs.Borrow.{Bor}
use Rattle.std.specs.Fmt.{digits}
use Rattle.lalrpop_hir.specs.Tree.{Tree}
use Rattle.lalrpop_hir.proofs.LastFaults.{end_behind}
use Rattle.lalrpop_lexer.specs.Longest.{IsLongest}
use Rattle.lexdfa_lib.specs.Answer.{IsOutcome}
use Rattle.lexdfa_lib.specs.Whole.{Token, Cuts, IsWhole, token_line, AreAnswers}
use Rattle.lexdfa_lib.specs.declared.outcome.Outcome.TheVariants.{Match, NoMatch, All, Stopped, Line}
use Rattle.lexdfa_lib.proofs.UniqueWhole.{answers-unique}
use Rattle.lalrpop_lexer.proofs.Cases.Line.{x_is_bad}
use Rattle.lexdfa_lib.proofs.Cases.Answer.{no_lines_have_automaton, nothing_matches}

-- ---- what trees cut a text into

empty_text_is_no_token : (ts : List Tree) (ps : List ℕ) → Cuts ts ps [] [] (All 0)
empty_text_is_no_token ts ps = (refl, refl)

-- `a` and `b` match
module _ (ts : List Tree) (ps : List ℕ) (a b : Bor (List ℕ)) (one : a.now ≡ codes "a") where
  text_of_two_tokens : IsLongest ts ps (codes "ab") (Some (0, a.now)) → b.now ≡ codes "b" → IsLongest ts ps (codes "b") (Some (1, b.now))
      → Cuts ts ps (codes "ab") ((0, a) ∷ (1, b) ∷ []) (All 2)
  text_of_two_tokens first other second =
      ((first, (subst (λ n. IsLongest ts ps (drop n (codes "ab")) (Some (1, b.now))) (sym behind) second, left)), refl)
    where
      behind : 0 + length a.now ≡ 1
      behind = ap (λ (l : List ℕ). 0 + length l) one

      left : drop (0 + length a.now + length b.now) (codes "ab") ≡ []
      left = ap (λ (l : List ℕ). drop (0 + length l + length b.now) (codes "ab")) one ∙ ap (λ (l : List ℕ). drop (1 + length l) (codes "ab")) other

  -- `b` doesn't match: a fault at byte 1, after one token
  text_with_a_fault : IsLongest ts ps (codes "ab") (Some (0, a.now)) → IsLongest ts ps (codes "b") None → Cuts ts ps (codes "ab") ((0, a) ∷ []) (Stopped 1 1)
  text_with_a_fault first none =
      ((first, (((λ e. some (rest e)), subst (λ n. IsLongest ts ps (drop n (codes "ab")) None) (sym behind) none, sym behind), end_behind (codes "ab") (0 + length a.now) 1 (sym behind))), refl)
    where
      behind : 0 + length a.now ≡ 1
      behind = ap (λ (l : List ℕ). 0 + length l) one

      rest : drop (0 + length a.now) (codes "ab") ≡ [] → codes "b" ≡ []
      rest e = sym (ap (λ n. drop n (codes "ab")) behind) ∙ e

      some : codes "b" ≡ [] → ⊥
      some e = cc

  -- the text isn't all tokens if a rest is left
  fault_dropped : ¬ Cuts ts ps (codes "ab") ((0, a) ∷ []) (All 1)
  fault_dropped h =
      let rest : codes "b" ≡ [] = sym (ap (λ (l : List ℕ). drop (0 + length l) (codes "ab")) one) ∙ h.0.1 in
      absurd (cc)

  -- the fault isn't one of the tokens, and its place isn't another
  fault_counted : ¬ Cuts ts ps (codes "ab") ((0, a) ∷ []) (Stopped 2 1)
  fault_counted h = let n : 2 ≡ 1 = h.1 in omega (arith, n)

  fault_at_the_start : ¬ Cuts ts ps (codes "ab") ((0, a) ∷ []) (Stopped 1 0)
  fault_at_the_start h = let n : 0 ≡ 0 + length a.now = h.0.1.0.2 in omega (arith, n, ap length one)

-- ---- bytes and texts

stopped_at_the_start : IsWhole (codes "") (codes "a") [] (Stopped 0 0)
stopped_at_the_start = inr ([], ([], (no_lines_have_automaton, ((((λ e. cc), nothing_matches (codes "a"), refl), refl), refl))))

bad_line_is_reported : (text : List ℕ) → IsWhole (codes "x\n") text [] (Line 0)
bad_line_is_reported text = inl (x_is_bad, refl)

-- no token comes before what is reported
no_token_before_a_bad_line : (text : List ℕ) (token : Token) → ¬ IsWhole (codes "x\n") text (token ∷ []) (Line 0)
no_token_before_a_bad_line text token (inl h) = let e = h.1 in absurd (cc)
no_token_before_a_bad_line text token (inr h) = h.1.1.1

-- a whole text is never reported as one match or none, nor the longest match as a whole text
never_one_match : (bytes text : List ℕ) (tokens : List Token) (i n : ℕ) → (¬ IsWhole bytes text tokens (Match i n)) × (¬ IsWhole bytes text tokens NoMatch)
never_one_match bytes text tokens i n = (match, none)
  where
    match : ¬ IsWhole bytes text tokens (Match i n)
    match (inl h) = h.0.1.1.1
    match (inr h) = h.1.1.1

    none : ¬ IsWhole bytes text tokens NoMatch
    none (inl h) = h.0.1.1.1
    none (inr h) = h.1.1.1

never_a_whole_text : (bytes text : List ℕ) (n at : ℕ) → (¬ IsOutcome bytes text (All n)) × (¬ IsOutcome bytes text (Stopped n at))
never_a_whole_text bytes text n at = (all, stopped)
  where
    all : ¬ IsOutcome bytes text (All n)
    all (inl h) = h.1.1.1
    all (inr h) = h.1.1.1

    stopped : ¬ IsOutcome bytes text (Stopped n at)
    stopped (inl h) = h.1.1.1
    stopped (inr h) = h.1.1.1

-- ---- lines

line_of_a_token : (space : Bor (List ℕ)) → space.now ≡ codes " " → token_line (2, space) ≡ codes "match 2 1\n"
unfolding digits
line_of_a_token space one = ap (λ (l : List ℕ). token_line (2, record space { now = l })) one

fault_has_a_line : AreAnswers (codes "") (codes "a") (Stopped 0 0) (codes "stop 0\n")
unfolding digits
fault_has_a_line = ([], (stopped_at_the_start, refl))

fault_without_a_line : ¬ AreAnswers (codes "") (codes "a") (Stopped 0 0) []
fault_without_a_line h =
    let same = answers-unique (codes "") (codes "a") (Stopped 0 0) (Stopped 0 0) (codes "stop 0\n") [] fault_has_a_line h in
    let n : 7 ≡ 0 = ap length same.1 in
    omega (arith, n)

pub bad_line_has_its_line : (text : List ℕ) → AreAnswers (codes "x\n") text (Line 0) (codes "line 0\n")
unfolding digits
bad_line_has_its_line text = ([], (bad_line_is_reported text, refl))

empty_text_has_no_line : AreAnswers (codes "") [] (All 0) []
empty_text_has_no_line = ([], (inr ([], ([], (no_lines_have_automaton, empty_text_is_no_token [] []))), refl))
