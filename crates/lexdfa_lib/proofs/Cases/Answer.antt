-- Cases of specs/Answer.antt: the input `0 l a` with a line feed and the text `a`, and the input `x`.
use Rattle.std.proofs.Common.{◌≡◌, ℕ, zero, suc, ◌≤◌, List, [], ◌∷◌, ◌++◌, length, Some, None, inl, inr, refl, ap, subst, codes, length-append, arith}
use Rattle.std.specs.Prelude.{slice_index}
use Rattle.std.specs.Str.{chars}
use Rattle.lalrpop_hir.specs.Word.{Shortlex}
use Rattle.lalrpop_hir.specs.Tree.{Tree, literal}
use Rattle.lalrpop_hir.specs.Parts.{of_text}
use Rattle.lalrpop_hir.specs.Language.{Matches}
use Rattle.lalrpop_hir.proofs.Words.{Shortlex-irreflexive}
use Rattle.lalrpop_lexer.specs.Fault.{fault}
use Rattle.lalrpop_lexer.specs.Report.{NoFault}
use Rattle.lalrpop_lexer.specs.Winners.{TreeMatches}
use Rattle.lalrpop_lexer.specs.Clash.{NoClash}
use Rattle.lalrpop_lexer.specs.Longest.{IsLongest, IsMatch}
use Rattle.lexdfa_lib.specs.Answer.{HaveAutomaton, Reports, IsReported, Finds, IsOutcome}
use Rattle.lexdfa_lib.specs.declared.outcome.Outcome.{Outcome}
use Rattle.lexdfa_lib.specs.declared.outcome.Outcome.TheVariants.{Match, NoMatch, All, Ambiguous, Syntax, Line}
use Rattle.lexdfa_lib.proofs.Unique.{outcome-unique}
use Rattle.lalrpop_lexer.proofs.Cases.Line.{line_of_a_literal_is_not_bad, x_is_bad, line_says_no_tree, line_of_a_literal_has_a_tree, x_is_not_without_a_tree}
use Rattle.lalrpop_lexer.proofs.Cases.Terminals.{lines_are_terminals}

abbrev a : Tree
a = literal (codes "a")

chars_a : chars (codes "a") ≡ codes "a"
unfolding chars
chars_a = refl

tree_of_the_text : a ≡ of_text (codes "a")
unfolding chars
tree_of_the_text = refl

who_matches : (w : List ℕ) (i : ℕ) → TreeMatches (a ∷ []) w i → (w ≡ codes "a") × (i ≡ 0)
who_matches w zero h = (same a h.0 h.1.0 h.1.1, refl)
  where
    same : (s r : Tree) → Some s ≡ Some r → Matches r w → Matches s w
    same s r e m = let f : r ≡ s = cc in subst (λ x. Matches x w) f m
who_matches w (suc n) h = let e : None ≡ Some h.0 = h.1.0 in absurd (cc)

no_fault : NoFault (a ∷ [])
no_fault zero t e = let f : a ≡ t = cc in subst (λ u. fault u ≡ None) f refl
no_fault (suc i) t e = absurd (cc)

no_clash : NoClash (a ∷ []) (0 ∷ [])
no_clash w (i, j, h) = omega (arith, h.0, (who_matches w i h.1.0).1)

longest : IsLongest (a ∷ []) (0 ∷ []) (codes "a") (Some (0, codes "a"))
unfolding lib.Utf8.encode
longest = (
  (([], (refl, (codes "a", (refl, refl)))), (λ e. cc), (0, (a, (refl, chars_a)))),
  (λ p m. one p m),
  (((a, (refl, chars_a)), λ j h. omega (arith, zeros j)), λ j t. omega (arith, (who_matches (chars (codes "a")) j t.0).1)),
)
  where
    zeros : (j : ℕ) → slice_index (0 ∷ []) j ≡ 0
    zeros zero = refl
    zeros (suc j) = refl

    one : (p : List ℕ) → IsMatch (a ∷ []) (codes "a") p → length p ≤ 1
    one p m = let whole : 1 ≡ length (p ++ m.0.0) = ap length m.0.1.0 in omega (arith, whole, length-append p m.0.0)

-- the literal `a` finds itself
literal_finds_itself : Finds (a ∷ []) (0 ∷ []) (codes "a") (Match 0 1)
literal_finds_itself = (codes "a", (longest, refl))

-- two equal literals with equal precedences clash on their word and no other, the later one first

abbrev aa : List Tree
aa = a ∷ a ∷ []

abbrev both_zero : List ℕ
both_zero = 0 ∷ 0 ∷ []

zero_at : (j : ℕ) → slice_index both_zero j ≡ 0
zero_at zero = refl
zero_at (suc zero) = refl
zero_at (suc (suc j)) = refl

who_matches_twice : (w : List ℕ) (i : ℕ) → TreeMatches aa w i → (w ≡ codes "a") × (i ≤ 1)
who_matches_twice w zero h = ((who_matches w 0 h).0, omega arith)
who_matches_twice w (suc zero) h = ((who_matches w 0 h).0, omega arith)
who_matches_twice w (suc (suc n)) h = let e : None ≡ Some h.0 = h.1.0 in absurd (cc)

no_fault_twice : NoFault aa
no_fault_twice zero t e = no_fault zero t e
no_fault_twice (suc i) t e = no_fault i t e

clash_is_reported : Reports aa both_zero (Ambiguous 1 0 (codes "a"))
clash_is_reported = (
  no_fault_twice,
  record {
    word = (omega arith, tt);
    least = λ v s m. Shortlex-irreflexive (codes "a") (subst (λ u. Shortlex u (codes "a")) (who_matches_twice v m.0 m.2.1.0).0 s);
    greatest = ((a, (refl, refl)), λ j h. omega (arith, zero_at j));
    second = ((a, (refl, refl)), λ j h. omega (arith, zero_at j));
    less = omega arith;
    others = λ k t l. omega arith;
    above = λ k t. (who_matches_twice (codes "a") k t.0).1;
  },
)

clash_is_on_no_other_word : (w : List ℕ) → Reports aa both_zero (Ambiguous 1 0 w) → w ≡ codes "a"
clash_is_on_no_other_word w h = (who_matches_twice w 1 h.1.greatest.0).0

-- trees report neither wrong lines nor matches
trees_report_no_wrong_line : (i : ℕ) → (¬ Reports (a ∷ []) (0 ∷ []) (Line i)) × (¬ Reports (a ∷ []) (0 ∷ []) (Syntax i))
trees_report_no_wrong_line i = ((λ h. h), (λ h. h))

trees_report_no_match : ¬ Reports (a ∷ []) (0 ∷ []) (Match 0 1)
trees_report_no_match h = h

-- the input `0 l a` has an automaton
pub has_automaton : HaveAutomaton (codes "0 l a\n") (of_text (codes "a") ∷ []) (0 ∷ [])
has_automaton = record {
  terminals = lines_are_terminals;
  no_fault = subst (λ t. NoFault (t ∷ [])) tree_of_the_text no_fault;
  no_clash = subst (λ t. NoClash (t ∷ []) (0 ∷ [])) tree_of_the_text no_clash;
}

-- and the text `a`: terminal 0, and one byte
match_is_the_outcome : IsOutcome (codes "0 l a\n") (codes "a") (Match 0 1)
match_is_the_outcome = inr (of_text (codes "a") ∷ [], (0 ∷ [], (has_automaton, subst (λ t. Finds (t ∷ []) (0 ∷ []) (codes "a") (Match 0 1)) tree_of_the_text literal_finds_itself)))

abbrev terminal_of : Outcome → ℕ
terminal_of (Match i n) = i
terminal_of o = 0

abbrev bytes_of : Outcome → ℕ
bytes_of (Match i n) = n
bytes_of o = 0

-- not None, not another terminal, not another length, not a bad line
none_is_not_the_outcome : ¬ IsOutcome (codes "0 l a\n") (codes "a") NoMatch
none_is_not_the_outcome h = let e : Match 0 1 ≡ NoMatch = outcome-unique (codes "0 l a\n") (codes "a") _ _ match_is_the_outcome h in absurd (cc)

other_terminal_is_not_the_outcome : ¬ IsOutcome (codes "0 l a\n") (codes "a") (Match 1 1)
other_terminal_is_not_the_outcome h = let e : Match 0 1 ≡ Match 1 1 = outcome-unique (codes "0 l a\n") (codes "a") _ _ match_is_the_outcome h in let n : 0 ≡ 1 = ap terminal_of e in omega (arith, n)

other_length_is_not_the_outcome : ¬ IsOutcome (codes "0 l a\n") (codes "a") (Match 0 0)
other_length_is_not_the_outcome h = let e : Match 0 1 ≡ Match 0 0 = outcome-unique (codes "0 l a\n") (codes "a") _ _ match_is_the_outcome h in let n : 1 ≡ 0 = ap bytes_of e in omega (arith, n)

bad_line_is_not_the_outcome : ¬ IsOutcome (codes "0 l a\n") (codes "a") (Line 0)
bad_line_is_not_the_outcome h = let e : Match 0 1 ≡ Line 0 = outcome-unique (codes "0 l a\n") (codes "a") _ _ match_is_the_outcome h in absurd (cc)

-- a run never cuts a whole text
whole_text_is_not_the_outcome : ¬ IsOutcome (codes "0 l a\n") (codes "a") (All 1)
whole_text_is_not_the_outcome h = let e : Match 0 1 ≡ All 1 = outcome-unique (codes "0 l a\n") (codes "a") _ _ match_is_the_outcome h in absurd (cc)

-- the input `x`: line 0 is bad, and nothing else is reported
pub bad_line_is_the_outcome : IsOutcome (codes "x\n") (codes "a") (Line 0)
bad_line_is_the_outcome = inl x_is_bad

none_is_not_the_outcome_of_a_bad_line : ¬ IsOutcome (codes "x\n") (codes "a") NoMatch
none_is_not_the_outcome_of_a_bad_line h = let e : Line 0 ≡ NoMatch = outcome-unique (codes "x\n") (codes "a") _ _ bad_line_is_the_outcome h in absurd (cc)

-- the input `0 r *a`: the pattern of line 0 doesn't parse
pub syntax_is_the_outcome : IsOutcome (codes "0 r *a\n") (codes "a") (Syntax 0)
syntax_is_the_outcome = inl line_says_no_tree

-- it is neither a terminal nor a bad line
syntax_is_not_reported : (¬ IsReported (codes "0 l a\n") (Syntax 0)) × (¬ IsReported (codes "x\n") (Syntax 0))
syntax_is_not_reported = (line_of_a_literal_has_a_tree, x_is_not_without_a_tree)

bad_line_is_not_reported : ¬ IsReported (codes "0 l a\n") (Line 0)
bad_line_is_not_reported h = line_of_a_literal_is_not_bad h

-- no input: an automaton of no trees, which finds nothing
pub no_lines_have_automaton : HaveAutomaton (codes "") [] []
no_lines_have_automaton = record {
  terminals = tt;
  no_fault = λ i t e. absurd (cc);
  no_clash = λ w m. let e : None ≡ Some m.2.1.0.0 = m.2.1.0.1.0 in absurd (cc);
}

pub nothing_matches : (text : List ℕ) → IsLongest [] [] text None
nothing_matches text p m = let e : None ≡ Some m.2.1.0 = m.2.1.1.0 in absurd (cc)

none_is_the_outcome_of_no_lines : IsOutcome (codes "") (codes "a") NoMatch
none_is_the_outcome_of_no_lines = inr ([], ([], (no_lines_have_automaton, nothing_matches (codes "a"))))
