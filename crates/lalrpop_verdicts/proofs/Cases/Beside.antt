-- Cases of specs/Beside.antt: `a` by an automaton of `a`, and by one of `a+`.
use Rattle.std.proofs.Common.{◌≡◌, ◌≢◌, ℕ, zero, suc, inl, List, [], ◌∷◌, ◌++◌, Some, refl, subst, arith}
use Rattle.lalrpop_dfa.specs.Dfa.{Row, run}
use Rattle.lalrpop_dfa.specs.Lookahead.{Accepted, IsAccepting}
use Rattle.lalrpop_dfa.specs.declared.Kind.TheVariants.{Accepts, Reject, Neither}
use Rattle.lalrpop_dfa.proofs.Cases.Dfa.{automaton_of_a, between}
use Rattle.lalrpop_verdicts.specs.Answers.{IsTextWord}
use Rattle.lalrpop_verdicts.specs.Beside.{IsToken, RunsOn, IsKept, IsLost, IsLeastPair}
use Rattle.lalrpop_verdicts.proofs.Cases.Answers.{a_is_a_text, surrogate_is_no_text}

-- the automaton of `a+`
abbrev some_as : List Row
some_as =
    record { kind = Neither; tests = (between 97 97, 1) ∷ []; other = 2; items = [] } ∷ record { kind = Accepts 0; tests = (between 97 97, 1) ∷ []; other = 2; items = [] }
    ∷ record { kind = Reject; tests = []; other = 2; items = [] } ∷ []

-- ---- tokens

a_is_a_token : IsToken automaton_of_a 0 (97 ∷ []) × IsToken some_as 0 (97 ∷ [])
a_is_a_token = ((a_is_a_text, (λ e. cc), refl), (a_is_a_text, (λ e. cc), refl))

two_as_are_a_text : IsToken some_as 0 (97 ∷ 97 ∷ [])
two_as_are_a_text = (text, (λ e. cc), refl)
  where
    text : IsTextWord (97 ∷ 97 ∷ [])
    text zero d l = refl
    text (suc zero) d l = refl
    text (suc (suc k)) d l = absurd (omega arith)

nothing_is_no_token : (d : List Row) (i : ℕ) → ¬ IsToken d i []
nothing_is_no_token d i token = token.1 refl

word_of_no_text_is_no_token : (d : List Row) (i : ℕ) → ¬ IsToken d i (0xD800 ∷ [])
word_of_no_text_is_no_token d i token = surrogate_is_no_text token.0

-- a token of another tree
a_is_no_token_of_the_second_tree : ¬ IsToken automaton_of_a 1 (97 ∷ [])
a_is_no_token_of_the_second_tree token = let e : Some 0 ≡ Some 1 = token.2 in absurd (cc)

-- ---- joins

-- `a` and `a` are together `aa`, of which only `a+` accepts more than the first `a`
aa_runs_on : RunsOn some_as (97 ∷ []) (97 ∷ [])
aa_runs_on = (97 ∷ [], [], refl, (λ e. cc), (0, refl))

dead : (u : List ℕ) → run automaton_of_a 2 u ≡ 2
dead [] = refl
dead (c ∷ u) = dead u

nothing_runs_on : (b : List ℕ) → ¬ RunsOn automaton_of_a (97 ∷ []) b
nothing_runs_on b (u, v, is, some, a) = longer u some a
  where
    longer : (u : List ℕ) → u ≢ [] → ¬ Accepted automaton_of_a (97 ∷ u)
    longer [] some a = some refl
    longer (c ∷ u) some a = let (i, e) = subst (IsAccepting automaton_of_a) (dead u) a in absurd (let f : Reject ≡ Accepts i = e in cc)

-- the first token isn't counted: a is accepted, and yet nothing runs on with no second token
nothing_after_a : ¬ RunsOn some_as (97 ∷ []) []
nothing_after_a (u, v, is, some, a) = none u v is some
  where
    none : (u v : List ℕ) → [] ≡ u ++ v → u ≢ [] → ⊥
    none [] v is some = some refl
    none (c ∷ u) v is some = absurd (cc)

a_after_a_is_kept : IsKept automaton_of_a 0 0 (97 ∷ []) (97 ∷ [])
a_after_a_is_kept = (a_is_a_token.0, a_is_a_token.0, nothing_runs_on (97 ∷ []))

a_after_a_is_lost : IsLost some_as 0 0 (97 ∷ []) (97 ∷ [])
a_after_a_is_lost = (a_is_a_token.1, a_is_a_token.1, aa_runs_on)

kept_is_not_lost : (d : List Row) (i j : ℕ) (a b : List ℕ) → IsKept d i j a b → ¬ IsLost d i j a b
kept_is_not_lost d i j a b kept lost = kept.2 lost.2

-- ---- least pairs

-- the first token is the least before the second one is
greater_first_token_is_not_least : ¬ IsLeastPair (IsLost some_as 0 0) (record { first = 97 ∷ 97 ∷ []; second = 97 ∷ [] })
greater_first_token_is_not_least least = least.first.least (97 ∷ []) (inl (omega arith)) (97 ∷ [], a_after_a_is_lost)

greater_second_token_is_not_least : ¬ IsLeastPair (IsLost some_as 0 0) (record { first = 97 ∷ []; second = 97 ∷ 97 ∷ [] })
greater_second_token_is_not_least least = least.second.least (97 ∷ []) (inl (omega arith)) a_after_a_is_lost
