-- Cases of specs/Cutting.antt: one call, an automaton that looks at no more than the next character, and the end of a text.
use Rattle.std.proofs.Common.{◌≡◌, ◌≢◌, ℕ, zero, suc, List, [], ◌∷◌, ◌++◌, true, inl, inr, codes, refl, sym, ap, subst, arith}
use Rattle.std.proofs.lemmas.List.{append-nil}
use Rattle.std.specs.Prelude.{Option, Some, None, Ok, Err}
use Rattle.std.specs.Str.{chars}
use Rattle.lalrpop_hir.specs.Tokens.{Item}
use Rattle.lalrpop_dfa.specs.Dfa.{Row, run}
use Rattle.lalrpop_dfa.specs.Lookahead.{Accepted, IsAccepting, IsTrim, ReadsAtMost}
use Rattle.lalrpop_dfa.specs.declared.Kind.TheVariants.{Accepts, Reject, Neither}
use Rattle.lalrpop_dense.specs.Cutting.{Cutting, start_of, left_of, IsPaid, GivesItem, with_places, most_steps}

-- ---- one call

nothing_is_left : (d : List Row) (spare : Option ℕ) → GivesItem (start_of d [] spare) None (start_of d [] spare)
nothing_is_left d spare = (refl, inr refl)

end_told_early : (d : List Row) (spare : Option ℕ) (new : Cutting) → ¬ GivesItem (start_of d (codes "a") spare) None new
end_told_early d spare new (same, end) = elim end [ inl over ↦ absurd (cc) | inr none ↦ absurd (cc) ]

item_behind_a_fault : (old new : Cutting) (x : Item) → old.is_over ≡ true → ¬ GivesItem old (Some x) new
item_behind_a_fault old new (Ok m) over g = cc (g.0, over)
item_behind_a_fault old new (Err f) over g = cc (g.0, over)

none_left_behind_a_fault : (d : List Row) (text : List ℕ) (spare : Option ℕ) → left_of (record (start_of d text spare) { is_over = true }) ≡ 0
none_left_behind_a_fault d text spare = refl

-- ---- what it costs

-- every value leads to a reject state
abbrev closed : List Row
closed = record { kind = Accepts 0; tests = []; other = 1; items = [] } ∷ record { kind = Reject; tests = []; other = 1; items = [] } ∷ []

closed_matches_once : (v x : List ℕ) → v ≢ [] → ¬ Accepted closed (v ++ x)
closed_matches_once [] x some a = some refl
closed_matches_once (c ∷ v) x some a = let (i, e) : (i : ℕ) × (Reject ≡ Accepts i) = subst (IsAccepting closed) (stays (v ++ x)) a in cc
  where
    stays : (w : List ℕ) → run closed 1 w ≡ 1
    stays [] = refl
    stays (c ∷ w) = stays w

reads_none : ReadsAtMost closed 0
reads_none = (trim, λ m (v, x, h). absurd (closed_matches_once v [] h.some (subst (Accepted closed) (sym (append-nil v)) h.word)))
  where
    trim : IsTrim closed
    trim zero o = ([], (0, refl))
    trim (suc zero) o = cc
    trim (suc (suc p)) o = absurd o

-- a text behind a fault
abbrev over : Option ℕ → ℕ → Cutting
over spare steps = record { automaton = closed; text = []; at = 0; is_over = true; spare = spare; steps = steps }

-- ---- without a memo

-- if nothing is cut off, nothing may be read
nothing_is_free : IsPaid (over None 3) (over None 3)
nothing_is_free = (omega arith, λ n most. omega arith)

a_step_has_to_be_paid : ¬ IsPaid (over None 3) (over None 4)
a_step_has_to_be_paid paid = omega (arith, paid.1 0 reads_none)

-- ---- with one

-- 64 characters may be read where so many are to spare
the_spare_pays : IsPaid (over (Some 128) 5) (over (Some 64) 69)
the_spare_pays = (omega arith, omega arith)

more_than_the_spare : ¬ IsPaid (over (Some 128) 5) (over (Some 64) 70)
more_than_the_spare paid = omega (arith, paid.1)

no_memo_comes : ¬ IsPaid (over None 5) (over (Some 64) 5)
no_memo_comes paid = paid.1

no_memo_goes : ¬ IsPaid (over (Some 64) 5) (over None 5)
no_memo_goes paid = paid.1

steps_never_fall : ¬ IsPaid (over (Some 64) 3) (over (Some 65) 2)
steps_never_fall paid = omega (arith, paid.0)

-- after a fault nothing is given, and nothing read
nothing_behind_a_fault : GivesItem (over None 3) None (over None 3)
nothing_behind_a_fault = (refl, inl refl)

nothing_is_read_at_the_end : ¬ GivesItem (over (Some 64) 3) None (over (Some 63) 4)
nothing_is_read_at_the_end gives = omega (arith, ap (λ (x : Cutting). x.steps) gives.0)

-- ---- a whole text

-- three characters of `abc`, where at most 4 more are looked at
six_for_each : most_steps [] (97 ∷ 98 ∷ 99 ∷ []) (Some 4) ≡ 18
unfolding chars
six_for_each = refl

-- and by an automaton with one open state, where nothing limits them
an_open_state_for_each_byte : most_steps (record { kind = Neither; tests = []; other = 0; items = [] } ∷ []) (97 ∷ 98 ∷ 99 ∷ []) None ≡ 268
unfolding chars
an_open_state_for_each_byte = refl

-- ---- places

-- a token over `ab` at 3, and one over `c` after it
the_next_begins_where_one_ends : (p q : ℕ × ℕ)
    → with_places 3 (Ok (7, record { ref_ptr = p; now = codes "ab" }) ∷ Ok (8, record { ref_ptr = q; now = codes "c" }) ∷ [])
    ≡ Ok (record { index = 7; slice = record { ref_ptr = p; now = codes "ab" }; start = 3 })
    ∷ Ok (record { index = 8; slice = record { ref_ptr = q; now = codes "c" }; start = 5 }) ∷ []
the_next_begins_where_one_ends p q = refl
