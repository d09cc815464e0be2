-- Cases of specs/Lookahead.antt: two words, of which one begins the other; the empty word and another; and an automaton with a dead state.
use Rattle.std.proofs.Common.{◌≡◌, ◌≢◌, ℕ, zero, suc, ◌<◌, ◌≤◌, ◌⊎◌, inl, inr, ⊎_elim, List, [], ◌∷◌, ◌++◌, length, Some, None, refl, sym, ap, ◌∙◌, subst, arith, length-append}
use Rattle.std.specs.Prelude.{slice_get}
use Rattle.std.proofs.lemmas.Bool.{cases_lt}
use Rattle.std.proofs.lemmas.List.{append-nil, nil_from_length}
use Rattle.lalrpop_dfa.specs.Dfa.{Row, run}
use Rattle.lalrpop_dfa.specs.Lookahead.{IsAccepting, IsLive, IsLookahead, IsTrim, IsTrimmed, LeavesOpen, LooksAtMost, StaysOpenEver}
use Rattle.lalrpop_dfa.specs.declared.Kind.{Kind}
use Rattle.lalrpop_dfa.specs.declared.Kind.TheVariants.{Accepts, Reject, Neither}

-- ---- `a` and `abc`
abbrev Two : List ℕ → Type 0
Two w = (w ≡ 97 ∷ []) ⊎ (w ≡ 97 ∷ 98 ∷ 99 ∷ [])

two_length : (w : List ℕ) → Two w → (length w ≡ 1) ⊎ (length w ≡ 3)
two_length w (inl e) = inl (ap length e)
two_length w (inr e) = inr (ap length e)

b_leaves_it_open : LeavesOpen Two 1 (97 ∷ []) (98 ∷ [])
b_leaves_it_open = record { some = λ e. cc; word = inl refl; long = refl; none = none; later = (99 ∷ [], inr refl) }
  where
    none : (u z : List ℕ) → 98 ∷ [] ≡ u ++ z → u ≢ [] → ¬ Two ((97 ∷ []) ++ u)
    none [] z e some m = some refl
    none (c ∷ []) z e some m = elim (two_length (97 ∷ c ∷ []) m) [ inl l ↦ omega (arith, l) | inr l ↦ omega (arith, l) ]
    none (c ∷ d ∷ u) z e some m = absurd (omega (arith, ap length e, length-append u z))

at_most_one : LooksAtMost Two 1
at_most_one m (v, x, h) = ⊎_elim (λ (more : 1 < m). absurd (none more)) (λ (few : m ≤ 1). few) (cases_lt 1 m)
  where
    none : 1 < m → ⊥
    none more = elim (two_length ((v ++ x) ++ h.later.0) h.later.1) [
      | inl l ↦ elim (two_length v h.word) [
        | inl k ↦ omega (arith, l, k, h.long, length-append v x, length-append (v ++ x) h.later.0)
        | inr k ↦ omega (arith, l, k, h.long, length-append v x, length-append (v ++ x) h.later.0)
      ]
      | inr l ↦ elim (two_length v h.word) [
        | inl k ↦ (let end : h.later.0 ≡ [] = nil_from_length h.later.0 (omega (arith, l, k, h.long, more, length-append v x, length-append (v ++ x) h.later.0)) in
            let whole : Two (v ++ x) = subst Two (ap (λ (z : List ℕ). (v ++ x) ++ z) end ∙ append-nil (v ++ x)) h.later.1 in
            h.none x [] (sym (append-nil x)) (λ e. absurd (omega (arith, ap length e, h.long, more))) whole)
        | inr k ↦ omega (arith, l, k, h.long, more, length-append v x, length-append (v ++ x) h.later.0)
      ]
    ]

two_look_at_one : IsLookahead Two (Some 1)
two_look_at_one = (at_most_one, inr (97 ∷ [], 98 ∷ [], b_leaves_it_open))

one_is_not_none : ¬ IsLookahead Two (Some 0)
one_is_not_none h = omega (arith, h.0 1 (97 ∷ [], 98 ∷ [], b_leaves_it_open))

no_more_than_are_there : ¬ IsLookahead Two (Some 2)
no_more_than_are_there (most, inl e) = omega arith
no_more_than_are_there (most, inr can) = omega (arith, at_most_one 2 can)

there_is_a_bound : ¬ IsLookahead Two None
there_is_a_bound ever = omega (arith, at_most_one 2 (ever 2))

no_word_stays_open : ¬ StaysOpenEver Two (λ w. w ≡ 97 ∷ [])
no_word_stays_open ever = (let (v, x, (is, h)) = ever 2 in omega (arith, at_most_one 2 (v, x, h)))

-- ---- the empty word is no match that stays open
abbrev EmptyToo : List ℕ → Type 0
EmptyToo w = (w ≡ []) ⊎ (w ≡ 97 ∷ 98 ∷ 99 ∷ [])

the_empty_word_is_not_open : LooksAtMost EmptyToo 0
the_empty_word_is_not_open m (v, x, h) = by_word h.word h.later.1
  where
    by_word : EmptyToo v → EmptyToo ((v ++ x) ++ h.later.0) → m ≤ 0
    by_word (inl e) later = absurd (h.some e)
    by_word (inr e) (inl l) = absurd (omega (arith, ap length e, ap length l, length-append v x, length-append (v ++ x) h.later.0))
    by_word (inr e) (inr l) = omega (arith, ap length e, ap length l, h.long, length-append v x, length-append (v ++ x) h.later.0)

-- ---- START accepts; each value leads on to a state that waits in vain
abbrev leads_to : Kind → ℕ → Row
leads_to kind p = record { kind = kind; tests = []; other = p; items = [] }

abbrev vain : List Row
vain = leads_to Neither 1 ∷ leads_to (Accepts 0) 2 ∷ leads_to Neither 2 ∷ []

abbrev trimmed : List Row
trimmed = leads_to Neither 1 ∷ leads_to (Accepts 0) 2 ∷ leads_to Reject 2 ∷ []

stays_there : (z : List ℕ) → run vain 2 z ≡ 2
stays_there [] = refl
stays_there (c ∷ z) = stays_there z

the_last_is_dead : ¬ IsLive vain 2
the_last_is_dead (z, a) = let (i, e) : (i : ℕ) × (Neither ≡ Accepts i) = subst (IsAccepting vain) (stays_there z) a in cc e

so_it_is_not_trim : ¬ IsTrim vain
so_it_is_not_trim trim = the_last_is_dead (trim 2 refl)

it_is_trimmed : IsTrimmed vain trimmed
it_is_trimmed = record { same_length = refl; each = each }
  where
    each : (p : ℕ) (r s : Row) → slice_get vain p ≡ Some r → slice_get trimmed p ≡ Some s → (IsLive vain p × (s ≡ r)) ⊎ ((¬ IsLive vain p) × (s ≡ record r { kind = Reject }))
    each zero r s at there = inl ((7 ∷ [], (0, refl)), cc)
    each (suc zero) r s at there = inl (([], (0, refl)), cc)
    each (suc (suc zero)) r s at there =
        inr (the_last_is_dead, (let a : leads_to Neither 2 ≡ r = cc in let b : leads_to Reject 2 ≡ s = cc in subst (λ (x : Row). s ≡ record x { kind = Reject }) a (sym b)))
    each (suc (suc (suc p))) r s at there = absurd (let e : None ≡ Some r = at in cc)
