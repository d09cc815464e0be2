use Rattle.std.proofs.Common.{Bool, nat_eq, ◌∙◌, ◌≡◌, ◌≢◌, ℕ, ◌+◌, ◌<◌, List, [], false, true, length, drop, arith, ap, sym, refl, subst, Bor}
use Rattle.std.specs.Prelude.{Option, Some, None, Ok, Err}
use Rattle.std.specs.Str.{IsUtf8, IsCharBoundary}
use Rattle.std.proofs.lemmas.Str.{IsCharBoundary-from_rest}
use Rattle.lalrpop_hir.specs.declared.token.TokenFault.{TokenFault}
use Rattle.lalrpop_dense.specs.Matching.{Matching}
use Rattle.lalrpop_dense.specs.Cutting.{Cutting, left_of, GivesItem}
use Rattle.lalrpop_dense.specs.Internal.Blocks.{IsNextMatch, IsPrepaid, IsPaidFor}
use Rattle.lalrpop_dense.specs.Internal.Finding.{matching_of, memo_of, prepaid_by, AreFoundUpTo}
use Rattle.lalrpop_dense.specs.declared.cutting.Finder.{Finder}
use Rattle.lalrpop_dense.specs.declared.cutting.Finder.TheVariants.{Plain, Remembering, Interpreting}
use Rattle.lalrpop_dense.specs.declared.cutting.Tokens.TheInside.{Inside}
use Rattle.lalrpop_dense.proofs.Cuttings.{cut_behind}
use Rattle.lalrpop_dense.proofs.Costs.{token_given, fault_given}
use Rattle.lalrpop_dense.proofs.Founds.{IsUpTo, IsFoundUpTo, up_to, found_with, found_without}
use Rattle.lalrpop_dense.proofs.cutting.Tokens.next_item.Goals as goal
use Rattle.lalrpop_dense.proofs.cutting.Tokens.next_item.Goals.{In-Some, In-None, in-Plain, in-Remembering, in-Interpreting}

abbrev view : Inside → Cutting
view i = record {
  automaton = (matching_of i.finder).automaton;
  text = i.text.now;
  at = i.at;
  is_over = i.is_over;
  spare = memo_of i.finder;
  steps = i.steps + prepaid_by i.finder;
}

-- the longest match was sought, and nothing else has changed
record IsSearched (old new : Inside) (found : Option (ℕ × Bor (List ℕ))) : Type 0 where
  pub is : IsFoundUpTo (view old) found (matching_of new.finder) (memo_of new.finder) (new.steps + prepaid_by new.finder)
  pub kept : new ≡ record old { finder = new.finder; steps = new.steps }

module _ (old new : Inside) (m j : Matching) (found result : Option (ℕ × Bor (List ℕ))) (steps : ℕ) (up : AreFoundUpTo old.text.now old.at old.finder) where
  abbrev stands : (f : Finder) → old.finder ≡ f → IsUpTo (view old).automaton old.text.now old.at (matching_of f)
  stands f is = subst (λ (g : Finder). IsUpTo (view old).automaton old.text.now old.at (matching_of g)) is up

  searched_with : old.finder ≡ Remembering m → found ≡ result → new ≡ record old { finder = Remembering j; steps = steps } → IsNextMatch m j result → IsPaidFor m j result old.steps steps
      → IsSearched old new found
  searched_with is same e next paid =
      let here = found_with (view old) m j result old.steps steps (stands (Remembering m) is) (ap (λ (f : Finder). memo_of f) is)
      (omega (arith, ap (λ (f : Finder). prepaid_by f) is)) next paid in
      rw (e, same) (record { is = here; kept = refl })

  searched_without : old.finder ≡ Plain m → found ≡ result → new ≡ record old { finder = Plain j; steps = steps } → IsNextMatch m j result → IsPrepaid m j result old.steps steps
      → IsSearched old new found
  searched_without is same e next paid =
      let here = found_without (view old) m j result old.steps steps (stands (Plain m) is) (ap (λ (f : Finder). memo_of f) is) (ap (λ (f : Finder). old.steps + prepaid_by f) is) next paid in
      rw (e, same) (record { is = here; kept = refl })

  searched_by_runs : old.finder ≡ Interpreting m → found ≡ result → new ≡ record old { finder = Interpreting j; steps = steps } → IsNextMatch m j result → IsPrepaid m j result old.steps steps
      → IsSearched old new found
  searched_by_runs is same e next paid =
      let here = found_without (view old) m j result old.steps steps (stands (Interpreting m) is) (ap (λ (f : Finder). memo_of f) is) (ap (λ (f : Finder). old.steps + prepaid_by f) is) next paid in
      rw (e, same) (record { is = here; kept = refl })

-- a token that is found is given
stands_behind : (old new : Inside) (found : Option (ℕ × Bor (List ℕ))) (x : ℕ × Bor (List ℕ)) → IsUtf8 (drop old.at old.text.now) → IsCharBoundary old.text.now old.at
    → found ≡ Some x → IsSearched old new found → IsCharBoundary new.text.now (new.at + length x.1.now) × AreFoundUpTo new.text.now (new.at + length x.1.now) new.finder
stands_behind old new found x u boundary is here =
    let h : IsSearched old new (Some x) = subst (IsSearched old new) is here in
    let ends : IsCharBoundary old.text.now (old.at + length x.1.now) =
    IsCharBoundary-from_rest old.text.now old.at (length x.1.now) boundary.0 (cut_behind _ _ u h.is.is_found.prefix.0) in
    rw h.kept (ends, up_to _ _ _ _ h.is.behind)

gives_token : (old new : Inside) (found : Option (ℕ × Bor (List ℕ))) (m : ℕ × Bor (List ℕ)) → IsUtf8 (drop old.at old.text.now) → old.is_over ≡ false → found ≡ Some m
    → IsSearched old new found
    → GivesItem (view old) (Some (Ok m)) (view (record new { at = new.at + length m.1.now }))
    × (left_of (view (record new { at = new.at + length m.1.now })) < left_of (view old))
gives_token old new found m u on is here =
    let h : IsSearched old new (Some m) = subst (IsSearched old new) is here in
    token_given (view old) (view (record new { at = new.at + length m.1.now })) m u on h.is.is_found
    (rw (ap (λ (j : Matching). j.automaton) h.is.behind) (ap (λ (i : Inside). later i) h.kept))
  where
    later : Inside → Cutting
    later i = record { automaton = (view old).automaton; text = i.text.now; at = i.at + length m.1.now; is_over = i.is_over; spare = memo_of new.finder; steps = new.steps + prepaid_by new.finder }

-- a fault where none is
some_left : (rest left : List ℕ) (b : Bool) → rest ≡ left → b ≡ nat_eq (length rest) 0 → b ≡ false → left ≢ []
some_left rest left b same is off none =
    let empty : nat_eq (length rest) 0 ≡ true = ap (λ (r : List ℕ). nat_eq (length r) 0) (same ∙ none) in
    let both : true ≡ false = sym empty ∙ sym is ∙ off in
    absurd (cc)

gives_fault : (old new : Inside) (found : Option (ℕ × Bor (List ℕ))) (fault : TokenFault) → IsUtf8 (drop old.at old.text.now) → old.is_over ≡ false → drop old.at old.text.now ≢ []
    → found ≡ None → fault.at ≡ old.at → IsSearched old new found
    → GivesItem (view old) (Some (Err fault)) (view (record new { is_over = true }))
    × (left_of (view (record new { is_over = true })) < left_of (view old))
gives_fault old new found fault u on some is at here =
    let h : IsSearched old new None = subst (IsSearched old new) is here in
    fault_given (view old) (view (record new { is_over = true })) fault u on some at h.is.is_found
    (rw (ap (λ (j : Matching). j.automaton) h.is.behind) (ap (λ (i : Inside). over i) h.kept))
  where
    over : Inside → Cutting
    over i = record { automaton = (view old).automaton; text = i.text.now; at = i.at; is_over = true; spare = memo_of new.finder; steps = new.steps + prepaid_by new.finder }

-- so the longest match was sought, by whatever finds it, where one is found and where none is
some_searched : (c : In-Some) → IsSearched c.self.inside c.match-self.self-inside c.match-self.found
some_searched c =
    elim c.match-self.branch [
      | in-Plain w ↦ (
          let e = w.next_match-found.ensures in
          searched_without c.self.inside c.match-self.self-inside w.in-Plain.matches w.next_match-found.new.self c.match-self.found w.next_match-found.result w.next_match-found.new.steps
          c.self.invariant.1 w.in-Plain.is w.found-is w.self-inside-is e.next e.paid
          )
      | in-Remembering w ↦ (
          let e = w.next_match-found-in-Remembering.ensures in
          searched_with c.self.inside c.match-self.self-inside w.in-Remembering.matches w.next_match-found-in-Remembering.new.self c.match-self.found w.next_match-found-in-Remembering.result w.next_match-found-in-Remembering.new.steps
          c.self.invariant.1 w.in-Remembering.is w.found-is w.self-inside-is (record { answer = e.answer; prefix = e.prefix; goes_on = e.goes_on; stays = e.stays })
          (record { paid = e.paid; read = e.read })
          )
      | in-Interpreting w ↦ (
          let e = w.next_match-found-in-Interpreting.ensures in
          searched_by_runs c.self.inside c.match-self.self-inside w.in-Interpreting.matches w.next_match-found-in-Interpreting.new.self c.match-self.found w.next_match-found-in-Interpreting.result w.next_match-found-in-Interpreting.new.steps
          c.self.invariant.1 w.in-Interpreting.is w.found-is w.self-inside-is e.next e.paid
          )
    ]

none_searched : (c : In-None) → IsSearched c.self.inside c.match-self.self-inside c.match-self.found
none_searched c =
    elim c.match-self.branch [
      | in-Plain w ↦ (
          let e = w.next_match-found.ensures in
          searched_without c.self.inside c.match-self.self-inside w.in-Plain.matches w.next_match-found.new.self c.match-self.found w.next_match-found.result w.next_match-found.new.steps
          c.self.invariant.1 w.in-Plain.is w.found-is w.self-inside-is e.next e.paid
          )
      | in-Remembering w ↦ (
          let e = w.next_match-found-in-Remembering.ensures in
          searched_with c.self.inside c.match-self.self-inside w.in-Remembering.matches w.next_match-found-in-Remembering.new.self c.match-self.found w.next_match-found-in-Remembering.result w.next_match-found-in-Remembering.new.steps
          c.self.invariant.1 w.in-Remembering.is w.found-is w.self-inside-is (record { answer = e.answer; prefix = e.prefix; goes_on = e.goes_on; stays = e.stays })
          (record { paid = e.paid; read = e.read })
          )
      | in-Interpreting w ↦ (
          let e = w.next_match-found-in-Interpreting.ensures in
          searched_by_runs c.self.inside c.match-self.self-inside w.in-Interpreting.matches w.next_match-found-in-Interpreting.new.self c.match-self.found w.next_match-found-in-Interpreting.result w.next_match-found-in-Interpreting.new.steps
          c.self.invariant.1 w.in-Interpreting.is w.found-is w.self-inside-is e.next e.paid
          )
    ]

pub invariant_of-self : goal.invariant_of-self
invariant_of-self c =
    let here = some_searched (goal.at.invariant_of-self c).In-Some in
    stands_behind c.self.inside c.match-self.self-inside c.match-self.found c.in-Some.matched (subst IsUtf8 c.range_from-rest.ensures.value c.range_from-rest.utf8) c.self.invariant.0 c.in-Some.is here

pub returns-in-Some-clause-gives : goal.returns-in-Some-clause-gives
returns-in-Some-clause-gives c =
    let here = some_searched (goal.at.returns-in-Some-clause-gives c).In-Some in
    rw (← c.self.view_is)
    (gives_token c.self.inside c.match-self.self-inside c.match-self.found c.in-Some.matched (subst IsUtf8 c.range_from-rest.ensures.value c.range_from-rest.utf8) c.if-self.false c.in-Some.is here).0

pub returns-in-Some-clause-goes : goal.returns-in-Some-clause-goes
returns-in-Some-clause-goes c =
    let here = some_searched (goal.at.returns-in-Some-clause-goes c).In-Some in
    rw (← c.self.view_is)
    (gives_token c.self.inside c.match-self.self-inside c.match-self.found c.in-Some.matched (subst IsUtf8 c.range_from-rest.ensures.value c.range_from-rest.utf8) c.if-self.false c.in-Some.is here).1

pub returns-in-None-clause-gives : goal.returns-in-None-clause-gives
returns-in-None-clause-gives c =
    let here = none_searched (goal.at.returns-in-None-clause-gives c).In-None in
    rw (← c.self.view_is)
    (gives_fault c.self.inside c.match-self.self-inside c.match-self.found (record { at = c.match-self.self-inside.at }) (subst IsUtf8 c.range_from-rest.ensures.value c.range_from-rest.utf8) c.if-self.false
    (some_left c.range_from-rest.result.now _ c.is_empty.result c.range_from-rest.ensures.value c.is_empty.ensures c.if-is_empty.false) c.in-None.is (ap (λ (i : Inside). i.at) here.kept) here).0

pub returns-in-None-clause-goes : goal.returns-in-None-clause-goes
returns-in-None-clause-goes c =
    let here = none_searched (goal.at.returns-in-None-clause-goes c).In-None in
    rw (← c.self.view_is)
    (gives_fault c.self.inside c.match-self.self-inside c.match-self.found (record { at = c.match-self.self-inside.at }) (subst IsUtf8 c.range_from-rest.ensures.value c.range_from-rest.utf8) c.if-self.false
    (some_left c.range_from-rest.result.now _ c.is_empty.result c.range_from-rest.ensures.value c.is_empty.ensures c.if-is_empty.false) c.in-None.is (ap (λ (i : Inside). i.at) here.kept) here).1
