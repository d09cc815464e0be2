use Rattle.std.proofs.Common.{◌≡◌, ℕ, ◌+◌, ◌-◌, ◌<◌, ◌≤◌, inl, inr, [], ◌∷◌, ◌++◌, length, take, refl, sym, subst, ◌∙◌, arith}
use Rattle.std.proofs.lemmas.Bool.{cases_lt, false≢true}
use Rattle.std.proofs.lemmas.List.{get_or_read, append-nil}
use Rattle.lalrpop_re.specs.Internal.Steps.{EndsWith}
use Rattle.lalrpop_re.proofs.Searching.{ends-tested, more-ends, ends-more}
use Rattle.lalrpop_re.proofs.search.next_state.Goals as goal
use Rattle.lalrpop_re.proofs.search.next_state.Goals.{else-end-read-via-then-end-read+else-ends_with, else-end-read-via-else-end-read}

-- the greatest number so far is the greatest of all
none-above : (P : ℕ → Type 0) (read i : ℕ) → P i → (read < i → ¬ P i) → i ≤ read
none-above P read i p no_more = elim (cases_lt read i) [ inl l ↦ absurd (no_more l p) | inr l ↦ l ]

pub returns-then-ends_with : goal.returns-then-ends_with
returns-then-ends_with c =
    let end = c.args.end.now in
    let read = c.loop-read.read in
    let within : read - 1 < length end = omega arith in
    let letter = sym (get_or_read end (read - 1) c.index-end-read.result within c.index-end-read.is 0) ∙ c.if-end-read.true in
    let ends = (ends-tested (take c.args.state end) (take (read - 1) end) _ c.if-ends_with.ensures.value).0 refl in
    let n : (read - 1) + 1 ≡ read = omega arith in
    record {
      within = c.loop-read.invariant.within;
      read = subst (λ i. EndsWith (take c.args.state end ++ c.args.c ∷ []) (take i end)) n (more-ends end (take c.args.state end) c.args.c (read - 1) within ends letter);
      most = λ i h e. none-above (λ i. EndsWith (take c.args.state end ++ c.args.c ∷ []) (take i end)) read i e (λ l. c.loop-read.invariant.none_above i l h);
    }

-- one number less is left
one-less : (P : ℕ → Type 0) (read most : ℕ) → 0 < read → ((i : ℕ) → read < i → i ≤ most → ¬ P i) → ¬ P ((read - 1) + 1) → (i : ℕ) → read - 1 < i → i ≤ most → ¬ P i
one-less P read most h above here i l m p =
    elim (cases_lt read i) [ inl g ↦ above i g m p | inr g ↦ (let same : i ≡ (read - 1) + 1 = omega arith in here (subst P same p)) ]

pub loop-read-preserved : goal.loop-read-preserved
loop-read-preserved c =
    let end = c.args.end.now in
    let read = c.loop-read.read in
    let within : read - 1 < length end = omega arith in
    let letter = sym (get_or_read end (read - 1) c.index-end-read.result within c.index-end-read.is 0) in
    let here : ¬ EndsWith (take c.args.state end ++ c.args.c ∷ []) (take ((read - 1) + 1) end) =
    λ e. let r = ends-more end (take c.args.state end) c.args.c (read - 1) within e in
    elim c.else-end-read.branch [
      | else-end-read-via-then-end-read+else-ends_with w ↦ false≢true ((ends-tested (take c.args.state end) (take (read - 1) end) _ w.if-ends_with.ensures.value).1 r.0)
      | else-end-read-via-else-end-read w ↦ w.if-end-read.false (sym letter ∙ r.1)
    ] in
    record {
      within = omega arith;
      none_above = one-less (λ i. EndsWith (take c.args.state end ++ c.args.c ∷ []) (take i end)) read (c.args.state + 1) c.loop-read-test.true c.loop-read.invariant.none_above here;
    }

pub returns : goal.returns
returns c =
    let end = c.args.end.now in
    record {
      within = omega arith;
      read = (take c.args.state end ++ c.args.c ∷ [], sym (append-nil (take c.args.state end ++ c.args.c ∷ [])));
      most = λ i h e. none-above (λ i. EndsWith (take c.args.state end ++ c.args.c ∷ []) (take i end)) 0 i e (λ l. c.loop-read.invariant.none_above i (omega arith) h);
    }
