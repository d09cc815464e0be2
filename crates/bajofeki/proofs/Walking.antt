-- A walk along an automaton: where words lead, and what the places say of them.
use Rattle.std.proofs.Common.{◌≡◌, ℕ, ◌+◌, ◌-◌, ◌*◌, ◌/◌, ◌%◌, ◌<◌, ◌≤◌, ◌↔◌, ◌⊎◌, inl, inr, min, true, List, [], ◌∷◌, ◌++◌, length, get_or, refl, sym, ap, subst, ◌∙◌, arith, ⊎_elim, append_assoc}
use Rattle.std.specs.Prelude.{slice_get, Option, Some, None, IsSomeAnd, IfSome, is_some}
use Rattle.std.specs.List.{All}
use Rattle.std.specs.Char.{IsScalar}
use Rattle.std.specs.Str.{chars, IsUtf8, all_scalars}
use Rattle.std.proofs.lemmas.Bool.{and_parts, cases_lt, lt-ltb, le-ltb}
use Rattle.std.proofs.lemmas.Bool.Decides.{nat_tests}
use Rattle.std.proofs.lemmas.List.Elements.{All-nil, All-cons, All-push}
use Rattle.std.proofs.lemmas.Option.{slice_get_cases, slice_get_within}
use Rattle.std.proofs.lemmas.Str.{scalars-chars}
use Rattle.lalrpop_hir.specs.Range.{Range}
use Rattle.lalrpop_hir.specs.Tree.{Tree}
use Rattle.lalrpop_hir.specs.Winners.{Matched, IsOnlyStrongest}
use Rattle.lalrpop_dfa.specs.Dfa.{Row, StoredState, step, run, after, edge_target, AreAscendingTests, RecognizesAll, IsRightKind, IsReject, IsStored, IsWellFormed}
use Rattle.lalrpop_dfa.specs.Stored.{EndBefore}
use Rattle.lalrpop_dfa.specs.declared.Kind.{Kind}
use Rattle.lalrpop_dfa.specs.declared.Kind.TheVariants.{Accepts, Reject, Neither}
use Rattle.lalrpop_dfa.proofs.AfterLaws.{after_push, run_append, run_within}
use Rattle.lalrpop_dfa.proofs.EdgeTargets.{the_some, step_of, leads_at, leads_between, before_at, has_value_at}
use Rattle.lalrpop_dfa.proofs.LongestLemmas.{unmatched}
use Rattle.lalrpop_dfa.proofs.Recognized.{recognized_by}
use Rattle.lalrpop_dense.specs.DenseTable.{TableNumbers, AreClasses, IsRowLike, IsTableFor, block_of_page, character_class, next_row, row_after}
use Rattle.bajofeki.specs.declared.walker.Walker.{Walker}
use Rattle.bajofeki.specs.Internal.Walking.{HasOnePlace, IsMet, IsWalkerOf, behind, behind_from, cell_of_block, first_of, next_of, row_says, says, state_says}

-- ---- words

-- the characters of a text are below the bound
scalar_below : (c : ℕ) → IsScalar c → c < 1114112
scalar_below c is = grind (arith, nat_tests)

all_below : (cs : List ℕ) → all_scalars cs ≡ true → All (λ c. c < 1114112) cs
all_below [] scalars = All-nil (λ c. c < 1114112)
all_below (c ∷ cs) scalars = let parts = and_parts _ (all_scalars cs) scalars in All-cons (λ n. n < 1114112) c cs (scalar_below c parts.0) (all_below cs parts.1)

pub text_scalars : (text : List ℕ) → IsUtf8 text → All (λ c. c < 1114112) (chars text)
text_scalars text utf8 = all_below (chars text) (scalars-chars text utf8)

-- ---- where words lead

pub behind_from_append : (w : Walker) (place : ℕ) (v u : List ℕ) → behind_from w place (v ++ u) ≡ behind_from w (behind_from w place v) u
behind_from_append w place [] u = refl
behind_from_append w place (c ∷ v) u = behind_from_append w (next_of w place c) v u

-- a word and what is after it
pub behind_append : (w : Walker) (v u : List ℕ) → behind w (v ++ u) ≡ behind_from w (behind w v) u
behind_append w v u = behind_from_append w (first_of w) v u

-- one character more
pub behind_push : (w : Walker) (v : List ℕ) (c : ℕ) → behind w (v ++ c ∷ []) ≡ next_of w (behind w v) c
behind_push w v c = behind_append w v (c ∷ [])

pub met_first : (w : Walker) → IsMet w (first_of w)
met_first w = record { word = []; scalars = All-nil (λ c. c < 1114112); reached = refl }

pub met_next : (w : Walker) (place c : ℕ) → IsMet w place → c < 1114112 → IsMet w (next_of w place c)
met_next w place c met below = record {
  word = met.word ++ c ∷ [];
  scalars = All-push (λ n. n < 1114112) met.word c met.scalars below;
  reached = ap (λ (p : ℕ). next_of w p c) met.reached ∙ sym (behind_push w met.word c);
}

pub met_behind : (w : Walker) (v : List ℕ) → All (λ c. c < 1114112) v → IsMet w (behind w v)
met_behind w v scalars = record { word = v; scalars = scalars; reached = refl }

-- ---- by a table

behind_rows : (w : Walker) (t : TableNumbers) → ((place c : ℕ) → next_of w place c ≡ next_row t place c) → (place : ℕ) (word : List ℕ) → behind_from w place word ≡ row_after t place word
behind_rows w t same place [] = refl
behind_rows w t same place (c ∷ word) = behind_rows w t same (next_of w place c) word ∙ ap (λ (p : ℕ). row_after t p word) (same place c)

-- the row of a place is within the cells
pub row_within : (w : Walker) (t : TableNumbers) (d : List Row) (place : ℕ) → first_of w ≡ t.start → ((place c : ℕ) → next_of w place c ≡ next_row t place c) → IsTableFor t d → IsMet w place
    → place + t.width < length t.cells
row_within w t d place first same right met =
    let there : place ≡ row_after t t.start met.word = met.reached ∙ behind_rows w t same (first_of w) met.word ∙ ap (λ (p : ℕ). row_after t p met.word) first in
    omega (arith, there, right.within met.word met.scalars)

pub class_below : (t : TableNumbers) (c : ℕ) → AreClasses t → character_class t c < t.width
class_below t c h =
    let place = min (c / 128) (length t.pages - 1) in
    let page : place < length t.pages = omega (arith, h.some_page) in
    h.below (block_of_page t (c / 128) * 128 + c % 128) (omega (arith, h.whole_blocks place page))

-- what a row says is the kind that it is like
pub like_says : (t : TableNumbers) (row : ℕ) (k : Kind) → IsRowLike t row k → k ≡ row_says t row
like_says t row Reject h = rw (lt-ltb row t.live h) refl
like_says t row Neither h = rw (le-ltb row t.live h.0, lt-ltb row t.accept h.1) refl
like_says t row (Accepts i) h = rw (le-ltb row t.live h.0, le-ltb row t.accept h.1) (ap (λ n. Accepts n) (sym h.2))

some_more : (found : Option Row) (P Q : Row → Type 0) → ((r : Row) → P r → Q r) → IsSomeAnd found P → IsSomeAnd found Q
some_more None P Q more h = h
some_more (Some r) P Q more h = more r h

pub table_walks : (w : Walker) (t : TableNumbers) (d : List Row) → first_of w ≡ t.start → ((place c : ℕ) → next_of w place c ≡ next_row t place c) → ((place : ℕ) → says w place ≡ row_says t place)
    → IsTableFor t d → IsWalkerOf w d
table_walks w t d first same said right = λ word scalars.
    let there : behind w word ≡ row_after t t.start word = behind_rows w t same (first_of w) word ∙ ap (λ (p : ℕ). row_after t p word) first in
    some_more (slice_get d (after d word)) (λ r. IsRowLike t (row_after t t.start word) r.kind) (λ r. r.kind ≡ says w (behind w word))
    (λ r like. like_says t (row_after t t.start word) r.kind like ∙ ap (row_says t) (sym there) ∙ sym (said (behind w word))) (right.alike word scalars)

-- one state has one row
pub table_one : (w : Walker) (t : TableNumbers) (d : List Row) → first_of w ≡ t.start → ((place c : ℕ) → next_of w place c ≡ next_row t place c) → IsTableFor t d → HasOnePlace w d
table_one w t d first same right = λ u v us vs e. there u ∙ right.one_row u v us vs e ∙ sym (there v)
  where
    there : (word : List ℕ) → behind w word ≡ row_after t t.start word
    there word = behind_rows w t same (first_of w) word ∙ ap (λ (p : ℕ). row_after t p word) first

-- ---- by the states

behind_states : (w : Walker) (d : List Row) → ((place c : ℕ) → next_of w place c ≡ step d place c) → (place : ℕ) (word : List ℕ) → behind_from w place word ≡ run d place word
behind_states w d same place [] = refl
behind_states w d same place (c ∷ word) = behind_states w d same (next_of w place c) word ∙ ap (λ (p : ℕ). run d p word) (same place c)

pub state_within : (w : Walker) (d : List Row) (place : ℕ) → first_of w ≡ 0 → ((place c : ℕ) → next_of w place c ≡ step d place c) → IsWellFormed d → IsMet w place → place < length d
state_within w d place first same well met =
    let there : place ≡ after d met.word = met.reached ∙ behind_states w d same (first_of w) met.word ∙ ap (λ (p : ℕ). run d p met.word) first in
    omega (arith, there, run_within d 0 met.word well well.some)

said_there : (d : List Row) (p : ℕ) → p < length d → IsSomeAnd (slice_get d p) (λ r. r.kind ≡ state_says (slice_get d p))
said_there d p l = elim (slice_get_cases d p).1 [
  | inl x ↦ subst (λ o. IsSomeAnd o (λ (r : Row). r.kind ≡ state_says o)) (sym x.2) refl
  | inr past ↦ absurd (omega (arith, past.0))
]

pub states_walk : (w : Walker) (d : List Row) → first_of w ≡ 0 → ((place c : ℕ) → next_of w place c ≡ step d place c) → ((place : ℕ) → says w place ≡ state_says (slice_get d place))
    → IsWellFormed d → IsWalkerOf w d
states_walk w d first same said well = λ word scalars.
    let there : behind w word ≡ after d word = behind_states w d same (first_of w) word ∙ ap (λ (p : ℕ). run d p word) first in
    some_more (slice_get d (after d word)) (λ r. r.kind ≡ state_says (slice_get d (after d word))) (λ r. r.kind ≡ says w (behind w word))
    (λ r kind. kind ∙ ap (λ (p : ℕ). state_says (slice_get d p)) (sym there) ∙ sym (said (behind w word))) (said_there d (after d word) (run_within d 0 word well well.some))

-- the place is the state
pub states_one : (w : Walker) (d : List Row) → first_of w ≡ 0 → ((place c : ℕ) → next_of w place c ≡ step d place c) → HasOnePlace w d
states_one w d first same = λ u v us vs e. there u ∙ e ∙ sym (there v)
  where
    there : (word : List ℕ) → behind w word ≡ after d word
    there word = behind_states w d same (first_of w) word ∙ ap (λ (p : ℕ). run d p word) first

pub state_rejects : (d : List Row) (p : ℕ) → p < length d → state_says (slice_get d p) ≡ Reject → IsReject d p
state_rejects d p l reject =
    some_more (slice_get d p) (λ r. r.kind ≡ state_says (slice_get d p)) (λ r. r.kind ≡ Reject) (λ r kind. kind ∙ reject) (said_there d p l)

-- ---- what the places say, if the automaton recognizes some trees

module _ (w : Walker) (d : List Row) (h : IsWalkerOf w d) where
  -- the state after a word is of the kind that its place says, and the other way round
  pub said_kind : (v : List ℕ) (k : Kind) → All (λ c. c < 1114112) v → says w (behind w v) ≡ k → IsSomeAnd (slice_get d (after d v)) (λ r. r.kind ≡ k)
  said_kind v k scalars said =
      some_more (slice_get d (after d v)) (λ r. r.kind ≡ says w (behind w v)) (λ r. r.kind ≡ k) (λ r kind. kind ∙ said) (h v scalars)

  pub kind_said : (v : List ℕ) (k : Kind) → All (λ c. c < 1114112) v → IsSomeAnd (slice_get d (after d v)) (λ r. r.kind ≡ k) → says w (behind w v) ≡ k
  kind_said v k scalars kind =
      let row = the_some (slice_get d (after d v)) (λ r. r.kind ≡ k) kind in
      let said : row.0.kind ≡ says w (behind w v) = subst (λ o. IsSomeAnd o (λ r. r.kind ≡ says w (behind w v))) row.1.0 (h v scalars) in
      sym said ∙ row.1.1

  -- the same of the state that one more character leads to
  pub next_rejects : (v : List ℕ) (c : ℕ) → All (λ c. c < 1114112) v → c < 1114112 → says w (next_of w (behind w v) c) ≡ Reject → IsReject d (step d (after d v) c)
  next_rejects v c scalars below said =
      subst (IsReject d) (after_push d v c) (said_kind (v ++ c ∷ []) Reject (All-push (λ n. n < 1114112) v c scalars below) (ap (says w) (behind_push w v c) ∙ said))

  pub next_goes_on : (v : List ℕ) (c : ℕ) → All (λ c. c < 1114112) v → c < 1114112 → ¬ (says w (next_of w (behind w v) c) ≡ Reject) → ¬ IsReject d (step d (after d v) c)
  next_goes_on v c scalars below not reject =
      not (ap (says w) (sym (behind_push w v c))
      ∙ kind_said (v ++ c ∷ []) Reject (All-push (λ n. n < 1114112) v c scalars below) (subst (IsReject d) (sym (after_push d v c)) reject))

  module _ (ts : List Tree) (ps : List ℕ) (recognizes : RecognizesAll d ts ps) where
    -- what the place says of the word is right
    pub says_right : (v : List ℕ) → All (λ c. c < 1114112) v → IsRightKind ts ps v (says w (behind w v))
    says_right v scalars =
        let row = the_some (slice_get d (after d v)) (λ r. r.kind ≡ says w (behind w v)) (h v scalars) in
        subst (IsRightKind ts ps v) row.1.1 (subst (λ o. IsSomeAnd o (λ r. IsRightKind ts ps v r.kind)) row.1.0 (recognizes.kinds v))

    -- it accepts just the one strongest tree that matches the word
    pub accepts_strongest : (v : List ℕ) (i : ℕ) → All (λ c. c < 1114112) v → (says w (behind w v) ≡ Accepts i) ↔ IsOnlyStrongest ts ps v i
    accepts_strongest v i scalars = (
      λ said. subst (IsRightKind ts ps v) said (says_right v scalars),
      λ only. kind_said v (Accepts i) scalars ((recognized_by d ts ps recognizes i v).1 only),
    )

    still_rejects : (p : ℕ) (u : List ℕ) → IsReject d p → IsReject d (run d p u)
    still_rejects p [] reject = reject
    still_rejects p (c ∷ u) reject = still_rejects (step d p c) u (recognizes.stays p c reject)

    -- where it rejects, no tree matches the word or a longer one
    pub none_behind_reject : (v u : List ℕ) → All (λ c. c < 1114112) v → says w (behind w v) ≡ Reject → ¬ Matched ts (v ++ u)
    none_behind_reject v u scalars said =
        unmatched ts ps (v ++ u) (slice_get d (after d (v ++ u))) (subst (IsReject d) (sym (run_append d 0 v u)) (still_rejects (after d v) u (said_kind v Reject scalars said)))
        (recognizes.kinds (v ++ u))

    -- and where each character leads to a place that rejects, no longer one
    pub none_behind_last : (v : List ℕ) (c : ℕ) (u : List ℕ) → All (λ c. c < 1114112) v → c < 1114112
        → ((n : ℕ) → n < 1114112 → says w (next_of w (behind w v) n) ≡ Reject) → ¬ Matched ts (v ++ c ∷ u)
    none_behind_last v c u scalars below last m =
        none_behind_reject (v ++ c ∷ []) u (All-push (λ n. n < 1114112) v c scalars below) (ap (says w) (behind_push w v c) ∙ last c below)
        (subst (Matched ts) (sym (append_assoc v (c ∷ []) u)) m)

-- ---- the first value that leads to a state that doesn't reject

-- where the values lead from the state p
pub record AreEdges (d : List Row) (p : ℕ) (ts : List (Range × ℕ)) (other : ℕ) : Type 0 where
  pub leads : (c : ℕ) → step d p c ≡ edge_target ts other c
  pub ascending : AreAscendingTests ts

pub edges_of : (d : List Row) (p : ℕ) (ts : List (Range × ℕ)) (other : ℕ) (s : StoredState) → IsWellFormed d → IsSomeAnd (slice_get d p) (λ r. IsStored r s) → other ≡ s.other
    → IsSomeAnd (slice_get d p) (λ r. ts ≡ r.tests) → AreEdges d p ts other
edges_of d p ts other s well stored o tests =
    let row = the_some (slice_get d p) (λ r. IsStored r s) stored in
    let same : ts ≡ row.0.tests = subst (λ x. IsSomeAnd x (λ r. ts ≡ r.tests)) row.1.0 tests in
    let others : other ≡ row.0.other = o ∙ row.1.1.other in
    record {
      leads = λ c. step_of d p c row.0 row.1.0 ∙ ap (λ (x : List (Range × ℕ)). edge_target x row.0.other c) (sym same) ∙ ap (λ (n : ℕ). edge_target ts n c) (sym others);
      ascending = subst AreAscendingTests (sym same) (well.ascending p row.0 row.1.0);
    }

module _ (d : List Row) (p : ℕ) (ts : List (Range × ℕ)) (other : ℕ) (edges : AreEdges d p ts other) (k next : ℕ) (passed : EndBefore ts k next) where
  -- values before the next test, and after those before it, lead along the other edge
  pub by_others : (c : ℕ) → next ≤ c → ((t : Range × ℕ) → slice_get ts k ≡ Some t → c < t.0.start) → step d p c ≡ other
  by_others c from behind = edges.leads c ∙ leads_between ts edges.ascending k other c (λ j t l e. omega (arith, passed j t l e)) behind

  -- at the end each value after the tests does
  pub by_others_last : (c : ℕ) → length ts ≤ k → next ≤ c → step d p c ≡ other
  by_others_last c end from = by_others c from (λ t e. absurd (omega (arith, slice_get_within ts k t e)))

  module _ (t : Range × ℕ) (at : slice_get ts k ≡ Some t) where
    its_start : (u : Range × ℕ) → slice_get ts k ≡ Some u → u.0.start ≡ t.0.start
    its_start u e = let same : u ≡ t = (let g : Some u ≡ Some t = sym e ∙ at in cc) in ap (λ (x : Range × ℕ). x.0.start) same

    pub by_others_before : (c : ℕ) → next ≤ c → c < t.0.start → step d p c ≡ other
    by_others_before c from less = by_others c from (λ u e. omega (arith, its_start u e))

    -- values of the test lead to its target
    pub by_its_test : (c : ℕ) → t.0.start ≤ c → c ≤ t.0.end → step d p c ≡ t.1
    by_its_test c from to = edges.leads c ∙ leads_at ts edges.ascending k other c t at (from, to)

    pub its_first : (c : ℕ) → c ≡ t.0.start → step d p c ≡ t.1
    its_first c e = by_its_test c (omega arith) (omega (arith, has_value_at ts edges.ascending k t at))

    -- if all values before reject, and the other edge does or there are no values between, all values before the test do
    pub reject_before : ((c : ℕ) → c < next → IsReject d (step d p c)) → IsReject d other ⊎ (t.0.start ≤ next) → (c : ℕ) → c < t.0.start → IsReject d (step d p c)
    reject_before before way c less = ⊎_elim (λ (x : c < next). before c x) (λ (x : next ≤ c). behind x way) (cases_lt c next)
      where
        behind : next ≤ c → IsReject d other ⊎ (t.0.start ≤ next) → IsReject d (step d p c)
        behind x (inl reject) = subst (IsReject d) (sym (by_others_before c x less)) reject
        behind x (inr none) = absurd (omega arith)

    -- and if its target rejects, those of the test too
    pub reject_through : ((c : ℕ) → c < t.0.start → IsReject d (step d p c)) → IsReject d t.1 → (c : ℕ) → c < t.0.end + 1 → IsReject d (step d p c)
    reject_through before target c less =
        ⊎_elim (λ (x : c < t.0.start). before c x) (λ (x : t.0.start ≤ c). subst (IsReject d) (sym (by_its_test c x (omega arith))) target) (cases_lt c t.0.start)

    pub passed_through : EndBefore ts (k + 1) (t.0.end + 1)
    passed_through j u l e =
        ⊎_elim (λ (x : j < k). omega (arith, before_at ts edges.ascending j k u t x e at, has_value_at ts edges.ascending k t at))
        (λ (x : k ≤ j). let i : j ≡ k = omega arith in
        let same : u ≡ t = (let g : Some u ≡ Some t = sym e ∙ (ap (slice_get ts) i ∙ at) in cc) in omega (arith, ap (λ (x : Range × ℕ). x.0.end) same))
        (cases_lt j k)

-- ---- rows that lead only to dead ones

-- a character of the page
pub on_in_page : (t : TableNumbers) (row page offset : ℕ) → page < length t.pages → page < 8704 → offset < 128 → t.live ≤ cell_of_block t row (get_or t.pages page 0) offset
    → (c : ℕ) × ((c < 1114112) × (t.live ≤ next_row t row c))
on_in_page t row page offset within few below live =
    let c = page * 128 + offset in
    let its_page : min (c / 128) (length t.pages - 1) ≡ page = omega arith in
    let its_offset : c % 128 ≡ offset = omega arith in
    let same : next_row t row c ≡ cell_of_block t row (get_or t.pages page 0) offset =
    ap (λ (k : ℕ). cell_of_block t row (get_or t.pages k 0) (c % 128)) its_page ∙ ap (λ (k : ℕ). cell_of_block t row (get_or t.pages page 0) k) its_offset in
    (c, (omega arith, omega (arith, same, live)))

pub some_found : (o : Option ℕ) (P : ℕ → Type 0) → IfSome o P → is_some o ≡ true → (x : ℕ) × P x
some_found None P h is = cc
some_found (Some x) P h is = (x, h)
