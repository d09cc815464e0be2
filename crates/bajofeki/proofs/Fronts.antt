-- Walking along a text to its first match: what settles the piece at the front, and what shows that more may come.
use Rattle.std.proofs.Common.{◌≡◌, ◌≢◌, ℕ, ◌+◌, ◌<◌, ◌≤◌, ◌⊎◌, inl, inr, List, [], ◌++◌, length, take, drop, max, arith, refl, sym, ap, subst, ◌∙◌, length-take, length-drop}
use Rattle.std.specs.Prelude.{Option, Some, None, IsSomeAnd, slice_get}
use Rattle.std.specs.Str.{chars, IsUtf8, IsCharBoundary}
use Rattle.std.specs.Char.{encode_utf8}
use Rattle.std.proofs.lemmas.Bool.{cases_order, cases_lt}
use Rattle.std.proofs.lemmas.Str.{IsUtf8-drop, IsUtf8-take, IsCharBoundary-from_take}
use Rattle.std.proofs.lemmas.List.{take-append-drop, append-nil}
use Rattle.lalrpop_hir.specs.Tree.{Tree}
use Rattle.lalrpop_hir.specs.Longest.{IsMatch, IsLongest}
use Rattle.lalrpop_hir.specs.Winners.{Matched, IsStrongest, IsOnlyStrongest}
use Rattle.lalrpop_hir.proofs.Cuts.{IsCut, cut_more, cut_within, ends_there}
use Rattle.lalrpop_dfa.specs.Dfa.{Row, after, RecognizesAll, IsRightKind}
use Rattle.lalrpop_dfa.specs.declared.Kind.{Kind}
use Rattle.lalrpop_dfa.specs.declared.Kind.TheVariants.{Accepts, Reject, Neither}
use Rattle.lalrpop_rules.specs.Found.{MatchesAt, NoMatchBefore}
use Rattle.lalrpop_rules.specs.Pieces.{IsFault}
use Rattle.bajofeki.specs.Internal.Reach.{AreAlike, IsSettledBy, IsFaultSettledBy}
use Rattle.bajofeki.specs.Internal.Kept.{IsFront}
use Rattle.bajofeki.proofs.Alike.{alike_less, alike_whole}
use Rattle.bajofeki.proofs.Settling.{settled_longest, settled_fault}

-- each text that is alike in so many bytes has a piece of this rule and size at its front
abbrev pub IsFrontBy : List Tree → List ℕ → List ℕ → Option ℕ → ℕ → ℕ → Type 0
IsFrontBy ts ps text rule size reach = (other : List ℕ) → AreAlike reach text other → (slice : List ℕ) × ((length slice ≡ size) × IsFront ts ps other rule slice)

-- at each character before the place, the first `reach` bytes settle what matches there
abbrev pub AreRead : List Tree → List ℕ → ℕ → ℕ → Type 0
AreRead ts text at reach = (k : ℕ) → k < at → IsCharBoundary text k → (m : ℕ) × ((k + m ≤ reach) × IsSettledBy ts (drop k text) m)

pub read_start : (ts : List Tree) (text : List ℕ) → AreRead ts text 0 0
read_start ts text k less here = absurd (omega (arith, less))

-- within a character no character begins
pub no_boundary : (text rest rest2 : List ℕ) (at at2 c n : ℕ) → IsUtf8 text → IsCut text at rest → rest ≡ encode_utf8 c ++ rest2
    → at2 ≡ at + length (encode_utf8 c) → at < n → n < at2 → ¬ IsCharBoundary text n
no_boundary text rest rest2 at at2 c n u h e l above below here =
    let later = cut_more text rest rest2 at at2 c u h e l in
    let size : length (take n text) ≡ n = omega (arith, length-take n text, here.0) in
    let whole : take n text ≡ take at2 text =
    ends_there text rest rest2 (take n text) at at2 c h e l (drop n text, (sym (take-append-drop n text), IsUtf8-take text n u here))
    (omega arith) (omega arith) in
    omega (arith, ap length whole, later.place)

-- one character more
pub read_more : (ts : List Tree) (text rest rest2 : List ℕ) (at at2 c reach reach2 m : ℕ) → IsUtf8 text → IsCut text at rest → rest ≡ encode_utf8 c ++ rest2
    → at2 ≡ at + length (encode_utf8 c) → AreRead ts text at reach → reach ≤ reach2 → at + m ≤ reach2 → IsSettledBy ts (drop at text) m
    → AreRead ts text at2 reach2
read_more ts text rest rest2 at at2 c reach reach2 m u h e l read le far settled k less here = by_order (cases_order k at)
  where
    by_order : (k ≡ at) ⊎ ((k < at) ⊎ (at < k)) → (n : ℕ) × ((k + n ≤ reach2) × IsSettledBy ts (drop k text) n)
    by_order (inl same) = (m, (omega (arith, same, far), subst (λ (p : ℕ). IsSettledBy ts (drop p text) m) (sym same) settled))
    by_order (inr (inl earlier)) = let r = read k earlier here in (r.0, (omega (arith, r.1.0, le), r.1.1))
    by_order (inr (inr later)) = absurd (no_boundary text rest rest2 at at2 c k u h e l later less here)

-- what matches a word is its only strongest tree, if an automaton recognizes the trees
pub only_strongest : (d : List Row) (ts : List Tree) (ps w : List ℕ) (i : ℕ) → RecognizesAll d ts ps → IsStrongest ts ps w i → IsOnlyStrongest ts ps w i
only_strongest d ts ps w i h s = at (slice_get d (after d w)) (h.kinds w)
  where
    by_kind : (k : Kind) → IsRightKind ts ps w k → IsOnlyStrongest ts ps w i
    by_kind (Accepts j) only = (s, λ k t. only.1 k t ∙ sym (only.1 i s))
    by_kind Reject none = absurd (none (i, s.0))
    by_kind Neither none = absurd (none (i, s.0))

    at : (o : Option Row) → IsSomeAnd o (λ r. IsRightKind ts ps w r.kind) → IsOnlyStrongest ts ps w i
    at None none = absurd none
    at (Some r) k = by_kind r.kind k

-- ---- the piece at the front

-- a fault before a match
pub fault_before : (ts : List Tree) (ps text rest p : List ℕ) (at k i reach reach2 : ℕ) → IsCut text at rest → k ≡ at → 0 < k
    → NoMatchBefore ts text at → AreRead ts text at reach → reach ≤ reach2 → IsLongest ts ps (drop k text) (Some (i, p)) → k + length p ≤ reach2
    → IsFrontBy ts ps text None k reach2
fault_before ts ps text rest p at k i reach reach2 cut here some before read le longest far = λ other alike.
    (take at text, (cut.place ∙ sym here, settled_fault ts text other (take at text) reach2 settled alike is))
  where
    there : k ≡ length (take at text)
    there = here ∙ sym cut.place

    is : IsFault ts text (take at text)
    is = record {
      front = (rest, cut.split);
      some = λ none. omega (arith, cut.place, ap length none, here, some);
      nothing = subst (λ (n : ℕ). NoMatchBefore ts text n) (sym cut.place) before;
      ends = inr (subst (λ (n : ℕ). MatchesAt ts text n) there (p, longest.0));
    }

    settled : IsFaultSettledBy ts text (take at text) reach2
    settled = record {
      each = λ n less begins. let r = read n (omega (arith, less, cut.place)) begins in (r.0, (omega (arith, r.1.0, le), r.1.1));
      ends = inr (p, (subst (λ (n : ℕ). IsMatch ts (drop n text) p) there longest.0, omega (arith, there, far)));
    }

-- a fault to the end
pub fault_to_end : (ts : List Tree) (ps text : List ℕ) (at : ℕ) → IsUtf8 text → 0 < length text → at ≡ length text → NoMatchBefore ts text at
    → IsFrontBy ts ps text None (length text) (length text + 1)
fault_to_end ts ps text at u some here before = λ other alike.
    (text, (refl, subst (λ (t : List ℕ). IsFault ts t text) (sym (alike_whole (length text + 1) text other (omega arith) alike)) is))
  where
    is : IsFault ts text text
    is = record {
      front = ([], sym (append-nil text));
      some = λ none. omega (arith, some, ap length none);
      nothing = subst (λ (n : ℕ). NoMatchBefore ts text n) here before;
      ends = inl refl;
    }

-- a token
pub token_front : (d : List Row) (ts : List Tree) (ps text p : List ℕ) (i m reach : ℕ) → RecognizesAll d ts ps → IsLongest ts ps text (Some (i, p))
    → IsSettledBy ts text m → m ≤ reach → IsFrontBy ts ps text (Some i) (length p) reach
token_front d ts ps text p i m reach h longest settled le = λ other alike.
    (p, (refl, (settled_longest ts ps text other m (Some (i, p)) settled (alike_less m reach text other le alike) longest, only_strongest d ts ps (chars p) i h longest.2.0)))

-- ---- more may come

-- at the beginning, or from a place on up to which none matches, there is a text, and some tree matches a longer word than the text from there on
abbrev pub BeginsMore : List Tree → List ℕ → ℕ → Type 0
BeginsMore ts text k = IsUtf8 (drop k text) × ((k ≡ 0) ⊎ NoMatchBefore ts text (k + 1)) × ((v : List ℕ) × ((v ≢ []) × Matched ts (chars (drop k text) ++ v)))

-- nothing matches up to a place at which nothing matches
pub none_up_to : (ts : List Tree) (ps text : List ℕ) (at : ℕ) → NoMatchBefore ts text at → IsLongest ts ps (drop at text) None → NoMatchBefore ts text (at + 1)
none_up_to ts ps text at before none n less m = by_order (cases_lt n at)
  where
    by_order : (n < at) ⊎ (at ≤ n) → ⊥
    by_order (inl earlier) = before n earlier m
    by_order (inr later) =
        let here : n ≡ at = omega (arith, later, less) in
        none m.0 (subst (λ (p : ℕ). IsMatch ts (drop p text) m.0) here m.1)

-- where the end was seen from this place on, a longer match may begin here, at the beginning or where none matches up to here; or one did at an
-- earlier place
pub waits_more : (ts : List Tree) (text rest part : List ℕ) (at k reach reach2 m : ℕ) → IsUtf8 text → IsCut text at rest → k ≡ at → part ≡ drop k text
    → reach2 ≡ max reach (k + m) → (at ≡ 0) ⊎ NoMatchBefore ts text (at + 1) → (length text < reach → (n : ℕ) × BeginsMore ts text n)
    → (length part < m → (v : List ℕ) × ((v ≢ []) × Matched ts (chars part ++ v))) → length text < reach2 → (n : ℕ) × BeginsMore ts text n
waits_more ts text rest part at k reach reach2 m u cut here is greater before earlier more past = by_order (cases_lt (length text) reach)
  where
    there : part ≡ drop at text
    there = is ∙ ap (λ (n : ℕ). drop n text) here

    within : at ≤ length text
    within = omega (arith, cut_within text rest at cut)

    by_order : (length text < reach) ⊎ (reach ≤ length text) → (n : ℕ) × BeginsMore ts text n
    by_order (inl far) = earlier far
    by_order (inr near) =
        let far : length part < m = omega (arith, greater, past, near, ap length there, length-drop at text, within, here) in (
          at,
          (
            IsUtf8-drop text at u (IsCharBoundary-from_take text at u within cut.seen_utf8),
            before,
            subst (λ (w : List ℕ). (v : List ℕ) × ((v ≢ []) × Matched ts (chars w ++ v))) there (more far),
          ),
        )
