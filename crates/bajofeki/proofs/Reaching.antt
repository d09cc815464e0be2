-- The first piece that is cut anew reaches what was replaced.
use Rattle.std.proofs.Common.{◌≡◌, ℕ, zero, suc, ◌+◌, ◌-◌, ◌<◌, ◌≤◌, ◌⊎◌, ⊎_elim, inl, inr, Bool, true, false, List, [], ◌∷◌, ◌++◌, length, take, drop, arith, refl, sym, ap, subst, ◌∙◌, length-drop}
use Rattle.std.specs.Prelude.{Option, Some, None, slice_get, slice_index}
use Rattle.std.specs.Str.{chars, IsUtf8, IsCharBoundary}
use Rattle.std.proofs.lemmas.Bool.{cases_lt}
use Rattle.std.proofs.lemmas.List.{drop-drop, drop-take, length-take-le, get_or-drop, get_or-take}
use Rattle.std.proofs.lemmas.Option.{same_Some}
use Rattle.std.proofs.lemmas.Str.{IsUtf8-take, IsUtf8-drop, IsCharBoundary-start, IsCharBoundary-from_rest}
use Rattle.lalrpop_hir.specs.Tree.{Tree}
use Rattle.lalrpop_hir.specs.Winners.{Matched}
use Rattle.lalrpop_rules.specs.Pieces.{IsSame, AreSame}
use Rattle.lalrpop_rules.specs.declared.piece.Piece.{Piece}
use Rattle.lalrpop_rules.specs.declared.piece.Piece.TheVariants.{Token, Skipped, Fault}
use Rattle.bajofeki_rules.specs.Stack.{Stack, start}
use Rattle.lalrpop_rules.specs.Modes.{ModeRules, trees_in}
use Rattle.bajofeki.specs.Internal.Kept.{rule_of, reach_of, after_kept, IsKept, KeptUpTo, IsReadFor, ReadsOn}
use Rattle.bajofeki.specs.Lexed.{ReadsTo, Reaches, FirstReaches}
use Rattle.bajofeki.specs.declared.change.Change.{Change}
use Rattle.bajofeki.specs.declared.kept.Kept.{Kept}
use Rattle.bajofeki.specs.declared.meet.Edit.{Edit}
use Rattle.bajofeki.specs.Internal.Blocks.{sizes, after_pieces}
use Rattle.bajofeki.specs.Internal.Changing.{IsKeptChange}
use Rattle.bajofeki.specs.Internal.KeptPieces.{slice_with, token_or_skipped, item_with, item_at, items_from}
use Rattle.bajofeki.specs.Internal.Least.{IsLeastChange}
use Rattle.bajofeki.proofs.BlockLaws.{kept_sizes}
use Rattle.bajofeki.proofs.Earliest.{front_stack}
use Rattle.bajofeki.proofs.KeptPieces.{same_items}
use Rattle.bajofeki.proofs.KeptLaws.{kept_boundary, kept_some, kept_fits}

-- ---- places

-- a place in a text is one in what follows an earlier place
boundary_behind : (text : List ℕ) (at n : ℕ) → IsCharBoundary text (at + n) → IsCharBoundary (drop at text) n
boundary_behind text at n here =
    let size : length (drop at text) ≡ length text - at = length-drop at text in
    let same : slice_index (drop at text) n ≡ slice_index text (at + n) = get_or-drop at text n 0 in
    let le : at + n ≤ length text = here.0 in
    (omega (arith, le, size), λ within high. let h = here.1 (omega (arith, within, size)) (omega (arith, high, same)) in omega (arith, h, same))

-- a place in the first bytes of a text is one in the text, if they end at one
boundary_in_front : (text : List ℕ) (n k : ℕ) → IsCharBoundary text n → IsCharBoundary (take n text) k → IsCharBoundary text k
boundary_in_front text n k ends here =
    let size : length (take n text) ≡ n = length-take-le n text ends.0 in
    let le : k ≤ length (take n text) = here.0 in
    let fits : n ≤ length text = ends.0 in
    ⊎_elim
    (λ (before : k < n).
    let same : slice_index (take n text) k ≡ slice_index text k = get_or-take n text k 0 before in
    (omega (arith, before, fits), λ within high. let h = here.1 (omega (arith, size, before)) (omega (arith, high, same)) in omega (arith, h, same)))
    (λ (past : n ≤ k). let is : n ≡ k = omega (arith, past, le, size) in subst (IsCharBoundary text) is ends)
    (cases_lt k n)

-- ---- one piece

-- a piece that ends before the place, but depends on what is there, has seen all up to there
seen_up_to : (ts : List Tree) (text : List ℕ) (at place : ℕ) (o : Option ℕ) (size reach : ℕ) → IsUtf8 (drop at text) → IsCharBoundary text place
    → place < at + reach → IsReadFor ts (drop at text) o size reach → at + size < place → ReadsOn ts (take (place - at) (drop at text)) o size
seen_up_to ts text at place o size reach utf8 ends far reads later =
    let n : ℕ = place - at in
    let sum : place ≡ at + n = omega (arith, later) in
    let here : IsCharBoundary (drop at text) n = boundary_behind text at n (subst (IsCharBoundary text) sum ends) in
    reads n (omega (arith, later)) (omega (arith, far, later)) here.0 (IsUtf8-take (drop at text) n utf8 here)

token_reaches : (ts : List Tree) (text : List ℕ) (at place : ℕ) (b : Option Bool) (i : ℕ) (bytes : List ℕ)
    → (place ≤ at + length bytes) ⊎ ReadsTo ts text at place → Reaches ts text place (token_or_skipped b (record { index = i; slice = slice_with bytes; start = at }))
token_reaches ts text at place None i bytes is = is
token_reaches ts text at place (Some false) i bytes is = is
token_reaches ts text at place (Some true) i bytes is = is

-- from a place in the fault, or right after it
fault_reads : (ts : List Tree) (text : List ℕ) (at place size : ℕ) → at ≤ length text → IsCharBoundary text place → at + size < place
    → ReadsOn ts (take (place - at) (drop at text)) None size
    → (k : ℕ) × ((at ≤ k) × (k ≤ at + size) × IsCharBoundary text k × ReadsTo ts text k place)
fault_reads ts text at place size fits ends later (k, on) =
    let n : ℕ = place - at in
    let m : ℕ = place - (at + k) in
    let le : k ≤ size = on.0 in
    let sum : place ≡ at + n = omega (arith, later) in
    let parts : n ≡ k + m = omega (arith, later, le) in
    let here : IsCharBoundary (drop at text) n = boundary_behind text at n (subst (IsCharBoundary text) sum ends) in
    let begins : IsCharBoundary text (at + k) = IsCharBoundary-from_rest text at k fits (boundary_in_front (drop at text) n k here on.1) in
    let word : drop k (take n (drop at text)) ≡ take m (drop (at + k) text) =
    ap (λ (l : ℕ). drop k (take l (drop at text))) parts ∙ drop-take k m (drop at text) ∙ ap (take m) (drop-drop k at text) in
    let more : (v : List ℕ) × Matched ts (chars (drop k (take n (drop at text))) ++ v) = on.2 in
    let before : at + k ≤ place = omega (arith, later, le) in
    let low : at ≤ at + k = omega arith in
    let high : at + k ≤ at + size = omega (arith, le) in
    (at + k, (low, high, begins, (before, (more.0, subst (λ (w : List ℕ). Matched ts (chars w ++ more.0)) word more.1))))

piece_reaches : (ts : List Tree) (skips : List Bool) (text : List ℕ) (at place : ℕ) (o : Option ℕ) (bytes : List ℕ) → at ≤ length text → IsCharBoundary text place
    → (at + length bytes < place → ReadsOn ts (take (place - at) (drop at text)) o (length bytes)) → Reaches ts text place (item_with skips at o bytes)
piece_reaches ts skips text at place None bytes fits ends reads = ⊎_elim
    (λ (later : at + length bytes < place). inr (fault_reads ts text at place (length bytes) fits ends later (reads later)))
    (λ (within : place ≤ at + length bytes). inl within)
    (cases_lt (at + length bytes) place)
piece_reaches ts skips text at place (Some i) bytes fits ends reads =
    token_reaches ts text at place (slice_get skips i) i bytes (⊎_elim
    (λ (later : at + length bytes < place). inr (let before : at ≤ place = omega (arith, later) in (before, reads later)))
    (λ (within : place ≤ at + length bytes). inl within)
    (cases_lt (at + length bytes) place))

-- what is kept of a piece tells how far it reaches
kept_reaches : (r : ModeRules) (mode : ℕ) (text : List ℕ) (at place : ℕ) (k : Kept) → IsUtf8 (drop at text) → IsCharBoundary text place → IsKept r mode (drop at text) k
    → place < at + reach_of k → Reaches (trees_in r mode) text place (item_at r.skips text at k)
kept_reaches r mode text at place k utf8 ends kept far =
    let some : 0 < k.size = kept_some r mode (drop at text) k kept in
    let there : k.size ≤ length (drop at text) = kept_fits r mode (drop at text) k kept in
    let fits : at ≤ length text = omega (arith, some, there, length-drop at text) in
    let size : length (take k.size (drop at text)) ≡ k.size = length-take-le k.size (drop at text) there in
    piece_reaches (trees_in r mode) r.skips text at place (rule_of k) (take k.size (drop at text)) fits ends (λ later.
    subst (λ (n : ℕ). ReadsOn (trees_in r mode) (take (place - at) (drop at text)) (rule_of k) n) (sym size)
    (seen_up_to (trees_in r mode) text at place (rule_of k) k.size (reach_of k) utf8 ends far kept.reads (omega (arith, later, size))))

-- equal pieces reach as far
same_reaches : (ts : List Tree) (text : List ℕ) (place : ℕ) (x y : Piece) → IsSame x y → Reaches ts text place y → Reaches ts text place x
same_reaches ts text place (Token a) (Token b) e is = rw e.1 (rw e.2 is)
same_reaches ts text place (Token a) (Skipped b) e is = absurd e
same_reaches ts text place (Token a) (Fault at slice) e is = absurd e
same_reaches ts text place (Skipped a) (Token b) e is = absurd e
same_reaches ts text place (Skipped a) (Skipped b) e is = rw e.1 (rw e.2 is)
same_reaches ts text place (Skipped a) (Fault at slice) e is = absurd e
same_reaches ts text place (Fault at slice) (Token b) e is = absurd e
same_reaches ts text place (Fault at slice) (Skipped b) e is = absurd e
same_reaches ts text place (Fault at slice) (Fault at2 slice2) e is = rw e.0 (rw e.1 is)

-- ---- the piece with a number

-- is the one that is kept with that number
same_kept : (skips : List Bool) (text : List ℕ) (at : ℕ) (ks : List Kept) (xs : List Piece) (n : ℕ) (x : Piece) → AreSame xs (items_from skips text at ks)
    → slice_get xs n ≡ Some x → (k : Kept) × ((slice_get ks n ≡ Some k) × IsSame x (item_at skips text (at + sizes (take n ks)) k))
same_kept skips text at ks [] n x are e = absurd (cc)
same_kept skips text at [] (x2 ∷ xs) n x are e = absurd are
same_kept skips text at (k ∷ ks) (x2 ∷ xs) zero x are e =
    let none : at ≡ at + 0 = omega arith in
    (k, (refl, subst (λ (m : ℕ). IsSame x (item_at skips text m k)) none (subst (λ (z : Piece). IsSame z (item_at skips text at k)) (same_Some x2 x e) are.0)))
same_kept skips text at (k ∷ ks) (x2 ∷ xs) (suc n) x are e =
    let p = same_kept skips text (at + k.size) ks xs n x are.1 e in
    let sum : (at + k.size) + sizes (take n ks) ≡ at + (k.size + sizes (take n ks)) = omega arith in
    (p.0, (p.1.0, subst (λ (m : ℕ). IsSame x (item_at skips text m p.0)) sum p.1.1))

-- what is kept with a number is kept of what follows those in front, in the mode there
kept_number : (r : ModeRules) (text : List ℕ) (at : ℕ) (s : Stack) (ks : List Kept) (to : ℕ) (t : Stack) (n : ℕ) (k : Kept) → KeptUpTo r text at s ks to t
    → slice_get ks n ≡ Some k → IsKept r (after_pieces r (take n ks) s).mode (drop (at + sizes (take n ks)) text) k
kept_number r text at s [] to t n k are e = absurd (cc)
kept_number r text at s (k2 ∷ ks) to t zero k are e =
    let none : at ≡ at + 0 = omega arith in
    subst (λ (m : ℕ). IsKept r s.mode (drop m text) k) none (subst (λ (j : Kept). IsKept r s.mode (drop at text) j) (same_Some k2 k e) are.0)
kept_number r text at s (k2 ∷ ks) to t (suc n) k are e =
    let sum : (at + k2.size) + sizes (take n ks) ≡ at + (k2.size + sizes (take n ks)) = omega arith in
    subst (λ (m : ℕ). IsKept r (after_pieces r (take n ks) (after_kept r k2 s)).mode (drop m text) k) sum
    (kept_number r text (at + k2.size) (after_kept r k2 s) ks to t n k are.1 e)

-- ---- the first piece that is cut anew

pub first_reaches : (r : ModeRules) (before text : List ℕ) (e : Edit) (ks ls : List Kept) (c : Change) (t : Stack) → IsUtf8 before → IsCharBoundary before e.from
    → KeptUpTo r before 0 start ks (length before) t → IsKeptChange r before text ks ls c → IsLeastChange r e ks ls c
    → FirstReaches (record { rules = r; text = before }) e.from c
first_reaches r before text e ks ls c t utf8 ends are change least xs pieces x got =
    let same : AreSame xs (items_from r.skips before 0 ks) = same_items (record { rules = r; text = before }) ks t xs are pieces in
    let place : 0 + sizes (take c.first ks) ≡ c.start =
    omega (arith, (kept_sizes r before 0 start (take c.first ks) c.start change.starts.0 change.starts.1).0) in
    let begins : IsCharBoundary before c.start =
    kept_boundary r before 0 start (take c.first ks) c.start change.starts.0 (IsCharBoundary-start before utf8) utf8 change.starts.1 in
    let p = same_kept r.skips before 0 ks xs c.first x same got in
    let kept : IsKept r (after_pieces r (take c.first ks) start).mode (drop c.start before) p.0 =
    subst (λ (m : ℕ). IsKept r (after_pieces r (take c.first ks) start).mode (drop m before) p.0) place
    (kept_number r before 0 start ks (length before) t c.first p.0 are p.1.0) in
    subst (λ (s : Stack). Reaches (trees_in r s.mode) before e.from x) (sym (front_stack r before ks xs c.first same))
    (same_reaches (trees_in r (after_pieces r (take c.first ks) start).mode) before e.from x (item_at r.skips before c.start p.0)
    (subst (λ (m : ℕ). IsSame x (item_at r.skips before m p.0)) place p.1.1)
    (kept_reaches r (after_pieces r (take c.first ks) start).mode before c.start e.from p.0 (IsUtf8-drop before c.start utf8 begins) ends kept
    (least.first p.0 p.1.0)))
