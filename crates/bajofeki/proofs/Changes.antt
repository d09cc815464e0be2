-- What an edit changes of what is kept is what it changes of the pieces.
use Rattle.std.proofs.Common.{◌≡◌, ℕ, zero, suc, ◌+◌, ◌≤◌, Bool, true, false, List, [], ◌∷◌, ◌++◌, length, take, drop, refl, sym, ap, subst, ◌∙◌, arith, length-append}
use Rattle.std.specs.Prelude.{Option, Some, None, slice_get}
use Rattle.std.proofs.lemmas.List.{drop-drop, drop-take, take-take, length-drop}
use Rattle.lalrpop_rules.specs.Pieces.{IsSame, AreSame, slice_of, joined}
use Rattle.lalrpop_rules.specs.declared.piece.Piece.{Piece}
use Rattle.lalrpop_rules.specs.declared.piece.Piece.TheVariants.{Token, Skipped, Fault}
use Rattle.lalrpop_rules.proofs.UniquePieces.{same_slice}
use Rattle.bajofeki_rules.specs.Stack.{Stack, start}
use Rattle.lalrpop_rules.specs.Modes.{ModeRules}
use Rattle.bajofeki.specs.Internal.Kept.{rule_of, KeptUpTo}
use Rattle.bajofeki.specs.Lexed.{Lexed, placed, placed_from, IsChange}
use Rattle.bajofeki.specs.declared.change.Change.{Change}
use Rattle.bajofeki.specs.declared.kept.Kept.{Kept}
use Rattle.bajofeki.specs.Internal.Changing.{IsKeptChange}
use Rattle.bajofeki.specs.Internal.Blocks.{sizes}
use Rattle.bajofeki.specs.Internal.KeptPieces.{slice_with, token_or_skipped, item_with, item_at, items_from}
use Rattle.bajofeki.proofs.BlockLaws.{kept_sizes}
use Rattle.bajofeki.proofs.KeptPieces.{slice_at_size, same_items, same_back, same_on, same_length, items_length}

-- ---- equal lists of pieces

pub same_front : (n : ℕ) (xs ys : List Piece) → AreSame xs ys → AreSame (take n xs) (take n ys)
same_front zero xs ys are = tt
same_front (suc n) [] [] are = tt
same_front (suc n) [] (y ∷ ys) are = absurd are
same_front (suc n) (x ∷ xs) [] are = absurd are
same_front (suc n) (x ∷ xs) (y ∷ ys) are = (are.0, same_front n xs ys are.1)

same_behind : (n : ℕ) (xs ys : List Piece) → AreSame xs ys → AreSame (drop n xs) (drop n ys)
same_behind zero xs ys are = are
same_behind (suc n) [] [] are = tt
same_behind (suc n) [] (y ∷ ys) are = absurd are
same_behind (suc n) (x ∷ xs) [] are = absurd are
same_behind (suc n) (x ∷ xs) (y ∷ ys) are = same_behind n xs ys are.1

same_lists_back : (xs ys : List Piece) → AreSame xs ys → AreSame ys xs
same_lists_back [] [] are = tt
same_lists_back [] (y ∷ ys) are = absurd are
same_lists_back (x ∷ xs) [] are = absurd are
same_lists_back (x ∷ xs) (y ∷ ys) are = (same_back x y are.0, same_lists_back xs ys are.1)

same_lists_on : (xs ys zs : List Piece) → AreSame xs ys → AreSame ys zs → AreSame xs zs
same_lists_on [] [] zs are too = too
same_lists_on [] (y ∷ ys) zs are too = absurd are
same_lists_on (x ∷ xs) [] zs are too = absurd are
same_lists_on (x ∷ xs) (y ∷ ys) [] are too = absurd too
same_lists_on (x ∷ xs) (y ∷ ys) (z ∷ zs) are too = (same_on x y z are.0 too.0, same_lists_on xs ys zs are.1 too.1)

same_joined : (xs ys : List Piece) → AreSame xs ys → joined xs ≡ joined ys
same_joined [] [] are = refl
same_joined [] (y ∷ ys) are = absurd are
same_joined (x ∷ xs) [] are = absurd are
same_joined (x ∷ xs) (y ∷ ys) are =
    ap (λ (p : List ℕ). p ++ joined xs) (same_slice x y are.0) ∙ ap (λ (p : List ℕ). slice_of y ++ p) (same_joined xs ys are.1)

placed_same : (at : ℕ) (x y : Piece) → IsSame x y → IsSame (placed at x) (placed at y)
placed_same at (Token a) (Token b) e = (e.0, refl, e.2)
placed_same at (Token a) (Skipped b) e = absurd e
placed_same at (Token a) (Fault begins slice) e = absurd e
placed_same at (Skipped a) (Token b) e = absurd e
placed_same at (Skipped a) (Skipped b) e = (e.0, refl, e.2)
placed_same at (Skipped a) (Fault begins slice) e = absurd e
placed_same at (Fault begins slice) (Token b) e = absurd e
placed_same at (Fault begins slice) (Skipped b) e = absurd e
placed_same at (Fault begins slice) (Fault begins2 slice2) e = (refl, e.1)

placed_same_from : (at : ℕ) (xs ys : List Piece) → AreSame xs ys → AreSame (placed_from at xs) (placed_from at ys)
placed_same_from at [] [] are = tt
placed_same_from at [] (y ∷ ys) are = absurd are
placed_same_from at (x ∷ xs) [] are = absurd are
placed_same_from at (x ∷ xs) (y ∷ ys) are =
    let behind : at + length (slice_of x) ≡ at + length (slice_of y) = ap (λ (p : List ℕ). at + length p) (same_slice x y are.0) in (
      placed_same at x y are.0,
      subst (λ (n : ℕ). AreSame (placed_from n xs) (placed_from (at + length (slice_of y)) ys)) (sym behind)
          (placed_same_from (at + length (slice_of y)) xs ys are.1),
    )

-- ---- the pieces of which something is kept

pub items_front : (skips : List Bool) (text : List ℕ) (at n : ℕ) (ks : List Kept) → take n (items_from skips text at ks) ≡ items_from skips text at (take n ks)
items_front skips text at zero ks = refl
items_front skips text at (suc n) [] = refl
items_front skips text at (suc n) (k ∷ ks) = ap (λ (xs : List Piece). item_at skips text at k ∷ xs) (items_front skips text (at + k.size) n ks)

items_behind : (skips : List Bool) (text : List ℕ) (at n : ℕ) (ks : List Kept)
    → drop n (items_from skips text at ks) ≡ items_from skips text (at + sizes (take n ks)) (drop n ks)
items_behind skips text at zero ks = ap (λ (m : ℕ). items_from skips text m ks) (let e : at ≡ at + 0 = omega arith in e)
items_behind skips text at (suc n) [] = refl
items_behind skips text at (suc n) (k ∷ ks) =
    items_behind skips text (at + k.size) n ks
    ∙ ap (λ (m : ℕ). items_from skips text m (drop n ks)) (let e : (at + k.size) + sizes (take n ks) ≡ at + (k.size + sizes (take n ks)) = omega arith in e)

size_split : (n : ℕ) (ks : List Kept) → sizes ks ≡ sizes (take n ks) + sizes (drop n ks)
size_split zero ks = omega arith
size_split (suc n) [] = refl
size_split (suc n) (k ∷ ks) = omega (arith, size_split n ks)

-- in texts that are alike up to their end they are the same
items_alike : (skips : List Bool) (before text : List ℕ) (to at : ℕ) (ks : List Kept) → take to before ≡ take to text → at + sizes ks ≤ to
    → items_from skips before at ks ≡ items_from skips text at ks
items_alike skips before text to at [] alike within = refl
items_alike skips before text to at (k ∷ ks) alike within =
    let near : at + k.size ≤ to = omega (arith, within) in
    let shorter : take (at + k.size) before ≡ take (at + k.size) text =
    sym (take-take (at + k.size) to before near) ∙ ap (take (at + k.size)) alike ∙ take-take (at + k.size) to text near in
    let bytes : take k.size (drop at before) ≡ take k.size (drop at text) =
    sym (drop-take at k.size before) ∙ ap (drop at) shorter ∙ drop-take at k.size text in
    ap (λ (p : List ℕ). item_with skips at (rule_of k) p ∷ items_from skips before (at + k.size) ks) bytes
    ∙ ap (λ (xs : List Piece). item_at skips text at k ∷ xs) (items_alike skips before text to (at + k.size) ks alike (omega (arith, within)))

token_placed : (skips : List Bool) (at at2 : ℕ) (o : Option ℕ) (bytes : List ℕ) → placed at2 (item_with skips at o bytes) ≡ item_with skips at2 o bytes
token_placed skips at at2 None bytes = refl
token_placed skips at at2 (Some i) bytes = by_skip (slice_get skips i)
  where
    by_skip : (b : Option Bool) → placed at2 (token_or_skipped b (record { index = i; slice = slice_with bytes; start = at }))
        ≡ token_or_skipped b (record { index = i; slice = slice_with bytes; start = at2 })
    by_skip None = refl
    by_skip (Some false) = refl
    by_skip (Some true) = refl

-- where the rests of the texts are the same, they are the same but for their places
items_moved : (skips : List Bool) (before text : List ℕ) (at at2 : ℕ) (ks : List Kept) → drop at before ≡ drop at2 text → sizes ks ≤ length (drop at before)
    → placed_from at2 (items_from skips before at ks) ≡ items_from skips text at2 ks
items_moved skips before text at at2 [] e fits = refl
items_moved skips before text at at2 (k ∷ ks) e fits =
    let size : length (slice_of (item_at skips before at k)) ≡ k.size = slice_at_size skips before at k (omega (arith, fits)) in
    let rest : drop (at + k.size) before ≡ drop (at2 + k.size) text =
    sym (drop-drop k.size at before) ∙ ap (drop k.size) e ∙ drop-drop k.size at2 text in
    let less : sizes ks ≤ length (drop (at + k.size) before) = omega (arith, fits, length-drop at before, length-drop (at + k.size) before) in
    let here : placed at2 (item_at skips before at k) ≡ item_at skips text at2 k =
    token_placed skips at at2 (rule_of k) (take k.size (drop at before)) ∙ ap (λ (p : List ℕ). item_with skips at2 (rule_of k) (take k.size p)) e in
    ap (λ (x : Piece). x ∷ placed_from (at2 + length (slice_of (item_at skips before at k))) (items_from skips before (at + k.size) ks)) here
    ∙ ap (λ (n : ℕ). item_at skips text at2 k ∷ placed_from (at2 + n) (items_from skips before (at + k.size) ks)) size
    ∙ ap (λ (xs : List Piece). item_at skips text at2 k ∷ xs) (items_moved skips before text (at + k.size) (at2 + k.size) ks rest less)

-- they have so many bytes
items_bytes : (skips : List Bool) (text : List ℕ) (at : ℕ) (ks : List Kept) → sizes ks ≤ length (drop at text)
    → length (joined (items_from skips text at ks)) ≡ sizes ks
items_bytes skips text at [] fits = refl
items_bytes skips text at (k ∷ ks) fits =
    let size : length (slice_of (item_at skips text at k)) ≡ k.size = slice_at_size skips text at k (omega (arith, fits)) in
    let less : sizes ks ≤ length (drop (at + k.size) text) = omega (arith, fits, length-drop at text, length-drop (at + k.size) text) in
    omega (arith, size, items_bytes skips text (at + k.size) ks less, length-append (slice_of (item_at skips text at k)) (joined (items_from skips text (at + k.size) ks)))

-- the first n pieces of a text end where the first n that are kept do
pub front_bytes : (skips : List Bool) (text : List ℕ) (ks : List Kept) (xs : List Piece) (n to : ℕ) → AreSame xs (items_from skips text 0 ks)
    → sizes ks ≡ length text → to ≡ sizes (take n ks) → to ≡ length (joined (take n xs))
front_bytes skips text ks xs n to same whole e =
    let few : sizes (take n ks) ≤ length text = omega (arith, whole, size_split n ks) in
    let bytes : length (joined (items_from skips text 0 (take n ks))) ≡ sizes (take n ks) = items_bytes skips text 0 (take n ks) few in
    let equal : joined (take n xs) ≡ joined (items_from skips text 0 (take n ks)) =
    same_joined (take n xs) (take n (items_from skips text 0 ks)) (same_front n xs (items_from skips text 0 ks) same)
    ∙ ap (λ (ys : List Piece). joined ys) (items_front skips text 0 n ks) in
    omega (arith, e, bytes, ap length equal)

-- ---- the change

module _ (r : ModeRules) (before text : List ℕ) (ks ls : List Kept) (c : Change) (t u : Stack) (are : KeptUpTo r before 0 start ks (length before) t)
    (too : KeptUpTo r text 0 start ls (length text) u) (change : IsKeptChange r before text ks ls c) where
  all_before : sizes ks ≡ length before
  all_before = omega (arith, (kept_sizes r before 0 start ks (length before) t are).0)

  all_now : sizes ls ≡ length text
  all_now = omega (arith, (kept_sizes r text 0 start ls (length text) u too).0)

  starts : c.start ≡ sizes (take c.first ks)
  starts = omega (arith, (kept_sizes r before 0 start (take c.first ks) c.start change.starts.0 change.starts.1).0)

  old_ends : c.old_end ≡ sizes (take (c.first + c.removed) ks)
  old_ends = omega (arith, (kept_sizes r before 0 start (take (c.first + c.removed) ks) c.old_end change.old_ends.0 change.old_ends.1).0)

  new_ends : c.new_end ≡ sizes (take (c.first + c.inserted) ls)
  new_ends = omega (arith, (kept_sizes r text 0 start (take (c.first + c.inserted) ls) c.new_end change.new_ends.0 change.new_ends.1).0)

  kept_front : take c.first (items_from r.skips before 0 ks) ≡ take c.first (items_from r.skips text 0 ls)
  kept_front =
      items_front r.skips before 0 c.first ks
      ∙ items_alike r.skips before text c.start 0 (take c.first ks) change.same_front (omega (arith, starts))
      ∙ ap (λ (js : List Kept). items_from r.skips text 0 js) (sym change.front) ∙ sym (items_front r.skips text 0 c.first ls)

  kept_rest : placed_from c.new_end (drop (c.first + c.removed) (items_from r.skips before 0 ks)) ≡ drop (c.first + c.inserted) (items_from r.skips text 0 ls)
  kept_rest =
      let m : ℕ = c.first + c.removed in
      let n : ℕ = c.first + c.inserted in
      let from : 0 + sizes (take m ks) ≡ c.old_end = omega (arith, old_ends) in
      let from2 : c.new_end ≡ 0 + sizes (take n ls) = omega (arith, new_ends) in
      let fits : sizes (drop m ks) ≤ length (drop c.old_end before) =
      omega (arith, all_before, old_ends, size_split m ks, length-drop c.old_end before) in
      ap (λ (xs : List Piece). placed_from c.new_end xs) (items_behind r.skips before 0 m ks ∙ ap (λ (a : ℕ). items_from r.skips before a (drop m ks)) from)
      ∙ items_moved r.skips before text c.old_end c.new_end (drop m ks) change.same_behind fits
      ∙ ap (λ (a : ℕ). items_from r.skips text a (drop m ks)) from2
      ∙ ap (λ (js : List Kept). items_from r.skips text (0 + sizes (take n ls)) js) (sym change.behind) ∙ sym (items_behind r.skips text 0 n ls)

  -- the pieces of the text before became those of the text now
  pub is_change : IsChange (record { rules = r; text = before }) (record { rules = r; text = text }) c
  is_change xs ys pieces pieces2 =
      let old : Lexed = record { rules = r; text = before } in
      let new : Lexed = record { rules = r; text = text } in
      let same : AreSame xs (items_from r.skips before 0 ks) = same_items old ks t xs are pieces in
      let same2 : AreSame ys (items_from r.skips text 0 ls) = same_items new ls u ys too pieces2 in
      record {
        removed = omega (arith, change.removed, same_length xs (items_from r.skips before 0 ks) same, items_length r.skips before 0 ks);
        inserted = omega (arith, change.inserted, same_length ys (items_from r.skips text 0 ls) same2, items_length r.skips text 0 ls);
        front =
            same_lists_on (take c.first xs) (take c.first (items_from r.skips text 0 ls)) (take c.first ys)
            (subst (λ (zs : List Piece). AreSame (take c.first xs) zs) kept_front (same_front c.first xs (items_from r.skips before 0 ks) same))
            (same_lists_back (take c.first ys) (take c.first (items_from r.skips text 0 ls)) (same_front c.first ys (items_from r.skips text 0 ls) same2));
        behind =
            same_lists_on (placed_from c.new_end (drop (c.first + c.removed) xs)) (drop (c.first + c.inserted) (items_from r.skips text 0 ls)) (drop (c.first + c.inserted) ys)
            (subst (λ (zs : List Piece). AreSame (placed_from c.new_end (drop (c.first + c.removed) xs)) zs) kept_rest
            (placed_same_from c.new_end (drop (c.first + c.removed) xs) (drop (c.first + c.removed) (items_from r.skips before 0 ks)) (same_behind (c.first + c.removed) xs (items_from r.skips before 0 ks) same)))
            (same_lists_back (drop (c.first + c.inserted) ys) (drop (c.first + c.inserted) (items_from r.skips text 0 ls)) (same_behind (c.first + c.inserted) ys (items_from r.skips text 0 ls) same2));
        start_is = front_bytes r.skips before ks xs c.first c.start same all_before starts;
        old_end_is = front_bytes r.skips before ks xs (c.first + c.removed) c.old_end same all_before old_ends;
        new_end_is = front_bytes r.skips text ls ys (c.first + c.inserted) c.new_end same2 all_now new_ends;
      }
