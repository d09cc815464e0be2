-- The pieces of a text that hold a byte of a range.
use Rattle.std.proofs.Common.{◌≡◌, ℕ, ◌+◌, ◌<◌, ◌≤◌, cond, get_or, Bool, true, false, List, [], ◌∷◌, ◌++◌, length, take, drop, refl, sym, ap, subst, ◌∙◌, arith, append_assoc, length-append, length-drop}
use Rattle.std.specs.Prelude.{nat_lt, max, min}
use Rattle.std.proofs.lemmas.Bool.{le-ltb, lt-ltb, ltb-true}
use Rattle.std.proofs.lemmas.List.{append-nil, take_all, take_more}
use Rattle.std.proofs.lemmas.List.Elements.{All-head, filter-append, filter_passes}
use Rattle.std.specs.List.{All}
use Rattle.std.specs.Str.{IsCharBoundary}
use Rattle.lalrpop_hir.specs.Tree.{Tree}
use Rattle.lalrpop_rules.specs.Pieces.{IsPiece, IsSame, AreSame, slice_of, start_of}
use Rattle.lalrpop_rules.specs.declared.piece.Piece.{Piece}
use Rattle.lalrpop_rules.specs.declared.piece.Piece.TheVariants.{Token, Skipped, Fault}
use Rattle.lalrpop_rules.specs.Modes.{ModeRules, ArePiecesFrom, after, trees_in}
use Rattle.lalrpop_rules.proofs.CallerLaws.{starts_at}
use Rattle.lalrpop_rules.proofs.FirstMatches.{some_length}
use Rattle.lalrpop_rules.proofs.ModePieces.{same_after}
use Rattle.lalrpop_rules.proofs.PieceLaws.{is_some, is_split}
use Rattle.lalrpop_rules.proofs.UniquePieces.{same_slice}
use Rattle.bajofeki_rules.specs.Stack.{Stack, start}
use Rattle.bajofeki.specs.Internal.Blocks.{sizes}
use Rattle.bajofeki.specs.Internal.KeptPieces.{AddsHolding, item_at, items_from}
use Rattle.bajofeki.specs.Internal.Kept.{KeptUpTo, rule_of}
use Rattle.bajofeki.specs.Lexed.{Lexed, ArePiecesIn, ArePiecesOf, holding, holds_byte}
use Rattle.bajofeki.specs.declared.kept.Kept.{Kept}
use Rattle.bajofeki.proofs.KeptPieces.{are_pieces, slice_at_size, start_with_is}

-- ---- laws for callers

all_hold : (r : ModeRules) (text : List ℕ) (from to at : ℕ) (s : Stack) (xs : List Piece) (t : Stack) → from ≤ at → length text ≤ to
    → ArePiecesFrom r text at s xs t → holding from to xs ≡ xs
all_hold r text from to at s [] t before past are = refl
all_hold r text from to at s (x ∷ xs) t before past are =
    let ts = trees_in r s.mode in
    let front = is_split ts r.precedences r.skips text at x are.0 in
    let begins = starts_at ts r.precedences r.skips text at x are.0 in
    let some = some_length (slice_of x) (is_some ts r.precedences r.skips text at x are.0) in
    let within : at + length (slice_of x) ≤ length text = omega (arith, some, ap length front.1, length-append (slice_of x) front.0, length-drop at text) in
    let holds : holds_byte from to x ≡ true = lt-ltb (max from (start_of x)) (min to (start_of x + length (slice_of x))) (omega (arith, begins, some, within, before, past)) in
    ap (λ (b : Bool). cond b (x ∷ holding from to xs) (holding from to xs)) holds
    ∙ ap (λ (zs : List Piece). x ∷ zs) (all_hold r text from to (at + length (slice_of x)) (after r.actions x s) xs t (omega (arith, before)) past are.1)

-- those of the whole range are all pieces of the text
pub whole_pieces : (l : Lexed) (to : ℕ) (ys : List Piece) → length l.text ≤ to → ArePiecesIn l 0 to ys → ArePiecesOf l ys
whole_pieces l to ys past are =
    subst (ArePiecesOf l) (sym (are.1.1 ∙ all_hold l.rules l.text 0 to 0 start are.0 are.1.0.0 (omega arith) past are.1.0.1)) are.1.0

-- each holds a byte of the range
pub each_holds : (l : Lexed) (from to : ℕ) (ys : List Piece) → ArePiecesIn l from to ys → All (λ x. holds_byte from to x ≡ true) ys
each_holds l from to ys are = subst (All (λ x. holds_byte from to x ≡ true)) (sym are.1.1) (filter_passes (holds_byte from to) are.0)

-- so the one that holds a byte begins at it or before it, and ends after it
pub holds_it : (l : Lexed) (at : ℕ) (x : Piece) → ArePiecesIn l at (at + 1) (x ∷ []) → (start_of x ≤ at) × (at < start_of x + length (slice_of x))
holds_it l at x are =
    let holds : max at (start_of x) < min (at + 1) (start_of x + length (slice_of x)) = ltb-true _ _ (All-head (λ y. holds_byte at (at + 1) y ≡ true) x [] (each_holds l at (at + 1) (x ∷ []) are)) in
    (omega (arith, holds), omega (arith, holds))

-- ---- equal pieces

same_list : (xs : List Piece) → AreSame xs xs
same_list [] = tt
same_list (Token a ∷ xs) = ((refl, refl, refl), same_list xs)
same_list (Skipped a ∷ xs) = ((refl, refl, refl), same_list xs)
same_list (Fault at slice ∷ xs) = ((refl, refl), same_list xs)

same_join : (xs ys zs ws : List Piece) → AreSame xs ys → AreSame zs ws → AreSame (xs ++ zs) (ys ++ ws)
same_join [] [] zs ws are more = more
same_join [] (y ∷ ys) zs ws are more = absurd are
same_join (x ∷ xs) [] zs ws are more = absurd are
same_join (x ∷ xs) (y ∷ ys) zs ws are more = (are.0, same_join xs ys zs ws are.1 more)

same_start : (x y : Piece) → IsSame x y → start_of x ≡ start_of y
same_start (Token a) (Token b) e = e.1
same_start (Token a) (Skipped b) e = absurd e
same_start (Token a) (Fault at slice) e = absurd e
same_start (Skipped a) (Token b) e = absurd e
same_start (Skipped a) (Skipped b) e = e.1
same_start (Skipped a) (Fault at slice) e = absurd e
same_start (Fault at slice) (Token b) e = absurd e
same_start (Fault at slice) (Skipped b) e = absurd e
same_start (Fault at slice) (Fault at2 slice2) e = e.0

-- what is the same as a piece of a text is that piece
same_is : (ts : List Tree) (ps : List ℕ) (skips : List Bool) (text : List ℕ) (at : ℕ) (x y : Piece) → IsSame x y → IsPiece ts ps skips text at y
    → IsPiece ts ps skips text at x
same_is ts ps skips text at (Token a) (Token b) e is = rw (e.0, e.1, e.2) is
same_is ts ps skips text at (Token a) (Skipped b) e is = absurd e
same_is ts ps skips text at (Token a) (Fault begins slice) e is = absurd e
same_is ts ps skips text at (Skipped a) (Token b) e is = absurd e
same_is ts ps skips text at (Skipped a) (Skipped b) e is = rw (e.0, e.1, e.2) is
same_is ts ps skips text at (Skipped a) (Fault begins slice) e is = absurd e
same_is ts ps skips text at (Fault begins slice) (Token b) e is = absurd e
same_is ts ps skips text at (Fault begins slice) (Skipped b) e is = absurd e
same_is ts ps skips text at (Fault begins slice) (Fault begins2 slice2) e is = rw (e.0, e.1) is

same_are : (r : ModeRules) (text : List ℕ) (at : ℕ) (s : Stack) (xs ys : List Piece) (t : Stack) → AreSame xs ys → ArePiecesFrom r text at s ys t
    → ArePiecesFrom r text at s xs t
same_are r text at s [] [] t same are = are
same_are r text at s [] (y ∷ ys) t same are = absurd same
same_are r text at s (x ∷ xs) [] t same are = absurd same
same_are r text at s (x ∷ xs) (y ∷ ys) t same are = (
  same_is (trees_in r s.mode) r.precedences r.skips text at x y same.0 are.0,
  rw (same_slice x y same.0, same_after r.actions x y s same.0)
      (same_are r text (at + length (slice_of y)) (after r.actions y s) xs ys t same.1 are.1),
)

-- ---- a list that grows by those that hold a byte of the range

-- pieces that end on characters of the text lie in it
pub all_within : (text : List ℕ) (at : ℕ) (ks : List Kept) → ((n : ℕ) → IsCharBoundary text (at + sizes (take n ks))) → at + sizes ks ≤ length text
all_within text at ks each = omega (arith, (each (length ks)).0, ap sizes (take_all (length ks) ks (omega arith)))

items_join : (skips : List Bool) (text : List ℕ) (at : ℕ) (ks ls : List Kept)
    → items_from skips text at (ks ++ ls) ≡ items_from skips text at ks ++ items_from skips text (at + sizes ks) ls
items_join skips text at [] ls = ap (λ (n : ℕ). items_from skips text n ls) (let e : at ≡ at + 0 = omega arith in e)
items_join skips text at (k ∷ ks) ls =
    ap (λ (xs : List Piece). item_at skips text at k ∷ xs) (items_join skips text (at + k.size) ks ls)
    ∙ ap (λ (n : ℕ). item_at skips text at k ∷ (items_from skips text (at + k.size) ks ++ items_from skips text n ls))
    (let e : (at + k.size) + sizes ks ≡ at + (k.size + sizes ks) = omega arith in e)

module _ (from to : ℕ) where
  adds_more : (a b c xs ys : List Piece) → AddsHolding from to a b xs → AddsHolding from to b c ys → AddsHolding from to a c (xs ++ ys)
  adds_more a b c xs ys first later = (
    first.0 ++ later.0,
    (
      same_join first.0 xs later.0 ys first.1.0 later.1.0,
      later.1.1 ∙ ap (λ (zs : List Piece). zs ++ holding from to later.0) first.1.1 ∙ append_assoc a (holding from to first.0) (holding from to later.0)
          ∙ ap (λ (zs : List Piece). a ++ zs) (sym (filter-append (holds_byte from to) first.0 later.0)),
    ),
  )

  module _ (skips : List Bool) (text : List ℕ) where
    item_holds : (at : ℕ) (k : Kept) → at + k.size ≤ length text → holds_byte from to (item_at skips text at k) ≡ nat_lt (max from at) (min to (at + k.size))
    item_holds at k fits =
        ap (λ (n : ℕ). nat_lt (max from n) (min to (n + length (slice_of (item_at skips text at k))))) (start_with_is skips at (rule_of k) (take k.size (drop at text)))
        ∙ ap (λ (n : ℕ). nat_lt (max from at) (min to (at + n))) (slice_at_size skips text at k (omega (arith, fits, length-drop at text)))

    -- one that holds a byte
    pub adds_one : (old : List Piece) (at : ℕ) (k : Kept) (x : Piece) → at + k.size ≤ length text → max from at < min to (at + k.size)
        → IsSame x (item_at skips text at k) → AddsHolding from to old (old ++ x ∷ []) (item_at skips text at k ∷ [])
    adds_one old at k x fits held same =
        let y = item_at skips text at k in
        let alike : holds_byte from to x ≡ holds_byte from to y =
        ap (λ (n : ℕ). nat_lt (max from n) (min to (n + length (slice_of x)))) (same_start x y same)
        ∙ ap (λ (p : List ℕ). nat_lt (max from (start_of y)) (min to (start_of y + length p))) (same_slice x y same) in
        let holds : holds_byte from to x ≡ true = alike ∙ item_holds at k fits ∙ lt-ltb (max from at) (min to (at + k.size)) held in
        (x ∷ [], ((same, tt), ap (λ (b : Bool). old ++ cond b (x ∷ []) []) (sym holds)))

    none_hold : (at : ℕ) (ks : List Kept) → at + sizes ks ≤ length text → min to (at + sizes ks) ≤ max from at → holding from to (items_from skips text at ks) ≡ []
    none_hold at [] fits none = refl
    none_hold at (k ∷ ks) fits none =
        let rest = holding from to (items_from skips text (at + k.size) ks) in
        let not_held : holds_byte from to (item_at skips text at k) ≡ false =
        item_holds at k (omega (arith, fits)) ∙ le-ltb (max from at) (min to (at + k.size)) (omega (arith, none)) in
        ap (λ (b : Bool). cond b (item_at skips text at k ∷ rest) rest) not_held ∙ none_hold (at + k.size) ks (omega (arith, fits)) (omega (arith, none))

    -- none where no byte of the range is
    pub adds_none : (old : List Piece) (at : ℕ) (ks : List Kept) → at + sizes ks ≤ length text → min to (at + sizes ks) ≤ max from at
        → AddsHolding from to old old (items_from skips text at ks)
    adds_none old at ks fits none =
        let xs = items_from skips text at ks in
        (xs, (same_list xs, sym (append-nil old) ∙ ap (λ (zs : List Piece). old ++ zs) (sym (none_hold at ks fits none))))

    -- those of some pieces, and then those of the pieces after them
    pub adds_on : (a b c : List Piece) (at : ℕ) (ks ls : List Kept) → AddsHolding from to a b (items_from skips text at ks)
        → AddsHolding from to b c (items_from skips text (at + sizes ks) ls) → AddsHolding from to a c (items_from skips text at (ks ++ ls))
    adds_on a b c at ks ls first later =
        subst (AddsHolding from to a c) (sym (items_join skips text at ks ls))
        (adds_more a b c (items_from skips text at ks) (items_from skips text (at + sizes ks) ls) first later)

    -- one piece more
    pub adds_next : (a b c : List Piece) (at begins : ℕ) (ks : List Kept) (i : ℕ) (d : Kept) → i < length ks → begins ≡ at + sizes (take i ks)
        → AddsHolding from to a b (items_from skips text at (take i ks)) → AddsHolding from to b c (item_at skips text begins (get_or ks i d) ∷ [])
        → AddsHolding from to a c (items_from skips text at (take (i + 1) ks))
    adds_next a b c at begins ks i d lt place first later =
        subst (λ (ls : List Kept). AddsHolding from to a c (items_from skips text at ls)) (sym (take_more ks i d lt))
        (adds_on a b c at (take i ks) (get_or ks i d ∷ []) first
        (subst (λ (n : ℕ). AddsHolding from to b c (item_at skips text n (get_or ks i d) ∷ [])) place later))

  -- those of all that is kept are those of the text
  pub are_in : (l : Lexed) (ys : List Piece) (ks : List Kept) (t : Stack) → KeptUpTo l.rules l.text 0 start ks (length l.text) t
      → AddsHolding from to [] ys (items_from l.rules.skips l.text 0 ks) → ArePiecesIn l from to ys
  are_in l ys ks t kept adds =
      let all = are_pieces l.rules l.text 0 start ks (length l.text) t kept refl in
      (adds.0, ((t, same_are l.rules l.text 0 start adds.0 (items_from l.rules.skips l.text 0 ks) t adds.1.0 all), adds.1.1))
