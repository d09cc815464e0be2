-- The pieces of a text of bytes are unique, and on a UTF-8 text they are the pieces of the rules, in numbers.
use Rattle.std.proofs.Common.{◌≡◌, ◌≢◌, ℕ, suc, ◌+◌, ◌<◌, ◌≤◌, ◌∙◌, Bool, true, false, List, [], ◌∷◌, ◌++◌, length, take, drop, map, refl, sym, ap, subst, arith}
use Rattle.std.specs.Prelude.{Option, Some, None, slice_get}
use Rattle.std.proofs.lemmas.Bool.{false≢true}
use Rattle.std.proofs.lemmas.List.{length-take-le}
use Rattle.std.proofs.lemmas.Option.{some_pair_parts}
use Rattle.lalrpop_hir.specs.Chain.{AtEnd}
use Rattle.lalrpop_hir.specs.Tree.{Tree}
use Rattle.lalrpop_hir.specs.Longest.{IsLongest}
use Rattle.lalrpop_hir.proofs.Longests.{longest-unique}
use Rattle.lalrpop_rules.specs.Pieces.{IsFault, IsPiece, slice_of}
use Rattle.lalrpop_rules.specs.declared.piece.Piece.{Piece}
use Rattle.lalrpop_rules.specs.declared.piece.Piece.TheVariants.{Token, Skipped, Fault}
use Rattle.lalrpop_rules.proofs.FirstMatches.{some_length}
use Rattle.lalrpop_rules.proofs.UniquePieces.{same_fault}
use Rattle.bajofeki_rules.specs.declared.action.Action.{Action}
use Rattle.bajofeki_rules.specs.Stack.{Stack, act_all, actions_of}
use Rattle.lalrpop_rules.specs.Modes.{ModeRules, ArePiecesFrom, after, trees_in}
use Rattle.lalrpop_emit.specs.BytePieces.{IsByteToken, IsByteTokenOrFault, IsBytePiece, IsModePiece, rule_actions, piece_actions, after_piece, Fits, StopsAt, AreBytePiecesFrom, AreBytePiecesTo, numbered}
use Rattle.lalrpop_emit.specs.declared.numbered_piece.NumberedPiece.{NumberedPiece}

-- ---- one piece is unique

-- two faults of these lengths are one
same_size : (ts : List Tree) (text : List ℕ) (a b : ℕ) → (a ≤ length text) × IsFault ts text (take a text) → (b ≤ length text) × IsFault ts text (take b text) → a ≡ b
same_size ts text a b is too =
    sym (length-take-le a text is.0) ∙ ap length (same_fault ts text (take a text) (take b text) is.1 too.1) ∙ length-take-le b text too.0

-- where something matches, no fault is
no_fault : (ts : List Tree) (ps text : List ℕ) (m : ℕ × List ℕ) (slice : List ℕ) → IsLongest ts ps text (Some m) → ¬ IsFault ts text slice
no_fault ts ps text m slice is fault = fault.nothing 0 (some_length slice fault.some) (m.1, is.0)

-- the longest match in two forms
same_match : (ts : List Tree) (ps kinds text : List ℕ) (kind rule size rule2 : ℕ) (slice : List ℕ) → IsByteToken ts ps kinds text kind rule size
    → IsLongest ts ps text (Some (rule2, slice)) → (rule ≡ rule2) × (size ≡ length slice)
same_match ts ps kinds text kind rule size rule2 slice token is =
    let parts = some_pair_parts rule rule2 (take size text) slice (longest-unique ts ps text (Some (rule, take size text)) (Some (rule2, slice)) token.longest is) in
    (parts.0, sym (length-take-le size text token.within) ∙ ap length parts.1)

same_parts : (ts : List Tree) (ps kinds text : List ℕ) (kind kind2 : Option ℕ) (rule rule2 size size2 : ℕ) → IsByteTokenOrFault ts ps kinds text kind rule size
    → IsByteTokenOrFault ts ps kinds text kind2 rule2 size2 → (kind ≡ kind2) × (rule ≡ rule2) × (size ≡ size2)
same_parts ts ps kinds text None None rule rule2 size size2 is too = (refl, is.0 ∙ sym too.0, same_size ts text size size2 is.1 too.1)
same_parts ts ps kinds text None (Some kind2) rule rule2 size size2 is too = absurd (no_fault ts ps text (rule2, take size2 text) (take size text) too.longest is.1.1)
same_parts ts ps kinds text (Some kind) None rule rule2 size size2 is too = absurd (no_fault ts ps text (rule, take size text) (take size2 text) is.longest too.1.1)
same_parts ts ps kinds text (Some kind) (Some kind2) rule rule2 size size2 is too =
    let same = same_match ts ps kinds text kind rule size rule2 (take size2 text) is too.longest in
    (sym is.kind_is ∙ ap (slice_get kinds) same.0 ∙ too.kind_is, same.0, same.1 ∙ length-take-le size2 text too.within)

same_piece : (a b : NumberedPiece) → a.kind ≡ b.kind → a.rule ≡ b.rule → a.start ≡ b.start → a.length ≡ b.length → a ≡ b
same_piece a b kind rule start size = λ i. record { kind = kind i; rule = rule i; start = start i; length = size i }

pub piece-unique : (ts : List Tree) (ps kinds text : List ℕ) (at : ℕ) (a b : NumberedPiece) → IsBytePiece ts ps kinds text at a → IsBytePiece ts ps kinds text at b → a ≡ b
piece-unique ts ps kinds text at a b is too =
    let same = same_parts ts ps kinds (drop at text) a.kind b.kind a.rule b.rule a.length b.length is.1 too.1 in
    same_piece a b same.0 same.1 (is.0 ∙ sym too.0) same.2

-- ---- all pieces are unique

-- a text with a nonempty prefix isn't empty
some_before : (text slice left : List ℕ) → text ≡ slice ++ left → slice ≢ [] → 0 < length text
some_before text [] left e some = absurd (some refl)
some_before text (x ∷ xs) left e some = omega (arith, ap length e)

within_rest : (ts : List Tree) (ps kinds text : List ℕ) (kind : Option ℕ) (rule size : ℕ) → IsByteTokenOrFault ts ps kinds text kind rule size → 0 < length text
within_rest ts ps kinds text None rule size is = some_before text (take size text) is.1.1.front.0 is.1.1.front.1 is.1.1.some
within_rest ts ps kinds text (Some kind) rule size is = some_before text (take size text) is.longest.0.0.0 is.longest.0.0.1.0 is.longest.0.1

pub none_left : (ts : List Tree) (ps kinds text : List ℕ) (at : ℕ) (a : NumberedPiece) → IsBytePiece ts ps kinds text at a → ¬ AtEnd text at
none_left ts ps kinds text at a is end = omega (arith, within_rest ts ps kinds (drop at text) a.kind a.rule a.length is.1, ap length end)

-- they stop for one reason
one_end : (r : ModeRules) (kinds : List ℕ) (room : ℕ) (text : List ℕ) (w v : Bool) (at : ℕ) (s : Stack) → StopsAt r kinds room text w at s → StopsAt r kinds room text v at s → w ≡ v
one_end r kinds room text true true at s is too = refl
one_end r kinds room text true false at s is too = absurd (none_left (trees_in r s.mode) r.precedences kinds text at too.0 too.1.0 is)
one_end r kinds room text false true at s is too = absurd (none_left (trees_in r s.mode) r.precedences kinds text at is.0 is.1.0 too)
one_end r kinds room text false false at s is too = refl

-- where they stop, no piece is that fits
no_piece : (r : ModeRules) (kinds : List ℕ) (room : ℕ) (text : List ℕ) (w : Bool) (at : ℕ) (s : Stack) (x : NumberedPiece) → StopsAt r kinds room text w at s
    → IsModePiece r kinds text at s x → ¬ Fits room (piece_actions r.actions x) s
no_piece r kinds room text true at s x stops is fits = none_left (trees_in r s.mode) r.precedences kinds text at x is stops
no_piece r kinds room text false at s x stops is fits =
    let same = piece-unique (trees_in r s.mode) r.precedences kinds text at x stops.0 is stops.1.0 in
    stops.1.1 (subst (λ (p : NumberedPiece). Fits room (piece_actions r.actions p) s) same fits)

pub byte_pieces-unique : (r : ModeRules) (kinds : List ℕ) (room : ℕ) (text : List ℕ) (w v : Bool) (at : ℕ) (s : Stack) (xs ys : List NumberedPiece)
    → AreBytePiecesFrom r kinds room text w at s xs → AreBytePiecesFrom r kinds room text v at s ys → (xs ≡ ys) × (w ≡ v)
byte_pieces-unique r kinds room text w v at s [] [] are too = (refl, one_end r kinds room text w v at s are too)
byte_pieces-unique r kinds room text w v at s [] (y ∷ ys) are too = absurd (no_piece r kinds room text w at s y are too.0 too.1)
byte_pieces-unique r kinds room text w v at s (x ∷ xs) [] are too = absurd (no_piece r kinds room text v at s x too are.0 are.1)
byte_pieces-unique r kinds room text w v at s (x ∷ xs) (y ∷ ys) are too =
    let same = piece-unique (trees_in r s.mode) r.precedences kinds text at x y are.0 too.0 in
    let later = subst (λ (p : NumberedPiece). AreBytePiecesFrom r kinds room text w (at + p.length) (after_piece r.actions p s) xs) same are.2 in
    let rest = byte_pieces-unique r kinds room text w v (at + y.length) (after_piece r.actions y s) xs ys later too.2 in
    (λ i. same i ∷ rest.0 i, rest.1)

-- ---- the pieces of the rules

-- a token of the rules, in numbers
token_parts : (ts : List Tree) (ps kinds text : List ℕ) (kind : Option ℕ) (rule size rule2 : ℕ) (slice : List ℕ) → IsByteTokenOrFault ts ps kinds text kind rule size
    → IsLongest ts ps text (Some (rule2, slice)) → (kind ≡ slice_get kinds rule2) × (rule ≡ rule2) × (size ≡ length slice)
token_parts ts ps kinds text None rule size rule2 slice is found = absurd (no_fault ts ps text (rule2, slice) (take size text) found is.1.1)
token_parts ts ps kinds text (Some kind) rule size rule2 slice is found =
    let same = same_match ts ps kinds text kind rule size rule2 slice is found in
    (sym is.kind_is ∙ ap (slice_get kinds) same.0, same.0, same.1)

fault_parts : (ts : List Tree) (ps kinds text : List ℕ) (kind : Option ℕ) (rule size : ℕ) (slice : List ℕ) → IsByteTokenOrFault ts ps kinds text kind rule size
    → IsFault ts text slice → (kind ≡ None) × (rule ≡ 0) × (size ≡ length slice)
fault_parts ts ps kinds text None rule size slice is fault = (refl, is.0, sym (length-take-le size text is.1.0) ∙ ap length (same_fault ts text (take size text) slice is.1.1 fault))
fault_parts ts ps kinds text (Some kind) rule size slice is fault = absurd (no_fault ts ps text (rule, take size text) slice is.longest fault)

-- the piece of the rules at the place is the piece in numbers
piece_numbered : (ts : List Tree) (ps kinds : List ℕ) (skips : List Bool) (text : List ℕ) (at : ℕ) (a : NumberedPiece) (item : Piece) → IsBytePiece ts ps kinds text at a
    → IsPiece ts ps skips text at item → a ≡ numbered kinds item
piece_numbered ts ps kinds skips text at a (Token token) is too =
    let same = token_parts ts ps kinds (drop at text) a.kind a.rule a.length token.index token.slice.now is.1 too.0.1 in
    same_piece a (numbered kinds (Token token)) same.0 same.1 (is.0 ∙ sym too.0.0) same.2
piece_numbered ts ps kinds skips text at a (Skipped token) is too =
    let same = token_parts ts ps kinds (drop at text) a.kind a.rule a.length token.index token.slice.now is.1 too.0.1 in
    same_piece a (numbered kinds (Skipped token)) same.0 same.1 (is.0 ∙ sym too.0.0) same.2
piece_numbered ts ps kinds skips text at a (Fault start slice) is too =
    let same = fault_parts ts ps kinds (drop at text) a.kind a.rule a.length slice.now is.1 too.1 in
    same_piece a (numbered kinds (Fault start slice)) same.0 same.1 (is.0 ∙ sym too.0) same.2

slice_numbered : (kinds : List ℕ) (item : Piece) → (numbered kinds item).length ≡ length (slice_of item)
slice_numbered kinds (Token token) = refl
slice_numbered kinds (Skipped token) = refl
slice_numbered kinds (Fault start slice) = refl

-- where a piece in numbers is, the pieces of the rules aren't at their end; and where one of the rules is, those in numbers aren't
some_item : (ts : List Tree) (ps : List ℕ) (skips : List Bool) (text : List ℕ) (at : ℕ) (item : Piece) → IsPiece ts ps skips text at item → ¬ AtEnd text at
some_item ts ps skips text at (Token token) is end =
    omega (arith, some_before (drop at text) token.slice.now is.0.1.0.0.0 is.0.1.0.0.1.0 is.0.1.0.1, ap length end)
some_item ts ps skips text at (Skipped token) is end =
    omega (arith, some_before (drop at text) token.slice.now is.0.1.0.0.0 is.0.1.0.0.1.0 is.0.1.0.1, ap length end)
some_item ts ps skips text at (Fault start slice) is end =
    omega (arith, some_before (drop at text) slice.now is.1.front.0 is.1.front.1 is.1.some, ap length end)

-- and makes the same stack
token_acts : (ts : List Tree) (ps kinds text : List ℕ) (kind : Option ℕ) (rule size rule2 : ℕ) (slice : List ℕ) (actions : List (List Action)) → IsByteTokenOrFault ts ps kinds text kind rule size
    → IsLongest ts ps text (Some (rule2, slice)) → rule_actions actions kind rule ≡ actions_of actions rule2
token_acts ts ps kinds text None rule size rule2 slice actions is found = absurd (no_fault ts ps text (rule2, slice) (take size text) found is.1.1)
token_acts ts ps kinds text (Some kind) rule size rule2 slice actions is found = ap (actions_of actions) (same_match ts ps kinds text kind rule size rule2 slice is found).0

fault_acts : (ts : List Tree) (ps kinds text : List ℕ) (kind : Option ℕ) (rule size : ℕ) (slice : List ℕ) (actions : List (List Action)) → IsByteTokenOrFault ts ps kinds text kind rule size
    → IsFault ts text slice → rule_actions actions kind rule ≡ []
fault_acts ts ps kinds text None rule size slice actions is fault = refl
fault_acts ts ps kinds text (Some kind) rule size slice actions is fault = absurd (no_fault ts ps text (rule, take size text) slice is.longest fault)

stack_numbered : (ts : List Tree) (ps kinds : List ℕ) (skips : List Bool) (text : List ℕ) (at : ℕ) (a : NumberedPiece) (item : Piece) (actions : List (List Action)) (s : Stack)
    → IsBytePiece ts ps kinds text at a → IsPiece ts ps skips text at item → after_piece actions a s ≡ after actions item s
stack_numbered ts ps kinds skips text at a (Token token) actions s is too =
    ap (λ acts. act_all acts s) (token_acts ts ps kinds (drop at text) a.kind a.rule a.length token.index token.slice.now actions is.1 too.0.1)
stack_numbered ts ps kinds skips text at a (Skipped token) actions s is too =
    ap (λ acts. act_all acts s) (token_acts ts ps kinds (drop at text) a.kind a.rule a.length token.index token.slice.now actions is.1 too.0.1)
stack_numbered ts ps kinds skips text at a (Fault start slice) actions s is too =
    ap (λ acts. act_all acts s) (fault_acts ts ps kinds (drop at text) a.kind a.rule a.length slice.now actions is.1 too.1)

-- the pieces in numbers are those of the rules, as many as there are
pub record AreNumbered (kinds : List ℕ) (is_whole : Bool) (xs : List NumberedPiece) (items : List Piece) : Type 0 where
  pub same : xs ≡ map (numbered kinds) (take (length xs) items)
  pub whole : is_whole ≡ true → length xs ≡ length items

pub pieces_numbered : (r : ModeRules) (kinds : List ℕ) (room : ℕ) (text : List ℕ) (w : Bool) (at : ℕ) (s : Stack) (xs : List NumberedPiece) (items : List Piece) (end : Stack)
    → AreBytePiecesFrom r kinds room text w at s xs → ArePiecesFrom r text at s items end → AreNumbered kinds w xs items
pieces_numbered r kinds room text w at s [] [] end are too = record { same = refl; whole = λ all. refl }
pieces_numbered r kinds room text true at s [] (item ∷ items) end are too = absurd (some_item (trees_in r s.mode) r.precedences r.skips text at item too.0 are)
pieces_numbered r kinds room text false at s [] (item ∷ items) end are too = record { same = refl; whole = λ all. absurd (false≢true all) }
pieces_numbered r kinds room text w at s (x ∷ xs) [] end are too = absurd (none_left (trees_in r s.mode) r.precedences kinds text at x are.0 too.0)
pieces_numbered r kinds room text w at s (x ∷ xs) (item ∷ items) end are too =
    let ts = trees_in r s.mode in
    let same = piece_numbered ts r.precedences kinds r.skips text at x item are.0 too.0 in
    let size : x.length ≡ length (slice_of item) = ap (λ (p : NumberedPiece). p.length) same ∙ slice_numbered kinds item in
    let stack = stack_numbered ts r.precedences kinds r.skips text at x item r.actions s are.0 too.0 in
    let later : AreBytePiecesFrom r kinds room text w (at + length (slice_of item)) (after r.actions item s) xs =
    subst (λ (n : ℕ). AreBytePiecesFrom r kinds room text w (at + n) (after r.actions item s) xs) size
    (subst (λ (t : Stack). AreBytePiecesFrom r kinds room text w (at + x.length) t xs) stack are.2) in
    let rest = pieces_numbered r kinds room text w (at + length (slice_of item)) (after r.actions item s) xs items end later too.1 in
    record { same = λ i. same i ∷ rest.same i; whole = λ all. ap suc (rest.whole all) }

-- ---- one piece after another

module _ (r : ModeRules) (kinds : List ℕ) (room : ℕ) (text : List ℕ) where
  -- pieces up to a place, and those from there on up to another
  pub pieces_join : (at : ℕ) (s : Stack) (xs : List NumberedPiece) (mid : ℕ) (u : Stack) (ys : List NumberedPiece) (end : ℕ) (t : Stack)
      → AreBytePiecesTo r kinds room text at s xs mid u → AreBytePiecesTo r kinds room text mid u ys end t → AreBytePiecesTo r kinds room text at s (xs ++ ys) end t
  pieces_join at s [] mid u ys end t are more =
      subst (λ (n : ℕ). AreBytePiecesTo r kinds room text n s ys end t) (sym are.0) (subst (λ (v : Stack). AreBytePiecesTo r kinds room text mid v ys end t) (sym are.1) more)
  pieces_join at s (x ∷ xs) mid u ys end t are more = (are.0, are.1, pieces_join (at + x.length) (after_piece r.actions x s) xs mid u ys end t are.2 more)

  -- pieces up to where they stop
  pub pieces_all : (w : Bool) (at : ℕ) (s : Stack) (xs : List NumberedPiece) (end : ℕ) (t : Stack)
      → AreBytePiecesTo r kinds room text at s xs end t → StopsAt r kinds room text w end t → AreBytePiecesFrom r kinds room text w at s xs
  pieces_all w at s [] end t are stops =
      subst (λ (n : ℕ). StopsAt r kinds room text w n s) (sym are.0) (subst (λ (v : Stack). StopsAt r kinds room text w end v) (sym are.1) stops)
  pieces_all w at s (x ∷ xs) end t are stops = (are.0, are.1, pieces_all w (at + x.length) (after_piece r.actions x s) xs end t are.2 stops)
