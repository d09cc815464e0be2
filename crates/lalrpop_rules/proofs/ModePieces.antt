-- The pieces of a text by rules with modes.
use Rattle.std.proofs.Common.{◌≡◌, ℕ, ◌+◌, List, [], ◌∷◌, ◌++◌, length, drop, refl, sym, ap, subst, ◌∙◌}
use Rattle.lalrpop_rules.specs.Pieces.{ArePieces, IsSame, AreSame, slice_of, joined}
use Rattle.lalrpop_rules.specs.declared.piece.Piece.{Piece}
use Rattle.lalrpop_rules.specs.declared.piece.Piece.TheVariants.{Token, Skipped, Fault}
use Rattle.lalrpop_rules.proofs.PieceLaws.{is_split, split_at}
use Rattle.bajofeki_rules.specs.declared.action.Action.{Action}
use Rattle.bajofeki_rules.specs.Stack.{Stack, act_all, actions_of}
use Rattle.lalrpop_rules.specs.Modes.{ModeRules, trees_in, after, after_all, ArePiecesFrom}
use Rattle.lalrpop_rules.proofs.UniquePieces.{same_piece, same_slice, no_piece_left}

-- ---- uniqueness

-- the same pieces do the same to a stack
pub same_after : (actions : List (List Action)) (x y : Piece) (s : Stack) → IsSame x y → after actions x s ≡ after actions y s
same_after actions (Token a) (Token b) s same = ap (λ (i : ℕ). act_all (actions_of actions i) s) same.0
same_after actions (Token a) (Skipped b) s same = absurd same
same_after actions (Token a) (Fault start slice) s same = absurd same
same_after actions (Skipped a) (Token b) s same = absurd same
same_after actions (Skipped a) (Skipped b) s same = ap (λ (i : ℕ). act_all (actions_of actions i) s) same.0
same_after actions (Skipped a) (Fault start slice) s same = absurd same
same_after actions (Fault start slice) (Token b) s same = absurd same
same_after actions (Fault start slice) (Skipped b) s same = absurd same
same_after actions (Fault start slice) (Fault start2 slice2) s same = refl

-- the pieces of a text from a stack on are unique, and so is the stack at its end
pub pieces-from-unique : (r : ModeRules) (text : List ℕ) (at : ℕ) (s : Stack) (xs ys : List Piece) (t u : Stack) → ArePiecesFrom r text at s xs t
    → ArePiecesFrom r text at s ys u → AreSame xs ys × (t ≡ u)
pieces-from-unique r text at s [] [] t u are too = (tt, are.1 ∙ sym too.1)
pieces-from-unique r text at s [] (y ∷ ys) t u are too =
    absurd (no_piece_left (trees_in r s.mode) r.precedences r.skips text at y too.0 are.0)
pieces-from-unique r text at s (x ∷ xs) [] t u are too =
    absurd (no_piece_left (trees_in r s.mode) r.precedences r.skips text at x are.0 too.0)
pieces-from-unique r text at s (x ∷ xs) (y ∷ ys) t u are too =
    let same = same_piece (trees_in r s.mode) r.precedences r.skips text at x y are.0 too.0 in
    let behind = ap (λ (p : List ℕ). at + length p) (same_slice x y same) in
    let moved = subst (λ (n : ℕ). ArePiecesFrom r text n (after r.actions x s) xs t) behind are.1 in
    let later = subst (λ (v : Stack). ArePiecesFrom r text (at + length (slice_of y)) v xs t) (same_after r.actions x y s same) moved in
    let rest = pieces-from-unique r text (at + length (slice_of y)) (after r.actions y s) xs ys t u later too.1 in
    ((same, rest.0), rest.1)

-- the stack at the end is what the pieces make of the stack at the beginning
pub end-after : (r : ModeRules) (text : List ℕ) (at : ℕ) (s : Stack) (xs : List Piece) (t : Stack) → ArePiecesFrom r text at s xs t
    → t ≡ after_all r.actions xs s
end-after r text at s [] t are = are.1
end-after r text at s (x ∷ xs) t are = end-after r text (at + length (slice_of x)) (after r.actions x s) xs t are.1

-- ---- no actions: as without modes

abbrev pub AllStay : List (List Action) → Type 0
AllStay actions = (i : ℕ) → actions_of actions i ≡ []

stays : (actions : List (List Action)) → AllStay actions → (x : Piece) (s : Stack) → after actions x s ≡ s
stays actions stay (Token token) s = ap (λ (acts : List Action). act_all acts s) (stay token.index)
stays actions stay (Skipped token) s = ap (λ (acts : List Action). act_all acts s) (stay token.index)
stays actions stay (Fault start slice) s = refl

-- if no rule has an action, the pieces are those of the trees of the mode that the text begins in
pub as-without-modes : (r : ModeRules) (text : List ℕ) (at : ℕ) (s : Stack) (xs : List Piece) (t : Stack) → AllStay r.actions
    → ArePiecesFrom r text at s xs t → ArePieces (trees_in r s.mode) r.precedences r.skips text at xs × (t ≡ s)
as-without-modes r text at s [] t stay are = are
as-without-modes r text at s (x ∷ xs) t stay are =
    let same = subst (λ (v : Stack). ArePiecesFrom r text (at + length (slice_of x)) v xs t) (stays r.actions stay x s) are.1 in
    let later = as-without-modes r text (at + length (slice_of x)) s xs t stay same in
    ((are.0, later.0), later.1)

-- and the other way round
pub with-modes : (r : ModeRules) (text : List ℕ) (at : ℕ) (s : Stack) (xs : List Piece) → AllStay r.actions
    → ArePieces (trees_in r s.mode) r.precedences r.skips text at xs → ArePiecesFrom r text at s xs s
with-modes r text at s [] stay are = (are, refl)
with-modes r text at s (x ∷ xs) stay are =
    let later = with-modes r text (at + length (slice_of x)) s xs stay are.1 in
    (are.0, subst (λ (v : Stack). ArePiecesFrom r text (at + length (slice_of x)) v xs s) (sym (stays r.actions stay x s)) later)

-- ---- the pieces are the text
pub joined-from : (r : ModeRules) (text : List ℕ) (at : ℕ) (s : Stack) (xs : List Piece) (t : Stack) → ArePiecesFrom r text at s xs t
    → joined xs ≡ drop at text
joined-from r text at s [] t are = sym are.0
joined-from r text at s (x ∷ xs) t are =
    ap (λ (p : List ℕ). slice_of x ++ p) (joined-from r text (at + length (slice_of x)) (after r.actions x s) xs t are.1)
    ∙ sym (split_at text at (slice_of x) (is_split (trees_in r s.mode) r.precedences r.skips text at x are.0))
