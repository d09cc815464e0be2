-- An edit cuts anew no further than needed: no place before the end of the change is one where old pieces and new ones meet.
use Rattle.std.proofs.Common.{◌≡◌, ℕ, ◌+◌, List, [], ◌∷◌, length, take, drop, arith, refl, sym, ap, ◌∙◌}
use Rattle.lalrpop_rules.specs.Pieces.{IsSame, AreSame}
use Rattle.lalrpop_rules.specs.declared.piece.Piece.{Piece}
use Rattle.lalrpop_rules.specs.declared.piece.Piece.TheVariants.{Token, Skipped, Fault}
use Rattle.bajofeki_rules.specs.declared.action.Action.{Action}
use Rattle.bajofeki_rules.specs.Stack.{Stack, start, act_all, actions_of}
use Rattle.lalrpop_rules.specs.Modes.{ModeRules, after, after_all}
use Rattle.bajofeki.specs.Internal.Kept.{rule_of, KeptUpTo, after_kept}
use Rattle.bajofeki.specs.Lexed.{end_of, IsEarliest}
use Rattle.bajofeki.specs.declared.change.Change.{Change}
use Rattle.bajofeki.specs.declared.kept.Kept.{Kept}
use Rattle.bajofeki.specs.declared.meet.Edit.{Edit}
use Rattle.bajofeki.specs.Internal.Blocks.{sizes, after_pieces}
use Rattle.bajofeki.specs.Internal.Least.{IsLeastChange}
use Rattle.bajofeki.specs.Internal.KeptPieces.{items_from}
use Rattle.bajofeki.specs.Internal.Meeting.{new_place}
use Rattle.bajofeki.proofs.BlockLaws.{kept_sizes}
use Rattle.bajofeki.proofs.Changes.{same_front, items_front, front_bytes}
use Rattle.bajofeki.proofs.KeptPieces.{after_with, same_items}

-- equal pieces do the same to the stack
after_same : (actions : List (List Action)) (x y : Piece) (s : Stack) → IsSame x y → after actions x s ≡ after actions y s
after_same actions (Token a) (Token b) s e = ap (λ (i : ℕ). act_all (actions_of actions i) s) e.0
after_same actions (Token a) (Skipped b) s e = absurd e
after_same actions (Token a) (Fault at slice) s e = absurd e
after_same actions (Skipped a) (Token b) s e = absurd e
after_same actions (Skipped a) (Skipped b) s e = ap (λ (i : ℕ). act_all (actions_of actions i) s) e.0
after_same actions (Skipped a) (Fault at slice) s e = absurd e
after_same actions (Fault at slice) (Token b) s e = absurd e
after_same actions (Fault at slice) (Skipped b) s e = absurd e
after_same actions (Fault at slice) (Fault at2 slice2) s e = refl

all_after_same : (actions : List (List Action)) (xs ys : List Piece) (s : Stack) → AreSame xs ys → after_all actions xs s ≡ after_all actions ys s
all_after_same actions [] [] s are = refl
all_after_same actions [] (y ∷ ys) s are = absurd are
all_after_same actions (x ∷ xs) [] s are = absurd are
all_after_same actions (x ∷ xs) (y ∷ ys) s are =
    ap (λ (t : Stack). after_all actions xs t) (after_same actions x y s are.0) ∙ all_after_same actions xs ys (after actions y s) are.1

-- and what is kept of them does too
items_after : (r : ModeRules) (text : List ℕ) (at : ℕ) (ks : List Kept) (s : Stack)
    → after_all r.actions (items_from r.skips text at ks) s ≡ after_pieces r ks s
items_after r text at [] s = refl
items_after r text at (k ∷ ks) s =
    ap (λ (t : Stack). after_all r.actions (items_from r.skips text (at + k.size) ks) t) (after_with r.actions r.skips at (rule_of k) (take k.size (drop at text)) s)
    ∙ items_after r text (at + k.size) ks (after_kept r k s)

-- so the first n pieces leave the stack that the first n that are kept do
pub front_stack : (r : ModeRules) (text : List ℕ) (ks : List Kept) (xs : List Piece) (n : ℕ) → AreSame xs (items_from r.skips text 0 ks)
    → after_all r.actions (take n xs) start ≡ after_pieces r (take n ks) start
front_stack r text ks xs n same =
    all_after_same r.actions (take n xs) (take n (items_from r.skips text 0 ks)) start (same_front n xs (items_from r.skips text 0 ks) same)
    ∙ ap (λ (ys : List Piece). after_all r.actions ys start) (items_front r.skips text 0 n ks) ∙ items_after r text 0 (take n ks) start

-- none of the pieces that went and came meet before the last
pub is_earliest : (r : ModeRules) (before text : List ℕ) (e : Edit) (ks ls : List Kept) (c : Change) (t u : Stack) → KeptUpTo r before 0 start ks (length before) t
    → KeptUpTo r text 0 start ls (length text) u → IsLeastChange r e ks ls c
    → IsEarliest (record { rules = r; text = before }) (record { rules = r; text = text }) e.from e.to e.size c
is_earliest r before text e ks ls c t u are too least xs ys pieces pieces2 i j from to from2 to2 met =
    let same : AreSame xs (items_from r.skips before 0 ks) = same_items (record { rules = r; text = before }) ks t xs are pieces in
    let same2 : AreSame ys (items_from r.skips text 0 ls) = same_items (record { rules = r; text = text }) ls u ys too pieces2 in
    let all : sizes ks ≡ length before = omega (arith, (kept_sizes r before 0 start ks (length before) t are).0) in
    let all2 : sizes ls ≡ length text = omega (arith, (kept_sizes r text 0 start ls (length text) u too).0) in
    let here : sizes (take i ks) ≡ end_of i xs = front_bytes r.skips before ks xs i (sizes (take i ks)) same all refl in
    let here2 : sizes (take j ls) ≡ end_of j ys = front_bytes r.skips text ls ys j (sizes (take j ls)) same2 all2 refl in
    least.none i j from to from2 to2 (record {
      behind = omega (arith, met.behind, here);
      same = ap (new_place e) here ∙ met.same ∙ sym here2;
      stack = sym (front_stack r before ks xs i same) ∙ met.stack ∙ front_stack r text ls ys j same2;
    })
