-- The bytes of pieces that are given one after another.
use Rattle.std.proofs.Common.{◌≡◌, ℕ, Bool, true, false, List, [], ◌∷◌, ◌++◌, length, refl, sym, ap, ◌∙◌, append_assoc}
use Rattle.std.specs.Prelude.{Option, Some, None, slice_get}
use Rattle.std.specs.Borrow.{Bor}
use Rattle.std.proofs.lemmas.List.{append-nil}
use Rattle.lalrpop_rules.specs.Pieces.{AreSame, joined, slice_of}
use Rattle.lalrpop_rules.specs.declared.piece.Piece.{Piece}
use Rattle.lalrpop_rules.specs.declared.piece.Piece.TheVariants.{Fault}
use Rattle.bajofeki.specs.Given.{item_by, piece_of}
use Rattle.bajofeki.specs.declared.given_piece.GivenPiece.{GivenPiece}
use Rattle.lalrpop_rules.proofs.UniquePieces.{same_slice}
use Rattle.bajofeki_rules.specs.Stack.{Stack, start}
use Rattle.lalrpop_rules.specs.Modes.{ModeRules, ArePiecesFrom}
use Rattle.bajofeki.specs.Chunked.{Chunked, Came, IsHeldBack, BeginsFault, nothing_come}
use Rattle.bajofeki.proofs.ChunkLaws.{came_nothing, came_more, came_rest, came_pieces, fault_follows}

slice_by : (o : Option ℕ) (skipped : Bool) (at : ℕ) (slice : Bor (List ℕ)) → slice_of (item_by o skipped at slice) ≡ slice.now
slice_by None skipped at slice = refl
slice_by (Some i) true at slice = refl
slice_by (Some i) false at slice = refl

joined_more : (xs : List Piece) (x : Piece) → joined (xs ++ x ∷ []) ≡ joined xs ++ slice_of x
joined_more [] x = append-nil (slice_of x)
joined_more (y ∷ xs) x = ap (λ (t : List ℕ). slice_of y ++ t) (joined_more xs x) ∙ sym (append_assoc (slice_of y) (joined xs) (slice_of x))

-- one piece more, by its slice
pub bytes_on : (xs : List Piece) (p : GivenPiece) (slice : Bor (List ℕ)) (old new : List ℕ) → old ≡ joined xs → new ≡ old ++ slice.now
    → new ≡ joined (xs ++ piece_of p slice ∷ [])
bytes_on xs p slice old new so_far is =
    is ∙ ap (λ (t : List ℕ). t ++ slice.now) so_far
    ∙ ap (λ (t : List ℕ). joined xs ++ t) (sym (slice_by p.rule p.is_skipped p.start slice)) ∙ sym (joined_more xs (piece_of p slice))

-- the first chunk
module _ (r : ModeRules) (c d : Chunked) (front : List ℕ) (none : c ≡ nothing_come r) (fed : d ≡ record c { last = []; rest = c.rest ++ front }) where
  pub goes_on : d.is_ended ≡ false
  goes_on = ap (λ (e : Chunked). e.is_ended) fed ∙ ap (λ (e : Chunked). e.is_ended) none

  pub came_front : Came r front [] d
  came_front = came_more r [] [] c d (came_nothing r c none) front (ap (λ (e : Chunked). e.is_ended) none) fed

-- all that was given, once the text has ended and none is held back
pub whole_of : (r : ModeRules) (text bytes : List ℕ) (xs : List Piece) (c : Chunked) → Came r text xs c → c.is_ended ≡ true → IsHeldBack c → bytes ≡ joined xs
    → (bytes ≡ text) × ArePiecesFrom r text 0 start xs c.stack
whole_of r text bytes xs c came over held is =
    let none : c.rest ≡ [] = held.0 over in
    let all = came_rest r text xs c came in (
      is ∙ sym (append-nil (joined xs)) ∙ ap (λ (t : List ℕ). joined xs ++ t) (sym none) ∙ sym all.0,
      came_pieces r text xs c came over none,
    )

pub same_joined : (xs ys : List Piece) → AreSame xs ys → joined xs ≡ joined ys
same_joined [] [] are = refl
same_joined [] (y ∷ ys) are = absurd are
same_joined (x ∷ xs) [] are = absurd are
same_joined (x ∷ xs) (y ∷ ys) are =
    ap (λ (p : List ℕ). p ++ joined xs) (same_slice x y are.0) ∙ ap (λ (t : List ℕ). slice_of y ++ t) (same_joined xs ys are.1)

-- a fault that begins after what was given is there in the whole text
pub fault_at : (r : ModeRules) (text bytes : List ℕ) (xs : List Piece) (c : Chunked) (at : ℕ) → Came r text xs c → c.is_ended ≡ false → BeginsFault c → bytes ≡ joined xs
    → at ≡ length bytes → (back : List ℕ) (ys : List Piece) (end : Stack) → ArePiecesFrom r (text ++ back) 0 start ys end
    → (n : ℕ) × ((slice : Bor (List ℕ)) × (slice_get ys n ≡ Some (Fault at slice)))
fault_at r text bytes xs c at came goes begins so_far size back ys end all =
    let fault = fault_follows r text xs c came begins back (λ over. absurd (no_bool (sym goes ∙ over))) ys end all in
    let place : c.at ≡ at = (came_rest r text xs c came).1 ∙ ap length (sym so_far) ∙ sym size in
    (length xs, (fault.0, fault.1 ∙ ap (λ (n : ℕ). Some (Fault n fault.0)) place))
  where
    no_bool : false ≡ true → ⊥
    no_bool same = cc
