-- What was given of a text that came in chunks: its pieces, one after another from its beginning on, whatever comes after them.
use Rattle.std.proofs.Common.{◌≡◌, ◌≢◌, ℕ, ◌+◌, ◌<◌, true, false, List, [], ◌∷◌, ◌++◌, length, take, drop, arith, refl, sym, ap, subst, ◌∙◌, append_assoc, length-append}
use Rattle.std.specs.Prelude.{Bool, Option, Some, None, Result, Ok, slice_get}
use Rattle.std.specs.Borrow.{Bor}
use Rattle.std.proofs.lemmas.List.{append-nil, drop_at}
use Rattle.lalrpop_hir.specs.Tree.{Tree}
use Rattle.lalrpop_hir.specs.Longest.{IsMatch}
use Rattle.lalrpop_rules.specs.Found.{MatchesAt}
use Rattle.lalrpop_rules.specs.Pieces.{IsPiece, AreSame, slice_of, joined}
use Rattle.lalrpop_rules.specs.declared.piece.Piece.{Piece}
use Rattle.lalrpop_rules.specs.declared.piece.Piece.TheVariants.{Token, Skipped, Fault}
use Rattle.lalrpop_rules.proofs.PieceLaws.{is_some, is_split}
use Rattle.lalrpop_rules.proofs.FirstMatches.{some_length}
use Rattle.bajofeki_rules.specs.Stack.{Stack, start}
use Rattle.lalrpop_rules.specs.Modes.{ModeRules, ArePiecesFrom, trees_in, after}
use Rattle.bajofeki.specs.Lexed.{placed}
use Rattle.bajofeki.specs.Given.{piece_of}
use Rattle.bajofeki.specs.declared.given_piece.GivenPiece.{GivenPiece}
use Rattle.bajofeki.specs.declared.error.EditError.{EditError}
use Rattle.bajofeki.specs.Chunked.{Chunked, nothing_come, IsFinal, IsHeldBack, GivesFinal, GivesOrRefuses, BeginsFault, Came, nothing, fed, given, ended}
use Rattle.bajofeki.proofs.Chunking.{slice_placed, from_front, ArePiecesTo, one_more, all_at_end, begin_all, next_of_all}

-- ---- what the calls do

-- before the first chunk
pub came_nothing : (r : ModeRules) (c : Chunked) → c ≡ nothing_come r → Came r [] [] c
came_nothing r c is = subst (λ (d : Chunked). Came r [] [] d) (sym is) nothing

module _ (r : ModeRules) (text : List ℕ) (xs : List Piece) (c d : Chunked) (came : Came r text xs c) where
  -- a chunk comes
  pub came_more : (chunk : List ℕ) → c.is_ended ≡ false → d ≡ record c { last = []; rest = c.rest ++ chunk } → Came r (text ++ chunk) xs d
  came_more chunk goes is = subst (λ (e : Chunked). Came r (text ++ chunk) xs e) (sym is) (fed chunk goes came)

  -- a piece is given
  pub came_given : (x : Piece) → GivesFinal c (Some x) d → Came r text (xs ++ x ∷ []) d
  came_given x gives = given x gives came

  -- none is
  pub came_held : GivesFinal c None d → Came r text xs d
  came_held gives = subst (λ (e : Chunked). Came r text xs e) (sym gives.0) came

  -- no more comes
  pub came_whole : d ≡ record c { is_ended = true } → Came r text xs d
  came_whole is = subst (λ (e : Chunked). Came r text xs e) (sym is) (ended came)

-- ---- what a call told

-- it was a piece, for whoever has its slice
pub gives_some : (old new : Chunked) (result : Result (Option GivenPiece) EditError) (piece : GivenPiece) (slice : Bor (List ℕ)) → result ≡ Ok (Some piece)
    → GivesOrRefuses old result new → slice.now ≡ new.last → GivesFinal old (Some (piece_of piece slice)) new
gives_some old new result piece slice is gives same =
    subst (λ (told : Result (Option GivenPiece) EditError). GivesOrRefuses old told new) is gives slice same

-- it was none
pub gives_none : (old new : Chunked) (result : Result (Option GivenPiece) EditError) → result ≡ Ok None → GivesOrRefuses old result new → GivesFinal old None new
gives_none old new result is gives = subst (λ (told : Result (Option GivenPiece) EditError). GivesOrRefuses old told new) is gives

-- then none is to be had, before more comes
pub held_after : (old new : Chunked) → GivesFinal old None new → IsHeldBack new
held_after old new gives = subst (λ (c : Chunked). IsHeldBack c) (sym gives.0) gives.1

-- ---- what has come

-- the bytes of a piece that is final, and the rest after them
front_of_rest : (c : Chunked) (x : Piece) → IsFinal c x → c.rest ≡ slice_of x ++ drop (length (slice_of x)) c.rest
front_of_rest c x final =
    let front = is_split (trees_in c.rules c.stack.mode) c.rules.precedences c.rules.skips (c.rest ++ []) 0 (placed 0 x) (final [] (λ _. refl)) in
    let split : c.rest ≡ slice_of x ++ front.0 = sym (append-nil c.rest) ∙ front.1 ∙ ap (λ (p : List ℕ). p ++ front.0) (slice_placed 0 x) in
    split ∙ ap (λ (t : List ℕ). slice_of x ++ t) (sym (ap (drop (length (slice_of x))) split ∙ drop_at (slice_of x) front.0 (length (slice_of x)) refl))

-- less is left after a piece that is given, so a caller who asks for one after another comes to an end
pub given_less : (c d : Chunked) (x : Piece) → GivesFinal c (Some x) d → length d.rest < length c.rest
given_less c d x gives =
    let some = is_some (trees_in c.rules c.stack.mode) c.rules.precedences c.rules.skips (c.rest ++ []) 0 (placed 0 x) (gives.0 [] (λ _. refl)) in
    let size : 0 < length (slice_of x) = subst (λ (p : List ℕ). 0 < length p) (slice_placed 0 x) (some_length (slice_of (placed 0 x)) some) in
    omega (
      arith,
      size,
      ap length (front_of_rest c x gives.0),
      ap (λ (e : Chunked). length e.rest) gives.2,
      length-append (slice_of x) (drop (length (slice_of x)) c.rest),
    )

joined_more : (xs : List Piece) (x : Piece) → joined (xs ++ x ∷ []) ≡ joined xs ++ slice_of x
joined_more [] x = append-nil (slice_of x)
joined_more (y ∷ xs) x = ap (λ (t : List ℕ). slice_of y ++ t) (joined_more xs x) ∙ sym (append_assoc (slice_of y) (joined xs) (slice_of x))

-- the text is what was given and the rest
pub came_rest : (r : ModeRules) (text : List ℕ) (xs : List Piece) (c : Chunked) → Came r text xs c
    → (text ≡ joined xs ++ c.rest) × (c.at ≡ length (joined xs)) × (c.rules ≡ r)
came_rest r _ _ _ nothing = (refl, refl, refl)
came_rest r _ xs _ (fed {text = text} {c = c} chunk goes came) =
    let so_far = came_rest r text xs c came in
    (ap (λ (t : List ℕ). t ++ chunk) so_far.0 ∙ append_assoc (joined xs) c.rest chunk, so_far.1, so_far.2)
came_rest r text _ d (given {xs = xs} {c = c} x gives came) =
    let so_far = came_rest r text xs c came in
    let behind : List ℕ = drop (length (slice_of x)) c.rest in
    let left : d.rest ≡ behind = ap (λ (e : Chunked). e.rest) gives.2 in
    let place : d.at ≡ c.at + length (slice_of x) = ap (λ (e : Chunked). e.at) gives.2 in
    let rules : d.rules ≡ c.rules = ap (λ (e : Chunked). e.rules) gives.2 in (
      so_far.0 ∙ ap (λ (t : List ℕ). joined xs ++ t) (front_of_rest c x gives.0) ∙ sym (append_assoc (joined xs) (slice_of x) behind)
          ∙ ap (λ (t : List ℕ). t ++ behind) (sym (joined_more xs x)) ∙ ap (λ (t : List ℕ). joined (xs ++ x ∷ []) ++ t) (sym left),
      place ∙ ap (λ (n : ℕ). n + length (slice_of x)) so_far.1 ∙ sym (ap length (joined_more xs x) ∙ length-append (joined xs) (slice_of x)),
      rules ∙ so_far.2,
    )
came_rest r text xs _ (ended {c = c} came) = came_rest r text xs c came

-- ---- a fault

-- where a fault is given, it had begun
pub fault_begins : (c d : Chunked) (at : ℕ) (slice : Bor (List ℕ)) → GivesFinal c (Some (Fault at slice)) d → BeginsFault c
fault_begins c d at slice gives = (
  (λ none. omega (arith, given_less c d (Fault at slice) gives, ap length none)),
  (λ more may n below m.
      let fault = (gives.0 more may).1 in
      fault.nothing n (omega (arith, below, some_length slice.now fault.some)) m),
)

-- ---- the pieces that were given

-- after what was given lies the rest, and what comes
left_behind : (r : ModeRules) (text more : List ℕ) (xs : List Piece) (c : Chunked) → Came r text xs c → drop c.at (text ++ more) ≡ c.rest ++ more
left_behind r text more xs c came =
    let so_far = came_rest r text xs c came in
    ap (drop c.at) (ap (λ (t : List ℕ). t ++ more) so_far.0 ∙ append_assoc (joined xs) c.rest more)
    ∙ drop_at (joined xs) (c.rest ++ more) c.at (sym so_far.1)

-- whatever comes, if anything may, they are the pieces up to the place
pub came_to : (r : ModeRules) (text : List ℕ) (xs : List Piece) (c : Chunked) → Came r text xs c → (more : List ℕ) → (c.is_ended ≡ true → more ≡ [])
    → ArePiecesTo r (text ++ more) 0 start xs c.at c.stack
came_to r _ _ _ nothing more may = (refl, refl)
came_to r _ xs _ (fed {text = text} {c = c} chunk goes came) more may =
    let open_still : c.is_ended ≡ true → chunk ++ more ≡ [] = λ over. absurd (no_bool (sym goes ∙ over)) in
    subst (λ (t : List ℕ). ArePiecesTo r t 0 start xs c.at c.stack) (sym (append_assoc text chunk more)) (came_to r text xs c came (chunk ++ more) open_still)
  where
    no_bool : false ≡ true → ⊥
    no_bool same = cc
came_to r text _ d (given {xs = xs} {c = c} x gives came) more may =
    let same : d.is_ended ≡ c.is_ended = ap (λ (e : Chunked). e.is_ended) gives.2 in
    let rules : c.rules ≡ r = (came_rest r text xs c came).2 in
    let may_too : c.is_ended ≡ true → more ≡ [] = λ over. may (same ∙ over) in
    let front = gives.0 more may_too in
    let is = from_front (trees_in c.rules c.stack.mode) c.rules.precedences c.rules.skips (text ++ more) (c.rest ++ more) c.at x (left_behind r text more xs c came) gives.1 front in
    let is_too = subst (λ (q : ModeRules). IsPiece (trees_in q c.stack.mode) q.precedences q.skips (text ++ more) c.at x) rules is in
    let are = one_more r (text ++ more) 0 start xs c.at c.stack x (came_to r text xs c came more may_too) is_too in
    let are_too = subst (λ (q : ModeRules). ArePiecesTo r (text ++ more) 0 start (xs ++ x ∷ []) (c.at + length (slice_of x)) (after q.actions x c.stack)) (sym rules) are in
    subst (λ (e : Chunked). ArePiecesTo r (text ++ more) 0 start (xs ++ x ∷ []) e.at e.stack) (sym gives.2) are_too
came_to r text xs _ (ended {c = c} came) more may = came_to r text xs c came more (λ _. may refl)

-- at the end they are all pieces of the text
pub came_pieces : (r : ModeRules) (text : List ℕ) (xs : List Piece) (c : Chunked) → Came r text xs c → c.is_ended ≡ true → c.rest ≡ []
    → ArePiecesFrom r text 0 start xs c.stack
came_pieces r text xs c came over none =
    let are = came_to r text xs c came [] (λ _. refl) in
    let end : drop c.at (text ++ []) ≡ [] = left_behind r text [] xs c came ∙ append-nil c.rest ∙ none in
    subst (λ (t : List ℕ). ArePiecesFrom r t 0 start xs c.stack) (append-nil text) (all_at_end r (text ++ []) 0 start xs c.at c.stack are end)

-- before it they begin the pieces of the whole text, whatever comes
pub came_first : (r : ModeRules) (text : List ℕ) (xs : List Piece) (c : Chunked) → Came r text xs c → c.is_ended ≡ false → (more : List ℕ) → (ys : List Piece)
    (end : Stack) → ArePiecesFrom r (text ++ more) 0 start ys end → AreSame xs (take (length xs) ys)
came_first r text xs c came goes more ys end all =
    begin_all r (text ++ more) 0 start xs c.at c.stack ys end (came_to r text xs c came more (λ over. absurd (no_bool (sym goes ∙ over)))) all
  where
    no_bool : false ≡ true → ⊥
    no_bool same = cc

-- where a fault begins, nothing matches in the whole text, whatever comes
pub nothing_there : (r : ModeRules) (text : List ℕ) (xs : List Piece) (c : Chunked) → Came r text xs c → BeginsFault c → (more : List ℕ)
    → (c.is_ended ≡ true → more ≡ []) → ¬ MatchesAt (trees_in r c.stack.mode) (text ++ more) c.at
nothing_there r text xs c came begins more may m =
    let rules : c.rules ≡ r = (came_rest r text xs c came).2 in
    let here = subst (λ (t : List ℕ). IsMatch (trees_in r c.stack.mode) t m.0) (left_behind r text more xs c came) m.1 in
    begins.1 more may 0 (omega arith) (m.0, subst (λ (q : ModeRules). IsMatch (trees_in q c.stack.mode) (c.rest ++ more) m.0) (sym rules) here)

front_empty : (front back : List ℕ) → front ++ back ≡ [] → front ≡ []
front_empty [] back none = refl
front_empty (x ∷ front) back none = cc

where_none_matches : (ts : List Tree) (ps : List ℕ) (skips : List Bool) (text : List ℕ) (at : ℕ) (x : Piece) → IsPiece ts ps skips text at x → ¬ MatchesAt ts text at
    → (slice : Bor (List ℕ)) × (x ≡ Fault at slice)
where_none_matches ts ps skips text at (Token token) is none = absurd (none (token.slice.now, is.0.1.0))
where_none_matches ts ps skips text at (Skipped token) is none = absurd (none (token.slice.now, is.0.1.0))
where_none_matches ts ps skips text at (Fault here slice) is none = (slice, ap (λ (n : ℕ). Fault n slice) is.0)

-- so a fault follows what was given, among the pieces of the whole text
pub fault_follows : (r : ModeRules) (text : List ℕ) (xs : List Piece) (c : Chunked) → Came r text xs c → BeginsFault c → (more : List ℕ)
    → (c.is_ended ≡ true → more ≡ []) → (ys : List Piece) (end : Stack) → ArePiecesFrom r (text ++ more) 0 start ys end
    → (slice : Bor (List ℕ)) × (slice_get ys (length xs) ≡ Some (Fault c.at slice))
fault_follows r text xs c came begins more may ys end all =
    let some : drop c.at (text ++ more) ≢ [] = λ none. begins.0 (front_empty c.rest more (sym (left_behind r text more xs c came) ∙ none)) in
    let next = next_of_all r (text ++ more) 0 start xs c.at c.stack ys end (came_to r text xs c came more may) all some in
    let fault =
    where_none_matches (trees_in r c.stack.mode) r.precedences r.skips (text ++ more) c.at next.0 next.1.0 (nothing_there r text xs c came begins more may) in
    (fault.0, next.1.1 ∙ ap Some fault.1)
