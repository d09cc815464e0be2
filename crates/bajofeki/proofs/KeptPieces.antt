-- The pieces of a text are those that are kept.
use Rattle.std.proofs.Common.{◌≡◌, ℕ, suc, ◌+◌, ◌≤◌, Bool, true, false, List, [], ◌∷◌, length, take, drop, refl, sym, ap, subst, ◌∙◌, arith, length-append}
use Rattle.std.specs.Prelude.{Option, Some, None, slice_get}
use Rattle.std.proofs.lemmas.List.{take_at, drop_all, length-take-le}
use Rattle.std.proofs.lemmas.Option.{same_Some}
use Rattle.lalrpop_hir.specs.Tree.{Tree}
use Rattle.lalrpop_hir.specs.Prefix.{IsPrefix}
use Rattle.lalrpop_hir.specs.declared.token.Token.{Token as Cut}
use Rattle.lalrpop_rules.specs.Pieces.{IsPiece, IsSame, AreSame, slice_of, start_of}
use Rattle.lalrpop_rules.specs.declared.piece.Piece.{Piece}
use Rattle.lalrpop_rules.specs.declared.piece.Piece.TheVariants.{Token, Skipped, Fault}
use Rattle.bajofeki_rules.specs.declared.action.Action.{Action}
use Rattle.bajofeki_rules.specs.Stack.{Stack, start}
use Rattle.lalrpop_rules.specs.Modes.{ModeRules, trees_in, after, ArePiecesFrom}
use Rattle.lalrpop_rules.proofs.ModePieces.{pieces-from-unique}
use Rattle.bajofeki.specs.Internal.Kept.{rule_of, IsFront, IsKept, KeptUpTo, after_rule, after_kept}
use Rattle.bajofeki.specs.Lexed.{Lexed, ArePiecesOf}
use Rattle.bajofeki.specs.declared.kept.Kept.{Kept}
use Rattle.bajofeki.proofs.KeptLaws.{front_split}
use Rattle.bajofeki.specs.Internal.KeptPieces.{slice_with, token_or_skipped, item_with, item_at, items_from}

-- ---- one piece

-- what is kept of the piece at the front of a text is its first bytes
pub front_kept : (r : ModeRules) (mode : ℕ) (text : List ℕ) (k : Kept) → IsKept r mode text k
    → (k.size ≤ length text) × IsFront (trees_in r mode) r.precedences text (rule_of k) (take k.size text)
front_kept r mode text k kept =
    let here = kept.front text refl in
    let front = front_split (trees_in r mode) r.precedences text (rule_of k) here.0 here.1.1 in
    let same : here.0 ≡ take k.size text = sym (take_at here.0 front.0 k.size here.1.0) ∙ ap (take k.size) (sym front.1) in
    let fits : k.size ≤ length text = omega (arith, here.1.0, ap length front.1, length-append here.0 front.0) in
    (fits, subst (λ (p : List ℕ). IsFront (trees_in r mode) r.precedences text (rule_of k) p) same here.1.1)

token_is : (ts : List Tree) (ps : List ℕ) (skips : List Bool) (text : List ℕ) (at i : ℕ) (bytes : List ℕ) (b : Option Bool) → slice_get skips i ≡ b
    → IsFront ts ps (drop at text) (Some i) bytes
    → IsPiece ts ps skips text at (token_or_skipped b (record { index = i; slice = slice_with bytes; start = at }))
token_is ts ps skips text at i bytes None e is = ((refl, is.0, is.1), λ s. let no : Some true ≡ None = sym s ∙ e in absurd (cc))
token_is ts ps skips text at i bytes (Some false) e is =
    ((refl, is.0, is.1), λ s. let no : true ≡ false = same_Some _ _ (sym s ∙ e) in absurd (cc))
token_is ts ps skips text at i bytes (Some true) e is = ((refl, is.0, is.1), e)

piece_with : (ts : List Tree) (ps : List ℕ) (skips : List Bool) (text : List ℕ) (at : ℕ) (o : Option ℕ) (bytes : List ℕ)
    → IsFront ts ps (drop at text) o bytes → IsPiece ts ps skips text at (item_with skips at o bytes)
piece_with ts ps skips text at None bytes is = (refl, is)
piece_with ts ps skips text at (Some i) bytes is = token_is ts ps skips text at i bytes (slice_get skips i) refl is

token_slice : (b : Option Bool) (token : Cut) → slice_of (token_or_skipped b token) ≡ token.slice.now
token_slice None token = refl
token_slice (Some false) token = refl
token_slice (Some true) token = refl

pub slice_with_is : (skips : List Bool) (at : ℕ) (o : Option ℕ) (bytes : List ℕ) → slice_of (item_with skips at o bytes) ≡ bytes
slice_with_is skips at None bytes = refl
slice_with_is skips at (Some i) bytes = token_slice (slice_get skips i) (record { index = i; slice = slice_with bytes; start = at })

token_start : (b : Option Bool) (token : Cut) → start_of (token_or_skipped b token) ≡ token.start
token_start None token = refl
token_start (Some false) token = refl
token_start (Some true) token = refl

pub start_with_is : (skips : List Bool) (at : ℕ) (o : Option ℕ) (bytes : List ℕ) → start_of (item_with skips at o bytes) ≡ at
start_with_is skips at None bytes = refl
start_with_is skips at (Some i) bytes = token_start (slice_get skips i) (record { index = i; slice = slice_with bytes; start = at })

token_after : (actions : List (List Action)) (b : Option Bool) (i : ℕ) (bytes : List ℕ) (at : ℕ) (s : Stack)
    → after actions (token_or_skipped b (record { index = i; slice = slice_with bytes; start = at })) s ≡ after_rule actions (Some i) s
token_after actions None i bytes at s = refl
token_after actions (Some false) i bytes at s = refl
token_after actions (Some true) i bytes at s = refl

pub after_with : (actions : List (List Action)) (skips : List Bool) (at : ℕ) (o : Option ℕ) (bytes : List ℕ) (s : Stack)
    → after actions (item_with skips at o bytes) s ≡ after_rule actions o s
after_with actions skips at None bytes s = refl
after_with actions skips at (Some i) bytes s = token_after actions (slice_get skips i) i bytes at s

-- ---- one after another

pub slice_at_size : (skips : List Bool) (text : List ℕ) (at : ℕ) (k : Kept) → k.size ≤ length (drop at text) → length (slice_of (item_at skips text at k)) ≡ k.size
slice_at_size skips text at k fits =
    ap length (slice_with_is skips at (rule_of k) (take k.size (drop at text))) ∙ length-take-le k.size (drop at text) fits

-- the pieces of which these are kept are those of the text
pub are_pieces : (r : ModeRules) (text : List ℕ) (at : ℕ) (s : Stack) (ks : List Kept) (to : ℕ) (t : Stack) → KeptUpTo r text at s ks to t → to ≡ length text
    → ArePiecesFrom r text at s (items_from r.skips text at ks) t
are_pieces r text at s [] to t are e = (drop_all at text (omega (arith, are.0, e)), sym are.1)
are_pieces r text at s (k ∷ ks) to t are e =
    let front = front_kept r s.mode (drop at text) k are.0 in
    let size : length (slice_of (item_at r.skips text at k)) ≡ k.size = slice_at_size r.skips text at k front.0 in
    let stack : after r.actions (item_at r.skips text at k) s ≡ after_kept r k s = after_with r.actions r.skips at (rule_of k) (take k.size (drop at text)) s in
    let later = are_pieces r text (at + k.size) (after_kept r k s) ks to t are.1 e in
    let placed = subst (λ (n : ℕ). ArePiecesFrom r text (at + n) (after_kept r k s) (items_from r.skips text (at + k.size) ks) t) (sym size) later in (
      piece_with (trees_in r s.mode) r.precedences r.skips text at (rule_of k) (take k.size (drop at text)) front.1,
      subst (λ (u : Stack). ArePiecesFrom r text (at + length (slice_of (item_at r.skips text at k))) u (items_from r.skips text (at + k.size) ks) t) (sym stack) placed,
    )

-- so all pieces of the text are these
pub same_items : (l : Lexed) (ks : List Kept) (t : Stack) (xs : List Piece) → KeptUpTo l.rules l.text 0 start ks (length l.text) t → ArePiecesOf l xs
    → AreSame xs (items_from l.rules.skips l.text 0 ks)
same_items l ks t xs are pieces =
    let too = are_pieces l.rules l.text 0 start ks (length l.text) t are refl in
    (pieces-from-unique l.rules l.text 0 start xs (items_from l.rules.skips l.text 0 ks) pieces.0 t pieces.1 too).0

-- ---- equal pieces

pub same_back : (x y : Piece) → IsSame x y → IsSame y x
same_back (Token a) (Token b) e = (sym e.0, sym e.1, sym e.2)
same_back (Token a) (Skipped b) e = absurd e
same_back (Token a) (Fault at slice) e = absurd e
same_back (Skipped a) (Token b) e = absurd e
same_back (Skipped a) (Skipped b) e = (sym e.0, sym e.1, sym e.2)
same_back (Skipped a) (Fault at slice) e = absurd e
same_back (Fault at slice) (Token b) e = absurd e
same_back (Fault at slice) (Skipped b) e = absurd e
same_back (Fault at slice) (Fault at2 slice2) e = (sym e.0, sym e.1)

pub same_on : (x y z : Piece) → IsSame x y → IsSame y z → IsSame x z
same_on (Token a) (Token b) (Token c) e f = (e.0 ∙ f.0, e.1 ∙ f.1, e.2 ∙ f.2)
same_on (Token a) (Token b) (Skipped c) e f = absurd f
same_on (Token a) (Token b) (Fault at slice) e f = absurd f
same_on (Token a) (Skipped b) z e f = absurd e
same_on (Token a) (Fault at slice) z e f = absurd e
same_on (Skipped a) (Token b) z e f = absurd e
same_on (Skipped a) (Skipped b) (Token c) e f = absurd f
same_on (Skipped a) (Skipped b) (Skipped c) e f = (e.0 ∙ f.0, e.1 ∙ f.1, e.2 ∙ f.2)
same_on (Skipped a) (Skipped b) (Fault at slice) e f = absurd f
same_on (Skipped a) (Fault at slice) z e f = absurd e
same_on (Fault at slice) (Token b) z e f = absurd e
same_on (Fault at slice) (Skipped b) z e f = absurd e
same_on (Fault at slice) (Fault at2 slice2) (Token c) e f = absurd f
same_on (Fault at slice) (Fault at2 slice2) (Skipped c) e f = absurd f
same_on (Fault at slice) (Fault at2 slice2) (Fault at3 slice3) e f = (e.0 ∙ f.0, e.1 ∙ f.1)

pub same_length : (xs ys : List Piece) → AreSame xs ys → length xs ≡ length ys
same_length [] [] are = refl
same_length [] (y ∷ ys) are = absurd are
same_length (x ∷ xs) [] are = absurd are
same_length (x ∷ xs) (y ∷ ys) are = ap suc (same_length xs ys are.1)

pub items_length : (skips : List Bool) (text : List ℕ) (at : ℕ) (ks : List Kept) → length (items_from skips text at ks) ≡ length ks
items_length skips text at [] = refl
items_length skips text at (k ∷ ks) = ap suc (items_length skips text (at + k.size) ks)
