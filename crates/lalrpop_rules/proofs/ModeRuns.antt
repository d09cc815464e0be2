-- What the calls of `next_piece` give for a text that is cut by rules with modes.
use Rattle.std.proofs.Common.{◌≡◌, ℕ, zero, suc, ◌+◌, ◌<◌, ◌≤◌, map, refl, arith, get_or, Bool, List, [], ◌∷◌, length, sym, ap, subst, ◌∙◌, ◌++◌, append_assoc}
use Rattle.std.specs.Str.{IsUtf8, IsCharBoundary}
use Rattle.std.proofs.lemmas.Str.{IsUtf8-drop}
use Rattle.lalrpop_hir.specs.Tree.{Tree}
use Rattle.lalrpop_rules.specs.Pieces.{IsPiece, joined, slice_of}
use Rattle.lalrpop_rules.proofs.Fronts.{boundary_behind}
use Rattle.lalrpop_rules.proofs.PieceLaws.{is_front, is_split, is_some, rest_some, split_at}
use Rattle.lalrpop_rules.proofs.Finding.{paid_on}
use Rattle.std.specs.Prelude.{Option, Some, None}
use Rattle.lalrpop_rules.specs.Internal.CutToEnd.{steps_for}
use Rattle.std.specs.Iterator.{Yields}
use Rattle.lalrpop_rules.specs.declared.piece.Piece.{Piece}
use Rattle.bajofeki_rules.specs.declared.action.Action.{Action}
use Rattle.bajofeki_rules.specs.Stack.{Stack, start, act_all, actions_of}
use Rattle.lalrpop_rules.specs.Modes.{ModeRules, ArePiecesFrom, EachMode, trees_in, after}
use Rattle.bajofeki_rules.specs.EnteredModes.{OneLeadsInto}
use Rattle.lalrpop_rules.specs.Internal.Cutting.{Cutting, CutsPiece, Follows}
use Rattle.lalrpop_rules.specs.ModeCut.{ModeCut, uncut, left_text, GivesModePiece}
use Rattle.lalrpop_rules.proofs.ModeLaws.{act-keeps}

-- the pieces up to the end of the text
pub pieces-of-run : (s t : ModeCut) (xs : List Piece) → Yields GivesModePiece s xs t → left_text t ≡ []
    → ArePiecesFrom s.rules s.text s.at s.stack xs t.stack
pieces-of-run s t [] y end = (ap (λ (w : ModeCut). left_text w) y ∙ end, sym (ap (λ (w : ModeCut). w.stack) y))
pieces-of-run s t (x ∷ xs) (j, g, y) end =
    (g.0, subst (λ (w : ModeCut). ArePiecesFrom w.rules w.text w.at w.stack xs t.stack) g.1 (pieces-of-run j t xs y end))

pub pieces-from-first : (s : ModeCut) (r : ModeRules) (text : List ℕ) (most : ℕ) → s ≡ uncut r text most → (xs : List Piece) (t : ModeCut)
    → Yields GivesModePiece s xs t → left_text t ≡ [] → ArePiecesFrom r text 0 start xs t.stack
pieces-from-first s r text most e xs t y end =
    subst (λ (w : ModeCut). ArePiecesFrom w.rules w.text w.at w.stack xs t.stack) e (pieces-of-run s t xs y end)

-- after the first `None` every call gives `None`
pub none_for_good : (s t u : ModeCut) (x : Option Piece) → GivesModePiece s None t → GivesModePiece t x u → x ≡ None
none_for_good s t u None end g = refl
none_for_good s t u (Some x) (same, end) g =
    let front = is_split (trees_in t.rules t.stack.mode) t.rules.precedences t.rules.skips t.text t.at x g.0 in
    let some = is_some (trees_in t.rules t.stack.mode) t.rules.precedences t.rules.skips t.text t.at x g.0 in
    absurd (rest_some (slice_of x) (left_text t) front some (ap (λ (w : ModeCut). left_text w) same ∙ end))

-- a piece is cut in the mode on top, and the text is cut in the new one from then on
pub piece-given : (old between new : Cutting) (s t : Stack) (x : Piece) (mode : ℕ) (over : Bool) → old.mode ≡ s.mode → CutsPiece old x between → Follows between mode new
    → t ≡ after old.rules.actions x s
    → GivesModePiece (record { rules = old.rules; text = old.text; at = old.at; stack = s; steps = old.steps; steps_left = steps_for old.memo; is_over = over }) (Some x)
    (record { rules = new.rules; text = new.text; at = new.at; stack = t; steps = new.steps; steps_left = steps_for new.memo; is_over = over })
piece-given old between new s t x mode over on_top cuts follows acted =
    let passed : new ≡ record old { at = old.at + length (slice_of x); mode = mode; memo = new.memo; steps = new.steps } =
    follows.enters ∙ ap (λ (c : Cutting). record c { mode = mode; memo = new.memo; steps = new.steps }) cuts.goes_on in
    let there : ModeCut = record { rules = old.rules; text = old.text; at = old.at + length (slice_of x); stack = t; steps = new.steps; steps_left = steps_for new.memo; is_over = over } in (
      subst (λ (m : ℕ). IsPiece (trees_in old.rules m) old.rules.precedences old.rules.skips old.text old.at x) on_top cuts.piece,
      ap (λ (c : Cutting). record there { rules = c.rules; text = c.text; at = c.at }) passed ∙ ap (λ (u : Stack). record there { stack = u }) acted,
      paid_on old.steps between.steps new.steps old.memo between.memo new.memo cuts.paid follows.paid,
    )

-- ---- the pieces and the rest are the text

step_splits : (s j : ModeCut) (x : Piece) → GivesModePiece s (Some x) j → left_text s ≡ slice_of x ++ left_text j
step_splits s j x g =
    split_at s.text s.at (slice_of x) (is_split (trees_in s.rules s.stack.mode) s.rules.precedences s.rules.skips s.text s.at x g.0)
    ∙ ap (λ (w : ModeCut). slice_of x ++ left_text w) (sym g.1)

parts-of-run : (s t : ModeCut) (xs : List Piece) → Yields GivesModePiece s xs t → left_text s ≡ joined xs ++ left_text t
parts-of-run s t [] y = ap (λ (w : ModeCut). left_text w) y
parts-of-run s t (x ∷ xs) (j, g, y) =
    step_splits s j x g ∙ ap (λ (r : List ℕ). slice_of x ++ r) (parts-of-run j t xs y) ∙ sym (append_assoc (slice_of x) (joined xs) (left_text t))

pub parts-from-first : (s : ModeCut) (r : ModeRules) (text : List ℕ) (most : ℕ) → s ≡ uncut r text most → (xs : List Piece) (t : ModeCut)
    → Yields GivesModePiece s xs t → text ≡ joined xs ++ left_text t
parts-from-first s r text most e xs t y = sym (ap (λ (w : ModeCut). left_text w) e) ∙ parts-of-run s t xs y

-- ---- actions

-- actions that lead only into modes that are there keep to them
pub act-within : (n : ℕ) (acts : List Action) (s t : Stack) → t ≡ act_all acts s → ((m : ℕ) → OneLeadsInto acts m → m < n) → EachMode (λ m. m < n) s
    → EachMode (λ m. m < n) t
act-within n acts s t is lead there = subst (λ (u : Stack). EachMode (λ m. m < n) u) (sym is) (act-keeps (λ m. m < n) acts s lead there)

-- the text may be cut after a piece
pub cut-behind : (ts : List Tree) (ps : List ℕ) (skips : List Bool) (text : List ℕ) (at : ℕ) (x : Piece) → IsUtf8 text → IsCharBoundary text at
    → IsPiece ts ps skips text at x → IsCharBoundary text (at + length (slice_of x))
cut-behind ts ps skips text at x u here is = boundary_behind text at (slice_of x) here (IsUtf8-drop text at u here) (is_front ts ps skips text at x (IsUtf8-drop text at u here) is)

-- a rule that isn't there has no actions
pub no_actions : {K : Type 0} (f : K → List Action) (ks : List K) (i : ℕ) → length ks ≤ i → [] ≡ actions_of (map f ks) i
no_actions f [] i beyond = refl
no_actions f (k ∷ ks) zero beyond = absurd (none beyond)
  where
    none : {n : ℕ} → suc n ≤ 0 → ⊥
    none h = omega (arith, h)
no_actions f (k ∷ ks) (suc i) beyond = no_actions f ks i (omega (arith, beyond))

pub some_actions : {K : Type 0} (f : K → List Action) (ks : List K) (i : ℕ) (d : K) → i < length ks → f (get_or ks i d) ≡ actions_of (map f ks) i
some_actions f [] i d within = absurd (none within)
  where
    none : i < 0 → ⊥
    none h = omega (arith, h)
some_actions f (k ∷ ks) zero d within = refl
some_actions f (k ∷ ks) (suc i) d within = some_actions f ks i d (omega (arith, within))
