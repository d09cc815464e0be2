-- What the trees of a mode match, and which modes a cut enters.
use Rattle.std.proofs.Common.{◌≡◌, ℕ, zero, suc, ◌+◌, ◌<◌, ◌⊎◌, Bool, true, false, inl, inr, List, [], ◌∷◌, length, refl, sym, ap, subst}
use Rattle.std.specs.Prelude.{Some, None, slice_get, map, ◌==◌, Contains}
use Rattle.std.specs.List.{list_any, slice_index_or}
use Rattle.std.proofs.lemmas.Option.{same_Some}
use Rattle.lalrpop_hir.specs.Tree.{Tree}
use Rattle.lalrpop_hir.specs.Winners.{TreeMatches}
use Rattle.lalrpop_rules.proofs.KindLaws.{of_merged, into_merged}
use Rattle.lalrpop_rules.specs.Pieces.{IsPiece, AreApart, slice_of}
use Rattle.lalrpop_rules.specs.declared.piece.Piece.{Piece}
use Rattle.lalrpop_rules.specs.declared.piece.Piece.TheVariants.{Token, Skipped, Fault}
use Rattle.lalrpop_rules.proofs.PieceLaws.{two_faults}
use Rattle.bajofeki_rules.specs.declared.action.Action.{Action}
use Rattle.bajofeki_rules.specs.declared.action.Action.TheVariants.{Mode, Push, Pop}
use Rattle.bajofeki_rules.specs.Stack.{Stack, act, act_all, actions_of, popped}
use Rattle.lalrpop_rules.specs.Modes.{ModeRules, kinds_of, trees_of, trees_in, after, ArePiecesFrom, mode_rules, AllOf, EachMode, AllCanBeEntered, NoModeClash, IsModeClash}
use Rattle.bajofeki_rules.specs.EnteredModes.{Belongs, OneLeadsInto, CanBeEntered, by_rule}
use Rattle.lalrpop_hir.specs.Clash.{NoClash, IsClash}
use Rattle.std.proofs.lemmas.Bool.{cases_order, eqb-true}
use Rattle.std.proofs.lemmas.List.Folds.{Any-from_list_any}

-- ---- the trees of a mode

-- a rule with a kind in a mode belongs to the mode
kind_of_mode : (bs : List Bool) (ks : List ℕ) (i k : ℕ) → slice_get (kinds_of bs ks) i ≡ Some (Some k) → slice_get bs i ≡ Some true
kind_of_mode [] ks i k at = absurd (cc)
kind_of_mode (b ∷ bs) [] i k at = absurd (cc)
kind_of_mode (true ∷ bs) (n ∷ ks) zero k at = refl
kind_of_mode (false ∷ bs) (n ∷ ks) zero k at = let no : None ≡ Some k = same_Some _ _ at in absurd (cc)
kind_of_mode (b ∷ bs) (n ∷ ks) (suc i) k at = kind_of_mode bs ks i k at

-- a tree of a mode that matches a word is that of one of its rules
pub of-mode : (bs : List Bool) (ks : List ℕ) (ts : List Tree) (w : List ℕ) (i : ℕ) → TreeMatches (trees_of bs ks ts) w i → slice_get bs i ≡ Some true
of-mode bs ks ts w i matches = let of = of_merged (kinds_of bs ks) ts w i matches in kind_of_mode bs ks i of.0 of.1.0

kind_there : (bs : List Bool) (ks : List ℕ) (i k : ℕ) → slice_get bs i ≡ Some true → slice_get ks i ≡ Some k → slice_get (kinds_of bs ks) i ≡ Some (Some k)
kind_there [] ks i k belongs at = absurd (cc)
kind_there (b ∷ bs) [] i k belongs at = absurd (cc)
kind_there (true ∷ bs) (n ∷ ks) zero k belongs at = ap Some at
kind_there (false ∷ bs) (n ∷ ks) zero k belongs at = let no : false ≡ true = same_Some _ _ belongs in absurd (cc)
kind_there (b ∷ bs) (n ∷ ks) (suc i) k belongs at = kind_there bs ks i k belongs at

-- and what a rule of the mode matches, the first rule of its kind in the mode does
pub into-mode : (bs : List Bool) (ks : List ℕ) (ts : List Tree) (w : List ℕ) (j k : ℕ) → slice_get bs j ≡ Some true → slice_get ks j ≡ Some k → TreeMatches ts w j
    → (i : ℕ) × ((slice_get (kinds_of bs ks) i ≡ Some (Some k)) × TreeMatches (trees_of bs ks ts) w i)
into-mode bs ks ts w j k belongs at matches = into_merged (kinds_of bs ks) ts w j k (kind_there bs ks j k belongs at) matches

-- ---- the modes that are entered

contains : (m : ℕ) (own : List ℕ) → list_any (λ n. n == m) own ≡ true → Contains own m
contains m own marked =
    let (k, x, within, at, same) = Any-from_list_any (λ n. n == m) own marked in (k, within, subst (λ (y : ℕ). slice_index_or own k y ≡ y) (eqb-true x m same) at)

belongs_where_marked : (members : List (List ℕ)) (m i : ℕ) → slice_get (map (λ modes. list_any (λ n. n == m) modes) members) i ≡ Some true → Belongs members m i
belongs_where_marked [] m i at = absurd (cc)
belongs_where_marked (own ∷ members) m zero at = (own, (refl, contains m own (same_Some _ _ at)))
belongs_where_marked (own ∷ members) m (suc i) at = belongs_where_marked members m i at

-- the rule of a token belongs to the mode that it is found in
pub token-belongs : (r : ModeRules) (m : ℕ) (w : List ℕ) (i : ℕ) → TreeMatches (trees_in r m) w i → Belongs r.members m i
token-belongs r m w i matches = belongs_where_marked r.members m i (of-mode (mode_rules r m) r.kinds r.trees w i matches)

less_modes : (P : ℕ → Type 0) (mode : ℕ) (below : List ℕ) → P mode → AllOf P below → EachMode P (popped mode below)
less_modes P mode [] here all = (here, tt)
less_modes P mode (next ∷ below) here all = (all.0, all.1)

-- what holds of each mode of a stack, and of each into which the actions lead, holds of each mode of the new stack
pub act-keeps : (P : ℕ → Type 0) (acts : List Action) (s : Stack) → ((m : ℕ) → OneLeadsInto acts m → P m) → EachMode P s → EachMode P (act_all acts s)
act-keeps P [] s lead all = all
act-keeps P (Mode m ∷ acts) s lead all = act-keeps P acts (act (Mode m) s) (λ n l. lead n (inr l)) (lead m (inl refl), all.1)
act-keeps P (Push m ∷ acts) s lead all = act-keeps P acts (act (Push m) s) (λ n l. lead n (inr l)) (lead m (inl refl), all)
act-keeps P (Pop ∷ acts) s lead all = act-keeps P acts (act Pop s) (λ n l. lead n (inr l)) (less_modes P s.mode s.below all.0 all.1)

-- the modes of each rule are there
module _ (r : ModeRules) (there : (m i : ℕ) → Belongs r.members m i → m < r.modes) where
  token_entered : (s : Stack) (w : List ℕ) (i : ℕ) → TreeMatches (trees_in r s.mode) w i → AllCanBeEntered r s → AllCanBeEntered r (act_all (actions_of r.actions i) s)
  token_entered s w i matches all =
      let belongs = token-belongs r s.mode w i matches in
      act-keeps (CanBeEntered r.members r.actions r.modes) (actions_of r.actions i) s (λ m leads. by_rule i (there s.mode i belongs) all.0 belongs leads) all

  after_entered : (text : List ℕ) (at : ℕ) (s : Stack) (x : Piece) → IsPiece (trees_in r s.mode) r.precedences r.skips text at x
      → AllCanBeEntered r s → AllCanBeEntered r (after r.actions x s)
  after_entered text at s (Token token) is all = token_entered s _ token.index is.0.2.0.0 all
  after_entered text at s (Skipped token) is all = token_entered s _ token.index is.0.2.0.0 all
  after_entered text at s (Fault at_start slice) is all = all

  -- from modes that can be entered on, only such modes are entered
  pub only-entered : (text : List ℕ) (at : ℕ) (s : Stack) (xs : List Piece) (t : Stack) → ArePiecesFrom r text at s xs t → AllCanBeEntered r s → AllCanBeEntered r t
  only-entered text at s [] t are all = subst (λ (v : Stack). AllCanBeEntered r v) (sym are.1) all
  only-entered text at s (x ∷ xs) t are all =
      only-entered text (at + length (slice_of x)) (after r.actions x s) xs t are.1 (after_entered text at s x are.0 all)

-- ---- no two faults in turn

pub apart-from : (r : ModeRules) (text : List ℕ) (at : ℕ) (s : Stack) (xs : List Piece) (t : Stack) → ArePiecesFrom r text at s xs t → AreApart xs
apart-from r text at s [] t are = tt
apart-from r text at s (Token token ∷ xs) t are =
    apart-from r text (at + length token.slice.now) (after r.actions (Token token) s) xs t are.1
apart-from r text at s (Skipped token ∷ xs) t are =
    apart-from r text (at + length token.slice.now) (after r.actions (Skipped token) s) xs t are.1
apart-from r text at s (Fault at_start slice ∷ []) t are = tt
apart-from r text at s (Fault at_start slice ∷ Token token ∷ xs) t are = apart-from r text (at + length slice.now) s (Token token ∷ xs) t are.1
apart-from r text at s (Fault at_start slice ∷ Skipped token ∷ xs) t are = apart-from r text (at + length slice.now) s (Skipped token ∷ xs) t are.1
apart-from r text at s (Fault at_start slice ∷ Fault start2 slice2 ∷ xs) t are =
    absurd (two_faults (trees_in r s.mode) text at slice.now slice2.now are.0.1 are.1.0.1)

-- ---- which mode a clash is of

-- the first mode with a clash is unique
pub same-mode : (r : ModeRules) (m k : ℕ) (w v : List ℕ) (i j i2 j2 : ℕ) → IsModeClash r m w i j → IsModeClash r k v i2 j2 → m ≡ k
same-mode r m k w v i j i2 j2 one other = by_order (cases_order m k)
  where
    clashes : (n : ℕ) (u : List ℕ) (a b : ℕ) → IsClash (trees_in r n) r.precedences u a b → ¬ NoClash (trees_in r n) r.precedences
    clashes n u a b c free = free u (a, b, (c.less, c.greatest, c.second))

    by_order : (m ≡ k) ⊎ ((m < k) ⊎ (k < m)) → m ≡ k
    by_order (inl same) = same
    by_order (inr (inl less)) = absurd (clashes m w i j one.clash (other.first m less))
    by_order (inr (inr more)) = absurd (clashes k v i2 j2 other.clash (one.first k more))

-- and where a mode clashes, not every mode is free of clashes
pub not-both : (r : ModeRules) (m : ℕ) (w : List ℕ) (i j : ℕ) → IsModeClash r m w i j → ¬ NoModeClash r
not-both r m w i j one free = free m one.there w (i, j, (one.clash.less, one.clash.greatest, one.clash.second))
