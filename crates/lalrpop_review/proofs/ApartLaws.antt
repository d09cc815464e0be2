-- Two lexers make different tokens of a word just where their automata answer it by different labels.
use Rattle.std.proofs.Common.{◌≡◌, ◌≢◌, ℕ, zero, suc, ◌+◌, ◌<◌, List, [], ◌∷◌, ◌++◌, length, take, drop, refl, sym, ap, subst, ◌∙◌, arith, length-append}
use Rattle.std.specs.Prelude.{Option, Some, None, Result, IfOk, IfSome, IfNone, slice_get}
use Rattle.std.specs.Option.{IsSomeAnd}
use Rattle.std.proofs.lemmas.Option.{IfSome_then}
use Rattle.std.proofs.lemmas.Result.{IfOk-weaker}
use Rattle.lalrpop_hir.specs.Tree.{Tree}
use Rattle.lalrpop_dfa.specs.Dfa.{Row, after, IsRightKind, RecognizesAll}
use Rattle.lalrpop_dfa.specs.Witness.{IsLeast}
use Rattle.lalrpop_dfa.specs.declared.Kind.{Kind}
use Rattle.lalrpop_dfa.specs.declared.Kind.TheVariants.{Accepts, Reject, Neither}
use Rattle.lalrpop_lexer.specs.Rules.{IsBuiltFrom}
use Rattle.lalrpop_rules.specs.Modes.{ModeRules, kinds_of, mode_rules, trees_in}
use Rattle.lalrpop_rules.specs.Kinds.{merged_behind}
use Rattle.lalrpop_verdicts.specs.Answers.{accepted_by, accepted_at, answer}
use Rattle.lalrpop_verdicts.specs.Differences.{Answers, label_of, TellsApart as LabelsDiffer}
use Rattle.lalrpop_review.specs.Apart.{Told, told, IsTokenIn, TellsApart}
use Rattle.lalrpop_review.specs.Internal.Meanings.{AreTold, AreFirsts}
use Rattle.lalrpop_review.proofs.MeaningLaws.{element_in_front, element_behind, element_taken, element_dropped, place_at, told_by_places, places_by_told}

-- ---- the token that the automaton of a mode answers

-- the automaton of the mode was built for these trees
pub mode_automaton : (r : ModeRules) (m : ℕ) (ts : List Tree) (ps : List ℕ) (d e : List Row) → ts ≡ trees_in r m → ps ≡ r.precedences → IsBuiltFrom ts ps d → e ≡ d
    → RecognizesAll e (trees_in r m) r.precedences
mode_automaton r m ts ps d e trees precedences built same =
    subst (λ (x : List Row). RecognizesAll x (trees_in r m) r.precedences) (sym same)
    (subst (λ (us : List Tree). RecognizesAll d us r.precedences) trees (subst (λ (qs : List ℕ). RecognizesAll d ts qs) precedences built.stands))

token_of_kind : (r : ModeRules) (m : ℕ) (w : List ℕ) (k : Kind) → IsRightKind (trees_in r m) r.precedences w k → IsTokenIn r m w (accepted_by k)
token_of_kind r m w (Accepts i) right = right
token_of_kind r m w Reject right = right
token_of_kind r m w Neither right = right

token_of_row : (r : ModeRules) (m : ℕ) (w : List ℕ) (o : Option Row) → IsSomeAnd o (λ x. IsRightKind (trees_in r m) r.precedences w x.kind) → IsTokenIn r m w (accepted_at o)
token_of_row r m w None right = absurd right
token_of_row r m w (Some x) right = token_of_kind r m w x.kind right

answered_token : (r : ModeRules) (m : ℕ) (d : List Row) → RecognizesAll d (trees_in r m) r.precedences → (w : List ℕ) → IsTokenIn r m w (answer d w)
answered_token r m d recognizes w = token_of_row r m w (slice_get d (after d w)) (recognizes.kinds w)

-- there is one such token
one_token : (r : ModeRules) (m : ℕ) (w : List ℕ) (i j : Option ℕ) → IsTokenIn r m w i → IsTokenIn r m w j → i ≡ j
one_token r m w None None none other = refl
one_token r m w None (Some j) none one = absurd (none (j, one.0.0))
one_token r m w (Some i) None one none = absurd (none (i, one.0.0))
one_token r m w (Some i) (Some j) one other = ap (λ (k : ℕ). Some k) (other.1 i one.0)

-- ---- its rule is one of the rules

-- a rule has this index, or there is none
abbrev IsRule : ModeRules → Option ℕ → Type 0
IsRule r None = Unit {0}
IsRule r (Some i) = i < length r.trees

merged_within : (before os : List (Option ℕ)) (ts : List Tree) (i : ℕ) (t : Tree) → slice_get (merged_behind before os ts) i ≡ Some t → i < length ts
merged_within before [] ts i t at = absurd (cc)
merged_within before (o ∷ os) [] i t at = absurd (cc)
merged_within before (o ∷ os) (u ∷ ts) zero t at = omega arith
merged_within before (o ∷ os) (u ∷ ts) (suc i) t at = let within = merged_within (before ++ o ∷ []) os ts i t at in omega (arith, within)

token_is_rule : (r : ModeRules) (m : ℕ) (w : List ℕ) (i : Option ℕ) → IsTokenIn r m w i → IsRule r i
token_is_rule r m w None none = tt
token_is_rule r m w (Some i) one = let (t, found) = one.0.0 in merged_within [] (kinds_of (mode_rules r m) r.kinds) r.trees i t found.0

-- ---- labels: the places of the first rules that say the same

module _ (r s : ModeRules) (ts us : List Told) (places : List ℕ) (by_left : AreTold r ts) (by_right : AreTold s us) (firsts : AreFirsts (ts ++ us) places) where
  abbrev left_labels : List ℕ
  left_labels = take (length r.trees) places

  abbrev right_labels : List ℕ
  right_labels = drop (length r.trees) places

  long : length (ts ++ us) ≡ length r.trees + length s.trees
  long = omega (arith, length-append ts us, by_left.one_each, by_right.one_each)

  left_told : (i : ℕ) → i < length r.trees → slice_get (ts ++ us) i ≡ told r (Some i)
  left_told i within = element_in_front ts us i (omega (arith, within, by_left.one_each)) ∙ by_left.each i within

  right_told : (j : ℕ) → j < length s.trees → slice_get (ts ++ us) (length r.trees + j) ≡ told s (Some j)
  right_told j within = ap (λ k. slice_get (ts ++ us) (k + j)) (sym by_left.one_each) ∙ element_behind ts us j ∙ by_right.each j within

  left_in_all : (i : ℕ) → i < length r.trees → i < length (ts ++ us)
  left_in_all i within = omega (arith, within, long)

  right_in_all : (j : ℕ) → j < length s.trees → length r.trees + j < length (ts ++ us)
  right_in_all j within = omega (arith, within, long)

  left_label : (i : ℕ) → i < length r.trees → slice_get left_labels i ≡ slice_get places i
  left_label i within = element_taken (length r.trees) places i within

  right_label : (j : ℕ) → slice_get right_labels j ≡ slice_get places (length r.trees + j)
  right_label j = element_dropped (length r.trees) places j

  -- each rule has a label
  left_has_label : (i : ℕ) → i < length r.trees → slice_get left_labels i ≢ None
  left_has_label i within none =
      let (k, at) = place_at (ts ++ us) places firsts i (left_in_all i within) in
      let e : None ≡ Some k = sym none ∙ left_label i within ∙ at in cc

  right_has_label : (j : ℕ) → j < length s.trees → slice_get right_labels j ≢ None
  right_has_label j within none =
      let (k, at) = place_at (ts ++ us) places firsts (length r.trees + j) (right_in_all j within) in
      let e : None ≡ Some k = sym none ∙ right_label j ∙ at in cc

  told_by_labels : (i j : Option ℕ) → IsRule r i → IsRule s j → label_of left_labels i ≡ label_of right_labels j → told r i ≡ told s j
  told_by_labels None None in_r in_s e = refl
  told_by_labels None (Some j) in_r in_s e = absurd (right_has_label j in_s (sym e))
  told_by_labels (Some i) None in_r in_s e = absurd (left_has_label i in_r e)
  told_by_labels (Some i) (Some j) in_r in_s e =
      sym (left_told i in_r)
      ∙ told_by_places (ts ++ us) places firsts i (length r.trees + j) (left_in_all i in_r) (right_in_all j in_s) (sym (left_label i in_r) ∙ e ∙ right_label j)
      ∙ right_told j in_s

  labels_by_told : (i j : Option ℕ) → IsRule r i → IsRule s j → told r i ≡ told s j → label_of left_labels i ≡ label_of right_labels j
  labels_by_told None None in_r in_s e = refl
  labels_by_told None (Some j) in_r in_s e = absurd (cc)
  labels_by_told (Some i) None in_r in_s e = absurd (cc)
  labels_by_told (Some i) (Some j) in_r in_s e =
      left_label i in_r
      ∙ places_by_told (ts ++ us) places firsts i (length r.trees + j) (left_in_all i in_r) (right_in_all j in_s) (left_told i in_r ∙ e ∙ sym (right_told j in_s))
      ∙ sym (right_label j)

  -- ---- the words that tell the lexers apart
  module _ (m : ℕ) (d e : List Row) (left : RecognizesAll d (trees_in r m) r.precedences) (right : RecognizesAll e (trees_in s m) s.precedences)
      (ls ms : List ℕ) (are_left : ls ≡ left_labels) (are_right : ms ≡ right_labels) where
    abbrev Differ : List ℕ → Type 0
    Differ w = LabelsDiffer d ls e ms w

    -- labels of rules, as the two lists have them
    into_labels : (i j : Option ℕ) → label_of ls i ≡ label_of ms j → label_of left_labels i ≡ label_of right_labels j
    into_labels i j same = ap (λ (x : List ℕ). label_of x i) (sym are_left) ∙ same ∙ ap (λ (x : List ℕ). label_of x j) are_right

    from_labels : (i j : Option ℕ) → label_of left_labels i ≡ label_of right_labels j → label_of ls i ≡ label_of ms j
    from_labels i j same = ap (λ (x : List ℕ). label_of x i) are_left ∙ same ∙ ap (λ (x : List ℕ). label_of x j) (sym are_right)

    left_rule : (w : List ℕ) → IsRule r (answer d w)
    left_rule w = token_is_rule r m w (answer d w) (answered_token r m d left w)

    right_rule : (w : List ℕ) → IsRule s (answer e w)
    right_rule w = token_is_rule s m w (answer e w) (answered_token s m e right w)

    apart_by_labels : (w : List ℕ) → Differ w → TellsApart r s m w
    apart_by_labels w differ = (
      differ.0,
      differ.1,
      (
        answer d w,
        (
          answer e w,
          (
            answered_token r m d left w,
            (
              answered_token s m e right w,
              λ same. differ.2 (from_labels (answer d w) (answer e w) (labels_by_told (answer d w) (answer e w) (left_rule w) (right_rule w) same)),
            ),
          ),
        ),
      ),
    )

    labels_by_apart : (w : List ℕ) → TellsApart r s m w → Differ w
    labels_by_apart w (text, some, (i, (j, (by_i, (by_j, apart))))) = (
      text,
      some,
      λ same. apart
          (ap (told r) (one_token r m w i (answer d w) by_i (answered_token r m d left w))
          ∙ told_by_labels (answer d w) (answer e w) (left_rule w) (right_rule w) (into_labels (answer d w) (answer e w) same)
          ∙ ap (told s) (one_token s m w (answer e w) j (answered_token s m e right w) by_j)),
    )

    -- the least word by labels is the least one
    least_by_labels : (w : List ℕ) → IsLeast Differ w → IsLeast (TellsApart r s m) w
    least_by_labels w least = record {
      holds = apart_by_labels w least.holds;
      least = λ u less apart. least.least u less (labels_by_apart u apart);
    }

    pub least_told : {E : Type 0} (result : Result (Option Answers) E) → IfOk result (λ found. IfSome found (λ f. IsLeast Differ f.word))
        → IfOk result (λ found. IfSome found (λ f. IsLeast (TellsApart r s m) f.word))
    least_told result = IfOk-weaker result _ _ (λ found least. IfSome_then found least (λ f. least_by_labels f.word))

    pub left_told_by : {E : Type 0} (result : Result (Option Answers) E) → IfOk result (λ found. IfSome found (λ f. (f.left ≡ answer d f.word) × (f.right ≡ answer e f.word)))
        → IfOk result (λ found. IfSome found (λ f. IsTokenIn r m f.word f.left))
    left_told_by result = IfOk-weaker result _ _ (λ found both. IfSome_then found both (λ f is. subst (IsTokenIn r m f.word) (sym is.0) (answered_token r m d left f.word)))

    pub right_told_by : {E : Type 0} (result : Result (Option Answers) E) → IfOk result (λ found. IfSome found (λ f. (f.left ≡ answer d f.word) × (f.right ≡ answer e f.word)))
        → IfOk result (λ found. IfSome found (λ f. IsTokenIn s m f.word f.right))
    right_told_by result = IfOk-weaker result _ _ (λ found both. IfSome_then found both (λ f is. subst (IsTokenIn s m f.word) (sym is.1) (answered_token s m e right f.word)))

    none_then : (found : Option Answers) → IfNone found ((w : List ℕ) → ¬ Differ w) → IfNone found ((w : List ℕ) → ¬ TellsApart r s m w)
    none_then None none = λ w apart. none w (labels_by_apart w apart)
    none_then (Some f) none = tt

    pub none_told : {E : Type 0} (result : Result (Option Answers) E) → IfOk result (λ found. IfNone found ((w : List ℕ) → ¬ Differ w))
        → IfOk result (λ found. IfNone found ((w : List ℕ) → ¬ TellsApart r s m w))
    none_told result = IfOk-weaker result _ _ none_then
