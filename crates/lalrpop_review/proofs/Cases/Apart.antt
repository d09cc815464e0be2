-- Cases of specs/Apart.antt: one rule that matches `a`, and says this or that.
use Rattle.std.proofs.Common.{◌≡◌, ◌≢◌, ℕ, zero, suc, ◌≤◌, Bool, true, false, List, [], ◌∷◌, get_or, refl, sym, ap, subst, arith}
use Rattle.std.specs.Prelude.{Option, Some, None, slice_index}
use Rattle.std.proofs.lemmas.Option.{same_Some}
use Rattle.lalrpop_hir.specs.Tree.{Tree, literal}
use Rattle.lalrpop_hir.specs.Language.{Matches}
use Rattle.lalrpop_hir.specs.Winners.{TreeMatches}
use Rattle.lalrpop_rules.specs.Modes.{ModeRules, trees_in}
use Rattle.bajofeki_rules.specs.declared.action.Action.{Action}
use Rattle.bajofeki_rules.specs.declared.action.Action.TheVariants.{Push, Pop}
use Rattle.lalrpop_verdicts.specs.Answers.{IsTextWord}
use Rattle.lalrpop_review.specs.Apart.{Told, told, IsTokenIn, TellsApart}

abbrev a : Tree
a = literal (97 ∷ [])

-- the rule, with this name; it belongs to the mode 0
abbrev one : List ℕ → Bool → List Action → ModeRules
one name skipped acts = record {
  names = name ∷ [];
  trees = a ∷ [];
  precedences = 0 ∷ [];
  skips = skipped ∷ [];
  actions = acts ∷ [];
  members = (0 ∷ []) ∷ [];
  kinds = 0 ∷ [];
  modes = 1;
  mode_names = [];
  automata = [];
}

-- ---- what a token is

told_of_the_rule : (name : List ℕ) → told (one name true (Pop ∷ [])) (Some 0) ≡ Some (record { name = name; skipped = true; actions = Pop ∷ [] })
told_of_the_rule name = refl

-- a rule that isn't there has no name, isn't skipped and does nothing
told_of_no_rule : (name : List ℕ) → told (one name true (Pop ∷ [])) (Some 1) ≡ Some (record { name = []; skipped = false; actions = [] })
told_of_no_rule name = refl

no_token_tells_nothing : (r : ModeRules) → told r None ≡ None
no_token_tells_nothing r = refl

-- ---- tokens

module _ (name : List ℕ) (skipped : Bool) (acts : List Action) where
  trees_of_one : trees_in (one name skipped acts) 0 ≡ a ∷ []
  trees_of_one = refl

  first_matches : TreeMatches (a ∷ []) (97 ∷ []) 0
  first_matches = (a, (refl, refl))

  only_first : (j : ℕ) → TreeMatches (a ∷ []) (97 ∷ []) j → j ≡ 0
  only_first zero m = refl
  only_first (suc j) (t, (at, m)) = absurd (cc)

  least : (j : ℕ) → TreeMatches (a ∷ []) (97 ∷ []) j → slice_index (0 ∷ []) j ≤ 0
  least zero m = omega arith
  least (suc j) (t, (at, m)) = absurd (cc)

  pub a_is_its_token : IsTokenIn (one name skipped acts) 0 (97 ∷ []) (Some 0)
  a_is_its_token = ((first_matches, least), λ j strongest. only_first j strongest.0)

  a_is_a_token : ¬ IsTokenIn (one name skipped acts) 0 (97 ∷ []) None
  a_is_a_token none = none (0, first_matches)

  -- `b` is no token
  unlike : (t : Tree) → Some a ≡ Some t → Matches t (98 ∷ []) → ⊥
  unlike t at m =
      let same : a ≡ t = cc in
      let is : Matches a (98 ∷ []) = subst (λ (u : Tree). Matches u (98 ∷ [])) (sym same) m in
      let first : 98 ≡ 97 = ap (λ (v : List ℕ). get_or v 0 0) is in
      omega (arith, first)

  b_matches_nothing : (i : ℕ) → TreeMatches (a ∷ []) (98 ∷ []) i → ⊥
  b_matches_nothing zero (t, (at, m)) = unlike t at m
  b_matches_nothing (suc i) (t, (at, m)) = absurd (cc)

  b_is_no_token : IsTokenIn (one name skipped acts) 0 (98 ∷ []) None
  b_is_no_token (i, m) = b_matches_nothing i m

-- ---- words that tell apart

a_is_a_text : IsTextWord (97 ∷ [])
a_is_a_text zero d l = refl
a_is_a_text (suc k) d l = absurd (omega arith)

surrogate_is_no_text : ¬ IsTextWord (0xD800 ∷ [])
surrogate_is_no_text text = let e = text 0 0 (omega arith) in absurd (cc)

module _ (name other : List ℕ) (skipped skips : Bool) (acts others : List Action) where
  abbrev left : ModeRules
  left = one name skipped acts

  abbrev right : ModeRules
  right = one other skips others

  apart_by_a : told left (Some 0) ≢ told right (Some 0) → TellsApart left right 0 (97 ∷ [])
  apart_by_a differ = (a_is_a_text, λ e. cc, (Some 0, (Some 0, (a_is_its_token name skipped acts, (a_is_its_token other skips others, differ)))))

-- another name, one that is skipped, other actions
another_name : TellsApart (one (65 ∷ []) false []) (one (66 ∷ []) false []) 0 (97 ∷ [])
another_name = apart_by_a (65 ∷ []) (66 ∷ []) false false [] [] differ
  where
    differ : told (one (65 ∷ []) false []) (Some 0) ≢ told (one (66 ∷ []) false []) (Some 0)
    differ e = let first : 65 ≡ 66 = ap (λ (t : Told). get_or t.name 0 0) (same_Some _ _ e) in omega (arith, first)

one_is_skipped : TellsApart (one (65 ∷ []) false []) (one (65 ∷ []) true []) 0 (97 ∷ [])
one_is_skipped = apart_by_a (65 ∷ []) (65 ∷ []) false true [] [] differ
  where
    differ : told (one (65 ∷ []) false []) (Some 0) ≢ told (one (65 ∷ []) true []) (Some 0)
    differ e = let same : false ≡ true = ap (λ (t : Told). t.skipped) (same_Some _ _ e) in cc

other_actions : TellsApart (one (65 ∷ []) false (Push 0 ∷ [])) (one (65 ∷ []) false (Pop ∷ [])) 0 (97 ∷ [])
other_actions = apart_by_a (65 ∷ []) (65 ∷ []) false false (Push 0 ∷ []) (Pop ∷ []) differ
  where
    differ : told (one (65 ∷ []) false (Push 0 ∷ [])) (Some 0) ≢ told (one (65 ∷ []) false (Pop ∷ [])) (Some 0)
    differ e = let same : Push 0 ∷ [] ≡ Pop ∷ [] = ap (λ (t : Told). t.actions) (same_Some _ _ e) in cc

-- no empty text, and no value that isn't a character
empty_word_tells_nothing : (r s : ModeRules) (m : ℕ) → ¬ TellsApart r s m []
empty_word_tells_nothing r s m tells = tells.1 refl

word_of_no_text_tells_nothing : (r s : ModeRules) (m : ℕ) → ¬ TellsApart r s m (0xD800 ∷ [])
word_of_no_text_tells_nothing r s m tells = surrogate_is_no_text tells.0

-- the same rule tells nothing apart from itself: `a` is the same token by both
same_rule_tells_nothing : (name : List ℕ) → ¬ TellsApart (one name false []) (one name false []) 0 (97 ∷ [])
same_rule_tells_nothing name (text, some, (i, (j, (by_i, (by_j, differ))))) = by_tokens i j by_i by_j differ
  where
    by_tokens : (i j : Option ℕ) → IsTokenIn (one name false []) 0 (97 ∷ []) i → IsTokenIn (one name false []) 0 (97 ∷ []) j
        → told (one name false []) i ≢ told (one name false []) j → ⊥
    by_tokens None j none by_j differ = a_is_a_token name false [] none
    by_tokens (Some i) None by_i none differ = a_is_a_token name false [] none
    by_tokens (Some i) (Some j) by_i by_j differ = differ (ap (λ (k : ℕ). told (one name false []) (Some k)) (same i j by_i by_j))
      where
        same : (i j : ℕ) → IsTokenIn (one name false []) 0 (97 ∷ []) (Some i) → IsTokenIn (one name false []) 0 (97 ∷ []) (Some j) → i ≡ j
        same i j by_i by_j = by_j.1 i by_i.0
