-- The lines of what differs, mode by mode, and what was written of them.
use Rattle.std.proofs.Common.{◌≡◌, ℕ, suc, ◌+◌, ◌⊎◌, inl, inr, Bool, false, List, [], ◌∷◌, ◌++◌, length, map, refl, sym, ap, subst, ◌∙◌, append_assoc, arith}
use Rattle.std.specs.Prelude.{Option, Some, Result, Ok, Err, OnErr, flat_map, slice_get, string_bytes, unwrap_or, codes, String, ◌&&◌}
use Rattle.std.specs.Bool.{Decides}
use Rattle.std.specs.Cmp.Lexicographic.{pointwise}
use Rattle.std.specs.Global.{Global}
use Rattle.std.specs.Str.{bytes_eq}
use Rattle.std.specs.String.{string_eq}
use Rattle.std.proofs.lemmas.List.{append-nil, length-append}
use Rattle.std.proofs.lemmas.Slice.Eq.{bytes_eq-Decides, slice_eq-Decides}
use Rattle.lalrpop_hir.proofs.Pushed.{pushed_cases}
use Rattle.lalrpop_rules.specs.Modes.{ModeRules}
use Rattle.bajofeki_rules.specs.Stack.{actions_of}
use Rattle.bajofeki_rules.specs.declared.action.Action.{Action}
use Rattle.lalrpop_review.specs.Apart.{told}
use Rattle.lalrpop_verdicts.specs.Differences.{Answers}
use Rattle.reviews_lib.specs.Compared.{action_text, skip_text, token_text, modes_text, modes_line, IsDifference, AreDifferences, difference_line, difference_lines, IsDifferenceText, DifferenceAnswer, text_status}

-- ---- the names of modes

equal_names : (xs ys : List (String Global)) → pointwise string_eq xs ys ≡ pointwise bytes_eq (map string_bytes xs) (map string_bytes ys)
equal_names [] [] = refl
equal_names [] (y ∷ ys) = refl
equal_names (x ∷ xs) [] = refl
equal_names (x ∷ xs) (y ∷ ys) = ap (λ (b : Bool). string_eq x y && b) (equal_names xs ys)

-- two lists of names are the same just if `==` says so
pub same_names : (xs ys : List (String Global)) (same : Bool) → same ≡ pointwise string_eq xs ys → Decides same (map string_bytes xs ≡ map string_bytes ys)
same_names xs ys same is = slice_eq-Decides bytes_eq-Decides (map string_bytes xs) (map string_bytes ys) same (is ∙ equal_names xs ys)

-- the line of files whose modes have other names, part by part
pub modes_pushed : (old : List ℕ) (modes : List (List ℕ)) (new : List ℕ) (others : List (List ℕ)) (nothing first between second all : List ℕ)
    → nothing ≡ [] → first ≡ nothing ++ modes_text old (codes " has the modes") modes → between ≡ first ++ codes ", and "
    → second ≡ between ++ modes_text new (codes " has") others → all ≡ second ++ codes "\n" → all ≡ modes_line old modes new others
modes_pushed old modes new others nothing first between second all none by_old by_word by_new by_end =
    let left = modes_text old (codes " has the modes") modes in
    let right = modes_text new (codes " has") others in
    by_end
    ∙ ap (λ (t : List ℕ). t ++ codes "\n")
    (by_new ∙ ap (λ (t : List ℕ). t ++ right) (by_word ∙ ap (λ (t : List ℕ). t ++ codes ", and ") (by_old ∙ ap (λ (t : List ℕ). t ++ left) none)))
    ∙ append_assoc (left ++ codes ", and ") right (codes "\n") ∙ append_assoc left (codes ", and ") (right ++ codes "\n")

-- ---- a token

-- its name, whether it is skipped, and its actions were written one after another
pub token_pushed : (modes : List (List ℕ)) (r : ModeRules) (i : ℕ) (old named skipping all name : List ℕ) (skipped : Bool) (acts : List Action)
    → name ≡ unwrap_or (slice_get r.names i) [] → skipped ≡ unwrap_or (slice_get r.skips i) false → acts ≡ actions_of r.actions i
    → named ≡ old ++ name → skipping ≡ named ++ skip_text skipped → all ≡ skipping ++ flat_map (action_text modes) acts
    → all ≡ old ++ token_text modes (told r (Some i))
token_pushed modes r i old named skipping all name skipped acts by_name by_skip by_actions first second third =
    let rest = flat_map (action_text modes) acts in
    third ∙ ap (λ (t : List ℕ). t ++ rest) (second ∙ ap (λ (t : List ℕ). t ++ skip_text skipped) first)
    ∙ append_assoc (old ++ name) (skip_text skipped) rest ∙ append_assoc old name (skip_text skipped ++ rest)
    ∙ ap (λ (t : List ℕ). old ++ (t ++ (skip_text skipped ++ rest))) by_name
    ∙ ap (λ (b : Bool). old ++ (unwrap_or (slice_get r.names i) [] ++ (skip_text b ++ rest))) by_skip
    ∙ ap (λ (xs : List Action). old ++ (unwrap_or (slice_get r.names i) [] ++ (skip_text (unwrap_or (slice_get r.skips i) false) ++ flat_map (action_text modes) xs))) by_actions

-- ---- one mode after another

no_differences : (r s : ModeRules) → AreDifferences r s 0 []
no_differences r s = (refl, λ m f at. absurd (cc (at)))

-- of the differences so far, or the next one
old_or_new : (r s : ModeRules) (count : ℕ) (fs : List (Option Answers)) (next : Option Answers) → AreDifferences r s count fs → IsDifference r s count next
    → (m : ℕ) (f : Option Answers) → (slice_get fs m ≡ Some f) ⊎ ((m ≡ length fs) × (f ≡ next)) → IsDifference r s m f
old_or_new r s count fs next are one m f (inl old) = are.1 m f old
old_or_new r s count fs next are one m f (inr new) =
    subst (λ (n : ℕ). IsDifference r s n f) (sym (new.0 ∙ are.0)) (subst (λ (g : Option Answers). IsDifference r s count g) (sym new.1) one)

differences_more : (r s : ModeRules) (count : ℕ) (fs : List (Option Answers)) (next : Option Answers) → AreDifferences r s count fs → IsDifference r s count next
    → AreDifferences r s (count + 1) (fs ++ next ∷ [])
differences_more r s count fs next are one =
    let longer : length (fs ++ next ∷ []) ≡ count + 1 = omega (arith, length-append fs (next ∷ []), are.0) in
    (longer, λ m f at. old_or_new r s count fs next are one m f (pushed_cases fs next m f at))

module _ (old : List ℕ) (r : ModeRules) (modes : List (List ℕ)) (new : List ℕ) (s : ModeRules) (others : List (List ℕ)) where
  abbrev Line : ℕ → Option Answers → List ℕ
  Line m f = difference_line old r modes new s others m f

  abbrev Lines : ℕ → List (Option Answers) → List ℕ
  Lines m fs = difference_lines old r modes new s others m fs

  lines_more : (m : ℕ) (fs : List (Option Answers)) (next : Option Answers) → Lines m (fs ++ next ∷ []) ≡ Lines m fs ++ Line (m + length fs) next
  lines_more m [] next = let here : m ≡ m + 0 = omega arith in append-nil (Line m next) ∙ ap (λ (n : ℕ). Line n next) here
  lines_more m (f ∷ fs) next =
      let there : (m + 1) + length fs ≡ m + suc (length fs) = omega arith in
      ap (λ (l : List ℕ). Line m f ++ l) (lines_more (m + 1) fs next)
      ∙ sym (append_assoc (Line m f) (Lines (m + 1) fs) (Line ((m + 1) + length fs) next))
      ∙ ap (λ (n : ℕ). (Line m f ++ Lines (m + 1) fs) ++ Line n next) there

  -- the lines of the first modes
  abbrev pub AreLines : ℕ → List ℕ → Type 0
  AreLines count text = (fs : List (Option Answers)) × (AreDifferences r s count fs × (text ≡ Lines 0 fs))

  pub no_lines : AreLines 0 []
  no_lines = ([], (no_differences r s, refl))

  pub text_more : (count : ℕ) (text more : List ℕ) → AreLines count text
      → (f : Option Answers) × (IsDifference r s count f × (more ≡ text ++ Line count f)) → AreLines (count + 1) more
  text_more count text more (fs, (are, is)) (f, (one, grows)) =
      let place : count ≡ 0 + length fs = omega (arith, are.0) in (
        fs ++ f ∷ [],
        (
          differences_more r s count fs f are one,
          grows ∙ ap (λ (t : List ℕ). t ++ Line count f) is ∙ ap (λ (n : ℕ). Lines 0 fs ++ Line n f) place ∙ sym (lines_more 0 fs f),
        ),
      )
