-- Warnings, one after another.
use Rattle.std.proofs.Common.{◌≡◌, ℕ, zero, suc, ◌+◌, ◌<◌, ◌≤◌, ◌⊎◌, ◌↔◌, inl, inr, List, [], ◌∷◌, ◌++◌, length, refl, sym, ap, subst, ◌∙◌, arith, eq-or-lt_of_le, Contains}
use Rattle.std.specs.Prelude.{Bool, true, false, Some, slice_get, IsTrue}
use Rattle.std.proofs.lemmas.Bool.{false≢true}
use Rattle.std.proofs.lemmas.List.Elements.{Contains-append_left, Contains-append_right, Contains-append_cases}
use Rattle.std.proofs.lemmas.Option.{slice_get_within, get_or_from_slice_get}
use Rattle.lalrpop_rule_file.specs.declared.file.RuleFile.{RuleFile}
use Rattle.lalrpop_rule_file.specs.declared.file_rule.FileRule.{FileRule}
use Rattle.lalrpop_rule_file.specs.declared.warning.Warning.{Warning}
use Rattle.lalrpop_rule_file.specs.declared.warning.Warning.TheVariants.{NoRules, PartUnused, ModeNotEntered, ModeNotLeft, TextGoesOn, ClassOutside, EndPassed}
use Rattle.lalrpop_rule_file.specs.Warnings.{AreInOrder, ComesBefore, HasText, IsEnteredMode, IsNeverLeft, IsUnused, IsWarning, kind_of, number_of}
use Rattle.lalrpop_rule_file.specs.LeftModes.{CanBeLeft}
use Rattle.lalrpop_rule_file.specs.GoesOn.{IsGoingOn}
use Rattle.lalrpop_rule_file.specs.OutsideClass.{HasOutsideClass}
use Rattle.lalrpop_rule_file.specs.PassedEnd.{HasPassedEnd}
use Rattle.bajofeki_rules.specs.declared.rule_text.RuleText.{RuleText}
use Rattle.lalrpop_rule_file.specs.Internal.Found.{HasFound, IsBelow}

-- a warning is its kind and its number
abbrev warning_of : ℕ → ℕ → Warning
warning_of zero n = NoRules
warning_of (suc zero) n = PartUnused n
warning_of (suc (suc zero)) n = ModeNotEntered n
warning_of (suc (suc (suc zero))) n = ModeNotLeft n
warning_of (suc (suc (suc (suc zero)))) n = TextGoesOn n
warning_of (suc (suc (suc (suc (suc zero))))) n = ClassOutside n
warning_of (suc (suc (suc (suc (suc (suc k)))))) n = EndPassed n

is_of : (w : Warning) → warning_of (kind_of w) (number_of w) ≡ w
is_of NoRules = refl
is_of (PartUnused i) = refl
is_of (ModeNotEntered m) = refl
is_of (ModeNotLeft m) = refl
is_of (TextGoesOn i) = refl
is_of (ClassOutside i) = refl
is_of (EndPassed i) = refl

of_kind : (w : Warning) (kind : ℕ) → kind_of w ≡ kind → w ≡ warning_of kind (number_of w)
of_kind w kind is = sym (is_of w) ∙ ap (λ (k : ℕ). warning_of k (number_of w)) is

same_warning : (v w : Warning) → kind_of v ≡ kind_of w → number_of v ≡ number_of w → v ≡ w
same_warning v w kind number = of_kind v (kind_of w) kind ∙ ap (warning_of (kind_of w)) number ∙ is_of w

-- ---- one more at the end of a list

contains_one : (w v : Warning) → Contains (w ∷ []) v → w ≡ v
contains_one w v (zero, within, is) = is
contains_one w v (suc k, within, is) = absurd (omega arith)

at_end : (ws : List Warning) (w : Warning) (i : ℕ) (v : Warning) → slice_get (ws ++ w ∷ []) i ≡ Some v → (slice_get ws i ≡ Some v) ⊎ ((i ≡ length ws) × (v ≡ w))
at_end [] w zero v is = inr (refl, cc)
at_end [] w (suc i) v is = absurd (cc)
at_end (x ∷ ws) w zero v is = inl is
at_end (x ∷ ws) w (suc i) v is = elim (at_end ws w i v is) [ inl h ↦ inl h | inr h ↦ inr (ap (λ n. suc n) h.0, h.1) ]

found_at : (ws : List Warning) (i : ℕ) (v : Warning) → slice_get ws i ≡ Some v → Contains ws v
found_at ws i v is = (i, slice_get_within ws i v is, get_or_from_slice_get ws i v v is)

-- ---- what is found

pub found_none : (file : RuleFile) → HasFound file 0 0 []
found_none file = record {
  those = λ w. (λ has. absurd (none w has), λ is. absurd (below w is.1));
  in_order = λ i j v w less at behind. absurd (cc);
}
  where
    none : (w : Warning) → Contains [] w → ⊥
    none w (i, within, is) = omega arith

    below : (w : Warning) → IsBelow 0 0 w → ⊥
    below w (inl less) = omega arith
    below w (inr (same, less)) = omega arith

module _ (file : RuleFile) (kind number : ℕ) (ws : List Warning) (h : HasFound file kind number ws) where
  below_more : (w : Warning) → IsBelow kind number w → IsBelow kind (number + 1) w
  below_more w (inl less) = inl less
  below_more w (inr (same, less)) = inr (same, omega arith)

  below_last : (w : Warning) → IsBelow kind (number + 1) w → IsBelow kind number w ⊎ ((kind_of w ≡ kind) × (number_of w ≡ number))
  below_last w (inl less) = inl (inl less)
  below_last w (inr (same, less)) = let least : number_of w ≤ number = omega arith in elim (eq-or-lt_of_le least) [ inl e ↦ inr (same, e) | inr under ↦ inl (inr (same, under)) ]

  -- one warning more
  pub found_more : (more : List Warning) (w : Warning) → kind_of w ≡ kind → number_of w ≡ number → IsWarning file w → more ≡ ws ++ w ∷ [] → HasFound file kind (number + 1) more
  found_more more w its_kind its_number is same = rw same (record { those = λ v. (to v, from v); in_order = in_order })
    where
      to : (v : Warning) → Contains (ws ++ w ∷ []) v → IsWarning file v × IsBelow kind (number + 1) v
      to v has = elim (Contains-append_cases ws (w ∷ []) v has) [
        | inl old ↦ let before = (h.those v).0 old in (before.0, below_more v before.1)
        | inr last ↦ subst (λ (x : Warning). IsWarning file x × IsBelow kind (number + 1) x) (contains_one w v last) (is, inr (its_kind, omega (arith, its_number)))
      ]

      from : (v : Warning) → IsWarning file v × IsBelow kind (number + 1) v → Contains (ws ++ w ∷ []) v
      from v (so, below) = elim (below_last v below) [
        | inl under ↦ Contains-append_left ws (w ∷ []) v ((h.those v).1 (so, under))
        | inr here ↦ Contains-append_right ws (w ∷ []) v (0, omega arith, same_warning w v (its_kind ∙ sym here.0) (its_number ∙ sym here.1))
      ]

      before_last : (v : Warning) → IsBelow kind number v → ComesBefore v w
      before_last v (inl less) = inl (omega (arith, its_kind))
      before_last v (inr (alike, less)) = inr (alike ∙ sym its_kind, omega (arith, its_number))

      in_order : AreInOrder (ws ++ w ∷ [])
      in_order i j v x less at behind = elim (at_end ws w j x behind) [
        | inl old ↦ elim (at_end ws w i v at) [
          | inl too ↦ h.in_order i j v x less too old
          | inr last ↦ absurd (omega (arith, slice_get_within ws j x old, last.0))
        ]
        | inr last ↦ elim (at_end ws w i v at) [
          | inl too ↦ subst (ComesBefore v) (sym last.1) (before_last v ((h.those v).0 (found_at ws i v too)).1)
          | inr both ↦ absurd (omega (arith, last.0, both.0))
        ]
      ]

  -- none of this kind with this number
  pub found_aside : (w : Warning) → kind_of w ≡ kind → number_of w ≡ number → ¬ IsWarning file w → HasFound file kind (number + 1) ws
  found_aside w its_kind its_number lacks = record {
    those = λ v. (λ has. let before = (h.those v).0 has in (before.0, below_more v before.1), λ is. from v is);
    in_order = h.in_order;
  }
    where
      from : (v : Warning) → IsWarning file v × IsBelow kind (number + 1) v → Contains ws v
      from v (so, below) = elim (below_last v below) [
        | inl under ↦ (h.those v).1 (so, under)
        | inr here ↦ absurd (lacks (subst (IsWarning file) (same_warning v w (here.0 ∙ sym its_kind) (here.1 ∙ sym its_number)) so))
      ]

  -- all of this kind
  pub found_kind : ((w : Warning) → kind_of w ≡ kind → IsWarning file w → number_of w < number) → HasFound file (kind + 1) 0 ws
  found_kind all = record {
    those = λ w. (λ has. let before = (h.those w).0 has in (before.0, next w before.1), λ is. (h.those w).1 (is.0, back w is.0 is.1));
    in_order = h.in_order;
  }
    where
      next : (w : Warning) → IsBelow kind number w → IsBelow (kind + 1) 0 w
      next w (inl less) = inl (omega arith)
      next w (inr (same, less)) = inl (omega arith)

      back : (w : Warning) → IsWarning file w → IsBelow (kind + 1) 0 w → IsBelow kind number w
      back w is (inl less) = let least : kind_of w ≤ kind = omega arith in elim (eq-or-lt_of_le least) [ inl e ↦ inr (e, all w e is) | inr under ↦ inl under ]
      back w is (inr (same, less)) = absurd (omega arith)

-- all warnings
pub found_all : (file : RuleFile) (ws : List Warning) → HasFound file 7 0 ws → (w : Warning) → Contains ws w ↔ IsWarning file w
found_all file ws h w = (λ has. ((h.those w).0 has).0, λ is. (h.those w).1 (is, below w))
  where
    below : (v : Warning) → IsBelow 7 0 v
    below NoRules = inl (omega arith)
    below (PartUnused i) = inl (omega arith)
    below (ModeNotEntered m) = inl (omega arith)
    below (ModeNotLeft m) = inl (omega arith)
    below (TextGoesOn i) = inl (omega arith)
    below (ClassOutside i) = inl (omega arith)
    below (EndPassed i) = inl (omega arith)

-- ---- where the warnings of a kind end

told : (file : RuleFile) (w : Warning) (kind : ℕ) → kind_of w ≡ kind → IsWarning file w → IsWarning file (warning_of kind (number_of w))
told file w kind is so = subst (IsWarning file) (of_kind w kind is) so

pub no_rules_end : (file : RuleFile) (w : Warning) → kind_of w ≡ 0 → IsWarning file w → number_of w < 1
no_rules_end file w kind is = let none : number_of w ≡ 0 = ap number_of (of_kind w 0 kind) in omega (arith, none)

part_within : (file : RuleFile) (i : ℕ) → IsUnused file i → i < length file.part_lines.items
part_within file i (p, (at, none, none_below)) = slice_get_within file.part_lines.items i p at

pub parts_end : (file : RuleFile) (k : ℕ) → length file.part_lines.items ≤ k → (w : Warning) → kind_of w ≡ 1 → IsWarning file w → number_of w < k
parts_end file k all w kind is = omega (arith, all, part_within file (number_of w) (told file w 1 kind is))

pub modes_end : (file : RuleFile) (k : ℕ) → length file.modes.items ≤ k → (w : Warning) → kind_of w ≡ 2 → IsWarning file w → number_of w < k
modes_end file k all w kind is = omega (arith, all, (told file w 2 kind is).0)

pub left_modes_end : (file : RuleFile) (k : ℕ) → length file.modes.items ≤ k → (w : Warning) → kind_of w ≡ 3 → IsWarning file w → number_of w < k
left_modes_end file k all w kind is = omega (arith, all, (told file w 3 kind is).1.0)

rule_within : (is : RuleText → Type 0) (file : RuleFile) (i : ℕ) → HasText is file i → i < length file.rules.items
rule_within is file i (r, (at, so)) = slice_get_within file.rules.items i r at

pub texts_end : (file : RuleFile) (k : ℕ) → length file.rules.items ≤ k → (w : Warning) → kind_of w ≡ 4 → IsWarning file w → number_of w < k
texts_end file k all w kind is = omega (arith, all, rule_within IsGoingOn file (number_of w) (told file w 4 kind is))

pub classes_end : (file : RuleFile) (k : ℕ) → length file.rules.items ≤ k → (w : Warning) → kind_of w ≡ 5 → IsWarning file w → number_of w < k
classes_end file k all w kind is = omega (arith, all, rule_within HasOutsideClass file (number_of w) (told file w 5 kind is))

pub ends_end : (file : RuleFile) (k : ℕ) → length file.rules.items ≤ k → (w : Warning) → kind_of w ≡ 6 → IsWarning file w → number_of w < k
ends_end file k all w kind is = omega (arith, all, rule_within HasPassedEnd file (number_of w) (told file w 6 kind is))

-- ---- modes that are never left

-- whether the mode can be entered is read from a list
pub never_left : (file : RuleFile) (m : ℕ) (entered : Bool) (marks : List Bool) (found : Bool) → m < length file.modes.items → slice_get marks m ≡ Some entered → (slice_get marks m ≡ Some true) ↔ IsEnteredMode file m
    → IsTrue found ↔ ((0 < m) × (IsTrue entered × ¬ CanBeLeft file.rules.items m)) → IsTrue found ↔ IsNeverLeft file m
never_left file m entered marks found within at here is = (
  λ holds. let so = is.0 holds in (so.0, (within, (here.0 (at ∙ ap Some so.1.0), so.1.1))),
  λ so. let both : Some entered ≡ Some true = sym at ∙ here.1 so.1.1.0 in let yes : entered ≡ true = cc in is.1 (so.0, (yes, so.1.1.1)),
)

-- ---- texts

same_rule : (file : RuleFile) (i : ℕ) (r q : FileRule) → slice_get file.rules.items i ≡ Some r → slice_get file.rules.items i ≡ Some q → q ≡ r
same_rule file i r q at too = let both : Some q ≡ Some r = sym too ∙ at in cc

pub lacks_text : (is : RuleText → Type 0) (file : RuleFile) (i : ℕ) (r : FileRule) → slice_get file.rules.items i ≡ Some r → ¬ is r.rule.text → ¬ HasText is file i
lacks_text is file i r at not (q, (too, so)) = not (subst (λ (x : FileRule). is x.rule.text) (same_rule file i r q at too) so)

-- ---- tests

pub empty_list : {X : Type 0} (xs : List X) → length xs ≡ 0 → xs ≡ []
empty_list [] none = refl
empty_list (x ∷ xs) none = absurd (omega (arith, none))

pub some_false : (b : Bool) → b ≡ false → Some b ≡ Some true → ⊥
some_false b is same = let yes : b ≡ true = cc in false≢true (sym is ∙ yes)
