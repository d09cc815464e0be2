-- Cases of specs/Kinds.antt.
use Rattle.std.proofs.Common.{◌≡◌, ℕ, true, false, List, [], ◌∷◌, codes, refl, ap, sym, ◌∙◌, arith, get_or}
use Rattle.std.specs.Prelude.{Some, None}
use Rattle.std.specs.Borrow.{Bor}
use Rattle.lalrpop_hir.specs.Tree.{Tree, alternation, none, also}
use Rattle.lalrpop_rules.specs.Kinds.{AreKinds, AreOneKind, IsFirstSame, all_at_work, gathered, is_kind, merged, merged_behind, one_tree, trees_of_kind}
use Rattle.bajofeki_rules.specs.declared.rule.Rule.{Rule}
use Rattle.bajofeki_rules.specs.declared.rule_text.RuleText.TheVariants.{Pattern}

abbrev number : Bor (List ℕ) → Bor (List ℕ) → ℕ → Rule
number name text precedence = record { name = name; text = Pattern text; precedence = record { 0 = precedence }; is_skipped = false }

-- the texts don't matter
two_texts_of_one_kind : (name text other : Bor (List ℕ)) → AreOneKind (number name text 0) (number name other 0)
two_texts_of_one_kind name text other = record { name = refl; precedence = refl; skipped = refl }

other_precedence_other_kind : (name text other : Bor (List ℕ)) → ¬ AreOneKind (number name text 0) (number name other 1)
other_precedence_other_kind name text other one = omega (arith, one.precedence)

other_name_other_kind : (a b text : Bor (List ℕ)) → a.now ≡ codes "A" → b.now ≡ codes "B" → ¬ AreOneKind (number a text 0) (number b text 0)
other_name_other_kind a b text e f one =
    let no : 65 ≡ 66 = ap (λ (l : List ℕ). get_or l 0 0) (sym e ∙ one.name ∙ f) in omega (arith, no)

abbrev Equal : ℕ → ℕ → Type 0
Equal a b = a ≡ b

-- of 7, 8, 7 the first two are the first of their kinds
kinds_of_three : AreKinds Equal (7 ∷ 8 ∷ 7 ∷ []) (0 ∷ 1 ∷ 0 ∷ []) → IsFirstSame Equal (7 ∷ 8 ∷ 7 ∷ []) 7 0
kinds_of_three are = are.first 2 0 7 refl refl

one_kind_for_each : ¬ AreKinds Equal (7 ∷ []) []
one_kind_for_each are = omega (arith, are.one_each)

later_is_not_first : ¬ IsFirstSame Equal (7 ∷ 7 ∷ []) 7 1
later_is_not_first first = first.none_before 0 7 (omega arith) refl refl

left_out_has_no_kind : (is_kind 0 None ≡ false) × (is_kind 0 (Some 0) ≡ true) × (is_kind 0 (Some 1) ≡ false)
left_out_has_no_kind = (refl, refl, refl)

first_and_last : (a b c : Tree) → trees_of_kind 0 (Some 0 ∷ None ∷ Some 0 ∷ []) (a ∷ b ∷ c ∷ []) ≡ a ∷ c ∷ []
first_and_last a b c = refl

only_tree_is_kept : (a : Tree) → one_tree (a ∷ []) ≡ a
only_tree_is_kept a = refl

no_tree_matches_nothing : one_tree [] ≡ alternation none
no_tree_matches_nothing = refl

later_ones_have_none : (a : Tree) → gathered (Some 0 ∷ []) (Some 0) (Some 0 ∷ []) (a ∷ []) ≡ []
later_ones_have_none a = refl

-- rules 0 and 2 are one kind
first_has_both_trees : (a b c : Tree) → merged (all_at_work (0 ∷ 1 ∷ 0 ∷ [])) (a ∷ b ∷ c ∷ []) ≡ alternation (also a (also c none)) ∷ b ∷ alternation none ∷ []
first_has_both_trees a b c = refl

behind_one_of_its_kind : (a : Tree) → merged_behind (Some 0 ∷ []) (Some 0 ∷ []) (a ∷ []) ≡ alternation none ∷ []
behind_one_of_its_kind a = refl

kinds_of_their_own : (a b : Tree) → merged (all_at_work (0 ∷ 1 ∷ [])) (a ∷ b ∷ []) ≡ a ∷ b ∷ []
kinds_of_their_own a b = refl

left_out : (a b : Tree) → merged (None ∷ Some 0 ∷ []) (a ∷ b ∷ []) ≡ alternation none ∷ b ∷ []
left_out a b = refl
