-- Cases of specs/RuleSet.antt.
use Rattle.std.proofs.Common.{◌≡◌, ◌<◌, ℕ, true, false, List, [], ◌∷◌, codes, refl, arith}
use Rattle.std.specs.Prelude.{Some, slice_get}
use Rattle.std.specs.Option.{option_map}
use Rattle.std.specs.Borrow.{Bor}
use Rattle.lalrpop_hir.specs.Tree.{Tree}
use Rattle.lalrpop_re.specs.declared.from_to_error.FromToError.{FromToError}
use Rattle.lalrpop_re.specs.declared.from_to_error.FromToError.TheVariants.{EmptyEnd}
use Rattle.lalrpop_rules.specs.RuleSet.{AreTrees, IsNotParsed, HasBadEnd, IsTextError, names_of, precedences_of, skips_of}
use Rattle.bajofeki_rules.specs.declared.rule.Rule.{Rule}
use Rattle.bajofeki_rules.specs.declared.rule_text.RuleText.{RuleText}
use Rattle.bajofeki_rules.specs.declared.rule_text.RuleText.TheVariants.{Literal, Pattern, FromTo}
use Rattle.lalrpop_rules.specs.declared.text_error.TextError.TheVariants as texts

-- a keyword, and spaces, which are skipped
abbrev keyword : Bor (List ℕ) → Bor (List ℕ) → Rule
keyword name text = record { name = name; text = Literal text; precedence = record { 0 = 1 }; is_skipped = false }

abbrev spaces : Bor (List ℕ) → Bor (List ℕ) → Rule
spaces name text = record { name = name; text = Pattern text; precedence = record { 0 = 0 }; is_skipped = true }

no_rules : AreTrees [] []
no_rules = tt

rule_without_a_tree : (r : Rule) → ¬ AreTrees (r ∷ []) []
rule_without_a_tree r are = are

tree_without_a_rule : (t : Tree) → ¬ AreTrees [] (t ∷ [])
tree_without_a_rule t are = are

names_in_their_order : (if_name if_text space_name space_text : Bor (List ℕ)) → if_name.now ≡ codes "IF" → space_name.now ≡ codes "SPACE"
    → names_of (keyword if_name if_text ∷ spaces space_name space_text ∷ []) ≡ codes "IF" ∷ codes "SPACE" ∷ []
names_in_their_order if_name if_text space_name space_text e f = rw (e, f) refl

precedences_in_their_order : (a b c d : Bor (List ℕ)) → precedences_of (keyword a b ∷ spaces c d ∷ []) ≡ 1 ∷ 0 ∷ []
precedences_in_their_order a b c d = refl

second_is_skipped : (a b c d : Bor (List ℕ)) → skips_of (keyword a b ∷ spaces c d ∷ []) ≡ false ∷ true ∷ []
second_is_skipped a b c d = refl

-- no rule of none is refused
none_of_no_rules : (i position : ℕ) (e : FromToError) → ¬ IsNotParsed [] i position × ¬ HasBadEnd [] i e
none_of_no_rules i position e = (λ is. none (is.1.1.0.at), λ is. none (is.1.1.0.at))
  where
    none : {text : RuleText} → option_map (λ (r : Rule). r.text) (slice_get [] i) ≡ Some text → ⊥
    none is = absurd (cc)

-- a comment
abbrev comment : Bor (List ℕ) → Bor (List ℕ) → Bor (List ℕ) → Rule
comment name from to = record { name = name; text = FromTo from to; precedence = record { 0 = 0 }; is_skipped = true }

comment_without_an_end : (name from to : Bor (List ℕ)) → to.now ≡ [] → IsTextError (comment name from to ∷ []) (texts.BadEnd 0 EmptyEnd)
comment_without_an_end name from to e =
    (from, (to, (record { at = refl; none = λ t has. has.some e; before = λ j r below at. absurd (no below) }, e)))
  where
    no : {j : ℕ} → j < 0 → ⊥
    no h = omega (arith, h)

memory_of_texts_is_right : (rs : List Rule) → IsTextError rs texts.OutOfMemory
memory_of_texts_is_right rs = tt
