-- Cases of specs/Rules.antt.
use Rattle.std.proofs.Common.{◌≡◌, ℕ, [], ◌∷◌, true, false, string_bytes, refl, arith}
use Rattle.std.specs.Prelude.{Err, Vec}
use Rattle.std.specs.Global.{Global}
use Rattle.lalrpop_rules.specs.declared.error.RulesError.TheVariants.{BadEnd, Clash, OutOfMemory}
use Rattle.bajofeki_c.specs.Rules.{IsWritten, count_of, is_skipped, name_of, skips_rule, word_of}
use Rattle.bajofeki_c.specs.declared.held.BuildError.TheVariants.{Rules, Freed}
use Rattle.bajofeki_c.specs.declared.held.NamedRule.{NamedRule}

skipped : is_skipped (false ∷ true ∷ []) 1 ≡ true
skipped = refl

not_skipped : is_skipped (false ∷ true ∷ []) 0 ≡ false
not_skipped = refl

no_rule_is_not_skipped : is_skipped (false ∷ true ∷ []) 2 ≡ false
no_rule_is_not_skipped = refl

-- the array has more room
all_fit : IsWritten {X = ℕ} (7 ∷ 8 ∷ []) (0 ∷ 0 ∷ 5 ∷ []) (7 ∷ 8 ∷ 5 ∷ []) 2
all_fit = record { count = refl; front = refl; behind = refl }

-- the array has less room
one_does_not_fit : IsWritten {X = ℕ} (7 ∷ 8 ∷ 9 ∷ []) (0 ∷ 0 ∷ []) (7 ∷ 8 ∷ []) 3
one_does_not_fit = record { count = refl; front = refl; behind = refl }

what_fits_is_written : ¬ IsWritten {X = ℕ} (7 ∷ 8 ∷ 9 ∷ []) (0 ∷ 0 ∷ []) (7 ∷ 0 ∷ []) 3
what_fits_is_written w = let front = w.front in cc

nothing_else_is_written : ¬ IsWritten {X = ℕ} (7 ∷ []) (0 ∷ 0 ∷ []) (7 ∷ 8 ∷ []) 1
nothing_else_is_written w = let behind = w.behind in cc

what_does_not_fit_is_counted : ¬ IsWritten {X = ℕ} (7 ∷ 8 ∷ 9 ∷ []) (0 ∷ 0 ∷ []) (7 ∷ 8 ∷ []) 2
what_does_not_fit_is_counted w = let count = w.count in omega (arith, count)

no_lexer_has_no_rules : count_of (record { made = Err Freed }) ≡ 0
no_lexer_has_no_rules = refl

no_lexer_has_no_names : name_of (record { made = Err Freed }) 0 ≡ []
no_lexer_has_no_names = refl

module _ (rules : Vec NamedRule Global) (a b : NamedRule) (are : rules.items ≡ a ∷ b ∷ []) where
  the_rules_of_a_clash_have_names : (w : _) → name_of (record { made = Err (Rules (Clash 0 1 0 w) rules) }) 1 ≡ string_bytes b.name
  the_rules_of_a_clash_have_names w = rw are refl

  all_rules_are_counted : (e : _) → count_of (record { made = Err (Rules (BadEnd 0 e) rules) }) ≡ 2
  all_rules_are_counted e = rw are refl

  without_memory_none_is_counted : count_of (record { made = Err (Rules OutOfMemory rules) }) ≡ 0
  without_memory_none_is_counted = refl

no_lexer_skips_nothing : skips_rule (record { made = Err Freed }) 0 ≡ false
no_lexer_skips_nothing = refl

no_clash_has_no_word : word_of (record { made = Err Freed }) ≡ []
no_clash_has_no_word = refl
