-- Cases of specs/FileLexer.antt.
use Rattle.std.proofs.Common.{◌≡◌, ℕ, List, [], ◌∷◌, refl}
use Rattle.std.specs.Prelude.{Some, None}
use Rattle.lalrpop_rule_file.specs.declared.file_rule.FileRule.{FileRule}
use Rattle.lalrpop_rules.specs.FileLexer.{place_in}
use Rattle.lalrpop_rules.specs.declared.error.RulesError.TheVariants.{NoSuchMode, OutOfMemory}

first_rule_is_named : (r q : FileRule) (m : ℕ) → place_in (r ∷ q ∷ []) (NoSuchMode 0 m) ≡ Some r.place
first_rule_is_named r q m = refl

second_rule_is_named : (r q : FileRule) (m : ℕ) → place_in (r ∷ q ∷ []) (NoSuchMode 1 m) ≡ Some q.place
second_rule_is_named r q m = refl

memory_names_none : (rules : List FileRule) → place_in rules OutOfMemory ≡ None
memory_names_none rules = refl
