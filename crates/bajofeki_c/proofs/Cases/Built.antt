-- Cases of specs/Built.antt.
use Rattle.std.proofs.Common.{◌≡◌, ◌≢◌, ℕ, List, [], ◌∷◌, map, string_bytes, refl, inl, inr}
use Rattle.std.specs.Prelude.{Err, Vec}
use Rattle.std.specs.Global.{Global}
use Rattle.lalrpop_rules.specs.declared.error.RulesError.{RulesError}
use Rattle.lalrpop_rule_file.specs.declared.error.RuleFileError.TheVariants as file_error
use Rattle.lalrpop_rule_file.specs.declared.file.RuleFile.{RuleFile}
use Rattle.lalrpop_rule_file.specs.declared.file_rule.FileRule.{FileRule}
use Rattle.bajofeki_c.specs.Built.{AreNamed, IsBuiltFor, IsFreed, IsMade}
use Rattle.bajofeki_c.specs.declared.held.BuildError.TheVariants.{File, Rules, Freed}
use Rattle.bajofeki_c.specs.declared.held.NamedRule.{NamedRule}

module _ (a b : FileRule) (c d : NamedRule) (name_a : string_bytes c.name ≡ a.rule.name.now) (name_b : string_bytes d.name ≡ b.rule.name.now)
    (place_a : c.place ≡ a.place) (place_b : d.place ≡ b.place) where
  each_by_its_name_and_place : AreNamed (a ∷ b ∷ []) (c ∷ d ∷ [])
  each_by_its_name_and_place = record { names = cc; places = cc }

  in_their_order : b.place ≢ a.place → ¬ AreNamed (a ∷ b ∷ []) (d ∷ c ∷ [])
  in_their_order other named = let places = named.places in other cc

  all_of_them : ¬ AreNamed (a ∷ b ∷ []) (c ∷ [])
  all_of_them named = let places = named.places in cc

-- at any file memory can be refused
memory_refused : (bytes : List ℕ) → IsMade bytes (record { made = Err (File file_error.OutOfMemory) })
memory_refused bytes = inr tt

none_is_freed_when_it_is_made : (bytes : List ℕ) → ¬ IsMade bytes (record { made = Err Freed })
none_is_freed_when_it_is_made bytes (inl m) = m.1.1
none_is_freed_when_it_is_made bytes (inr m) = m

-- whatever the error is
each_error_has_the_places : (file : RuleFile) (e : RulesError) (named : Vec NamedRule Global) → IsBuiltFor file (Err (Rules e named))
    → map (λ n. n.place) named.items ≡ map (λ r. r.place) file.rules.items
each_error_has_the_places file e named built = built.1.places

freed : IsFreed (record { made = Err Freed })
freed = refl
