-- cases: proofs/Cases/Rules.antt
-- The rules of a file, and the word of a clash.
use Rattle.std.specs.Prelude.{◌≡◌, ℕ, Bool, false, List, [], length, take, drop, map, slice_get, string_bytes, Option, Some, None, Result, Ok, Err}
use Rattle.lalrpop_rules.specs.declared.error.RulesError.{RulesError}
use Rattle.lalrpop_rules.specs.declared.error.RulesError.TheVariants.{NotParsed, BadEnd, NotCompiled, Clash}
use Rattle.bajofeki_c.specs.declared.held.BuildError.{BuildError}
use Rattle.bajofeki_c.specs.declared.held.BuildError.TheVariants.{Rules}
use Rattle.bajofeki_c.specs.declared.held.BuiltLexer.{BuiltLexer}
use Rattle.bajofeki_c.specs.declared.held.Held.{Held}
use Rattle.bajofeki_c.specs.declared.held.NamedRule.{NamedRule}

-- there are n values; as many as fit are at the front of the array, and what is after them is as it was
pub record IsWritten {X : Type 0} (values before after : List X) (n : ℕ) : Type 0 where
  pub count : n ≡ length values
  pub front : take (length values) after ≡ take (length before) values
  pub behind : drop (length values) after ≡ drop (length values) before

-- ---- whether a rule is skipped

abbrev pub or_false : Option Bool → Bool
or_false None = false
or_false (Some b) = b

abbrev pub is_skipped : List Bool → ℕ → Bool
is_skipped skips i = or_false (slice_get skips i)

abbrev pub skips_in : Result BuiltLexer BuildError → ℕ → Bool
skips_in (Ok l) i = is_skipped l.rules.skips i
skips_in (Err e) i = false

abbrev pub skips_rule : Held → ℕ → Bool
skips_rule h i = skips_in h.made i

-- ---- the names

abbrev pub or_none : Option (List ℕ) → List ℕ
or_none None = []
or_none (Some name) = name

-- the rules of the file, if the error is one of its rules
abbrev pub rules_known : RulesError → List NamedRule → List NamedRule
rules_known (NotParsed i position kind) rs = rs
rules_known (BadEnd i e) rs = rs
rules_known (NotCompiled i e) rs = rs
rules_known (Clash m i j w) rs = rs
rules_known _ rs = []

abbrev pub rules_in_error : BuildError → List NamedRule
rules_in_error (Rules e rules) = rules_known e rules.items
rules_in_error _ = []

abbrev pub names_in : Result BuiltLexer BuildError → List (List ℕ)
names_in (Ok l) = l.rules.names
names_in (Err e) = map (λ r. string_bytes r.name) (rules_in_error e)

-- the name of the rule with this number
abbrev pub name_of : Held → ℕ → List ℕ
name_of h i = or_none (slice_get (names_in h.made) i)

-- how many rules there are
abbrev pub count_of : Held → ℕ
count_of h = length (names_in h.made)

-- ---- the word of a clash

abbrev pub word_in_error : RulesError → List ℕ
word_in_error (Clash m i j w) = w.items
word_in_error _ = []

abbrev pub word_in : Result BuiltLexer BuildError → List ℕ
word_in (Err (Rules e rules)) = word_in_error e
word_in _ = []

abbrev pub word_of : Held → List ℕ
word_of h = word_in h.made
