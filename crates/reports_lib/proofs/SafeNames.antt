-- The names that a file of rules gives its rules and modes are safe to show.
use Rattle.std.proofs.Common.{◌≡◌, ℕ, zero, suc, ◌<◌, Bool, true, false, List, [], ◌∷◌, ◌++◌, length, map, get_or, codes, refl, sym, ap, subst, ◌∙◌, arith}
use Rattle.std.specs.Prelude.{All, if◌then◌else◌}
use Rattle.std.specs.List.{list_all}
use Rattle.std.specs.Str.{bytes_eq}
use Rattle.std.proofs.lemmas.Bool.Decides.{nat_tests}
use Rattle.bajofeki_rules.specs.declared.mode_rule.ModeRule.{ModeRule}
use Rattle.lalrpop_re.specs.NamedPart.{NamedPart}
use Rattle.lalrpop_rules.specs.ModeSet.{rules_of}
use Rattle.lalrpop_rules.specs.RuleSet.{names_of}
use Rattle.lalrpop_rule_file.specs.Words.{EachByte, is_of_name}
use Rattle.lalrpop_rule_file.specs.RuleLine.{Part, Start, Listing, Starred, Headed, Named, Entering, Equals, InAnyCase, From, Unjoined, Defining, Defines, Defined, Open, Closed, Section, These, Every, Lexeme, a_blank, a_bracket, a_mode, a_star, an_end, a_star_end, a_name, a_skip, a_pop, an_entry, its_mode, an_equals, a_part, its_equals, its_pattern, an_open_pattern, a_precedence, a_text, an_open_text, an_any_case, its_literal, an_open_literal, a_from, from_to, an_open_to, no_to, Reads, nothing, lexeme_then}
use Rattle.lalrpop_rule_file.specs.FileModes.{Said, Nothing, Heading, Define, Rule, initial, named_by, named_below, without, firsts, or_initial, modes_of}
use Rattle.lalrpop_rule_file.specs.RuleFile.{AreModeRules, AreRules, AreRulesBelow, LinesSay, Says, without_return}
use Rattle.lalrpop_rule_file.specs.declared.file_rule.FileRule.{FileRule}
use Rattle.reports_lib.specs.FileRules.{AreFileRules}
use Rattle.reports_lib.specs.Safe.{IsSafe}
use Rattle.reports_lib.proofs.SafeLaws.{is_printed, plain_is_safe}

-- ---- bytes of names

abbrev IsName : List ℕ → Type 0
IsName name = EachByte is_of_name name

byte_is_printed : (b : ℕ) → is_of_name b ≡ true → is_printed b ≡ true
byte_is_printed b is = grind (arith, nat_tests)

name_is_printed : (name : List ℕ) → IsName name → list_all is_printed name ≡ true
name_is_printed [] is = refl
name_is_printed (b ∷ bs) is = rw (byte_is_printed b is.0) (name_is_printed bs is.1)

abbrev AreNames : List (List ℕ) → Type 0
AreNames [] = Unit {0}
AreNames (name ∷ names) = IsName name × AreNames names

names_are_safe : (names : List (List ℕ)) → AreNames names → All IsSafe names
names_are_safe [] are k d within = absurd (omega arith)
names_are_safe (name ∷ names) are zero d within = plain_is_safe name (name_is_printed name are.0)
names_are_safe (name ∷ names) are (suc k) d within = names_are_safe names are.1 k d (omega arith)

AreNames-append : (names more : List (List ℕ)) → AreNames names → AreNames more → AreNames (names ++ more)
AreNames-append [] more are other = other
AreNames-append (name ∷ names) more are other = (are.0, AreNames-append names more are.1 other)

-- ---- a line

-- what is read of it has names
abbrev HasNames : Part → Type 0
HasNames (Listing modes) = AreNames modes
HasNames (Headed (These modes)) = AreNames modes
HasNames (Named head) = IsName head.name
HasNames (Entering head entry) = IsName head.name
HasNames (Equals head written) = IsName head.name
HasNames (InAnyCase head written) = IsName head.name
HasNames (From head written) = IsName head.name
HasNames (Closed rule) = IsName rule.head.name
HasNames _ = Unit {0}

lexeme_names : {p q : Part} {text rest : List ℕ} → Lexeme p text q rest → HasNames p → HasNames q
lexeme_names (a_blank is) has = has
lexeme_names a_bracket has = tt
lexeme_names (a_mode {modes = modes} {mode = mode} begins span) has = AreNames-append modes (mode ∷ []) has (span.passes, tt)
lexeme_names a_star has = tt
lexeme_names an_end has = has
lexeme_names a_star_end has = tt
lexeme_names (a_name begins span) has = span.passes
lexeme_names (a_skip span) has = has
lexeme_names (a_pop span) has = has
lexeme_names (an_entry entry span) has = has
lexeme_names (its_mode begins span) has = has
lexeme_names an_equals has = has
lexeme_names (a_part span) has = tt
lexeme_names its_equals has = tt
lexeme_names (its_pattern lacks) has = tt
lexeme_names (an_open_pattern lacks) has = tt
lexeme_names (a_precedence span is) has = has
lexeme_names (a_text form lacks) has = has
lexeme_names (an_open_text form lacks) has = tt
lexeme_names (an_any_case span) has = has
lexeme_names (its_literal lacks) has = has
lexeme_names (an_open_literal lacks) has = tt
lexeme_names (a_from span) has = has
lexeme_names (from_to up lacks) has = has
lexeme_names (an_open_to up lacks) has = tt
lexeme_names (no_to none span) has = tt

reads_names : {p q : Part} {text rest : List ℕ} → Reads p text q rest → HasNames p → HasNames q
reads_names nothing has = has
reads_names (lexeme_then one more) has = reads_names more (lexeme_names one has)

-- ---- all lines

abbrev SaysNames : List Said → Type 0
SaysNames [] = Unit {0}
SaysNames (Nothing ∷ said) = SaysNames said
SaysNames (Heading section ∷ said) = HasNames (Headed section) × SaysNames said
SaysNames (Define part ∷ said) = SaysNames said
SaysNames (Rule rule ∷ said) = IsName rule.head.name × SaysNames said

lines_say_names : (ls : List (List ℕ)) (said : List Said) → LinesSay ls said → SaysNames said
lines_say_names [] [] say = tt
lines_say_names (line ∷ ls) (Nothing ∷ said) say = lines_say_names ls said say.1
lines_say_names (line ∷ ls) (Heading section ∷ said) say = (reads_names say.0.1 tt, lines_say_names ls said say.1)
lines_say_names (line ∷ ls) (Define part ∷ said) say = lines_say_names ls said say.1
lines_say_names (line ∷ ls) (Rule rule ∷ said) say = (reads_names say.0.1 tt, lines_say_names ls said say.1)
lines_say_names [] (s ∷ said) say = absurd say
lines_say_names (line ∷ ls) [] say = absurd say

-- the names of rules
rule_names : (modes : List (List ℕ)) (section : Section) (said : List Said) (fs : List FileRule) → AreRulesBelow modes section said fs → SaysNames said
    → AreNames (map (λ f. f.rule.name.now) fs)
rule_names modes section [] [] are say = tt
rule_names modes section (Nothing ∷ said) fs are say = rule_names modes section said fs are say
rule_names modes section (Heading next ∷ said) fs are say = rule_names modes next said fs are say.1
rule_names modes section (Define part ∷ said) fs are say = rule_names modes section said fs are say
rule_names modes section (Rule rule ∷ said) (f ∷ fs) are say = (subst IsName (sym are.0.name) say.0, rule_names modes section said fs are.1 say.1)
rule_names modes section [] (f ∷ fs) are say = absurd are
rule_names modes section (Rule rule ∷ said) [] are say = absurd are

-- the names of modes
section_names : (section : Section) → HasNames (Headed section) → AreNames (named_by section)
section_names (These modes) has = has
section_names Every has = tt

named_below_names : (section : Section) (said : List Said) → HasNames (Headed section) → SaysNames said → AreNames (named_below section said)
named_below_names section [] has say = tt
named_below_names section (Nothing ∷ said) has say = named_below_names section said has say
named_below_names section (Heading next ∷ said) has say = AreNames-append (named_by next) (named_below next said) (section_names next say.0) (named_below_names next said say.0 say.1)
named_below_names section (Define part ∷ said) has say = named_below_names section said has say
named_below_names section (Rule rule ∷ said) has say = AreNames-append (named_by section) (named_below section said) (section_names section has) (named_below_names section said has say.1)

without_names : (name : List ℕ) (names : List (List ℕ)) → AreNames names → AreNames (without name names)
without_names name [] are = tt
without_names name (other ∷ names) are = by (bytes_eq other name) (without_names name names are.1)
  where
    by : (t : Bool) → AreNames (without name names) → AreNames (if t then without name names else other ∷ without name names)
    by true rest = rest
    by false rest = (are.0, rest)

firsts_names : (names : List (List ℕ)) → AreNames names → AreNames (firsts names)
firsts_names [] are = tt
firsts_names (name ∷ names) are = (are.0, without_names name (firsts names) (firsts_names names are.1))

initial_name : IsName (codes "INITIAL")
initial_name = (refl, (refl, (refl, (refl, (refl, (refl, (refl, tt)))))))

or_initial_names : (names : List (List ℕ)) → AreNames names → AreNames (or_initial names)
or_initial_names [] are = (initial_name, tt)
or_initial_names (name ∷ names) are = are

-- ---- a file

same_names : (ps : List NamedPart) (fs : List FileRule) (rs : List ModeRule) → AreModeRules ps fs rs → map (λ f. f.rule.name.now) fs ≡ names_of (rules_of rs)
same_names ps [] [] are = refl
same_names ps (f ∷ fs) (r ∷ rs) are =
    let name : f.rule.name.now ≡ r.rule.name.now = ap (λ rule. rule.name.now) (sym are.0.rule) in
    ap (λ (n : List ℕ). n ∷ map (λ f. f.rule.name.now) fs) name ∙ ap (λ (ns : List (List ℕ)). r.rule.name.now ∷ ns) (same_names ps fs rs are.1)
same_names ps [] (r ∷ rs) are = absurd are
same_names ps (f ∷ fs) [] are = absurd are

-- the names of its modes and rules are safe
pub file_names_are_safe : (ls modes : List (List ℕ)) (ps : List NamedPart) (fs : List FileRule) (rs : List ModeRule) → AreRules ls modes fs → AreFileRules ps fs rs
    → All IsSafe modes × All IsSafe (names_of (rules_of rs))
file_names_are_safe ls modes ps fs rs are of =
    let say = lines_say_names ls are.said are.lines_say in
    let safe : All IsSafe (map (λ f. f.rule.name.now) fs) = names_are_safe _ (rule_names modes initial are.said fs are.are_rules say) in
    let named : AreNames (modes_of are.said) = or_initial_names _ (firsts_names _ (named_below_names initial are.said (initial_name, tt) say)) in
    (subst (All IsSafe) (sym are.are_modes) (names_are_safe _ named), subst (All IsSafe) (same_names ps fs rs of.rules) safe)
