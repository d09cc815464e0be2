-- A file without sections, actions and parts has one mode, INITIAL, in which all its rules stand, without actions.
use Rattle.std.proofs.Common.{◌≡◌, ℕ, zero, suc, Bool, List, [], ◌∷◌, ◌++◌, map, get_or, drop, refl, sym, ap, subst, ◌∙◌, Option, Some, None, ◌⊎◌, inl, inr}
use Rattle.std.specs.Prelude.{codes, slice_get}
use Rattle.bajofeki_rules.specs.declared.action.Action.{Action}
use Rattle.lalrpop_rule_file.specs.LineText.{Form, Literal, Escaped, Pattern, Quoted, delimiter, precedence_or}
use Rattle.lalrpop_rule_file.specs.RuleLine.{Written, rule_of, Part, Start, Named, Equals, Closed, Lexeme, a_blank, a_name, a_skip, an_equals, a_precedence, a_text, Reads, nothing, lexeme_then, IsRule}
use Rattle.lalrpop_rule_file.specs.FileModes.{Said, Nothing, Heading, Define, Rule, AreActions, AreModes, firsts, initial, modes_of, named_below, or_initial, without}
use Rattle.lalrpop_rule_file.specs.FileParts.{parts_above}
use Rattle.lalrpop_rule_file.specs.RuleFile.{AreRules, AreRulesBelow, LinesSay}
use Rattle.lalrpop_rule_file.specs.Internal.PlainLine.{PlainPart, PlainStart, PlainNamed, PlainEquals, PlainClosed, PlainLexeme, plain_blank, plain_name, plain_skip, plain_equals, plain_number, plain_text, PlainReads, plain_nothing, plain_then, IsPlainRule, plain_head, plain_precedence, plain_rule}
use Rattle.lalrpop_rule_file.specs.declared.file_rule.FileRule.{FileRule}
use Rattle.lalrpop_rule_file.proofs.RuleLaws.{LinesSay-unique}

-- ---- a line

abbrev part_of : PlainPart → Part
part_of PlainStart = Start
part_of (PlainNamed name skipped) = Named (plain_head name skipped)
part_of (PlainEquals name skipped written) = Equals (plain_head name skipped) written
part_of (PlainClosed name skipped precedence form text) = Closed (plain_rule name skipped precedence form text)

same_precedence : (form : Form) (written : Option ℕ) (text : List ℕ) → plain_precedence form written ≡ precedence_or (Quoted form text) written
same_precedence form (Some n) text = refl
same_precedence Literal None text = refl
same_precedence Escaped None text = refl
same_precedence Pattern None text = refl

same_end : (name : List ℕ) (skipped : Bool) (written : Option ℕ) (form : Form) (text : List ℕ) → Closed (rule_of (plain_head name skipped) written (Quoted form text)) ≡ part_of (PlainClosed name skipped (plain_precedence form written) form text)
same_end name skipped written form text =
    ap (λ (n : ℕ). Closed (plain_rule name skipped n form text)) (sym (same_precedence form written text))

lexeme_stays : {p q : PlainPart} {text rest : List ℕ} → PlainLexeme p text q rest → Lexeme (part_of p) text (part_of q) rest
lexeme_stays (plain_blank h) = a_blank h
lexeme_stays (plain_name h span) = a_name h span
lexeme_stays (plain_skip span) = a_skip span
lexeme_stays plain_equals = an_equals
lexeme_stays (plain_number span h) = a_precedence span h
lexeme_stays (plain_text {name = name} {inner = inner} {rest = rest} {skipped = skipped} {written = written} form lacks) =
    subst (λ (q : Part). Lexeme (Equals (plain_head name skipped) written) (delimiter form ∷ (inner ++ (delimiter form ∷ rest))) q rest) (same_end name skipped written form inner) (a_text {inner = inner} form lacks)

reads_stay : {p q : PlainPart} {text rest : List ℕ} → PlainReads p text q rest → Reads (part_of p) text (part_of q) rest
reads_stay plain_nothing = nothing
reads_stay (plain_then s more) = lexeme_then (lexeme_stays s) (reads_stay more)

-- a line that is a rule by the plain form is the same rule, without actions
pub plain_rule_stays : (line name : List ℕ) (skipped : Bool) (precedence : ℕ) (form : Form) (text : List ℕ) → IsPlainRule line name skipped precedence form text → IsRule line (plain_rule name skipped precedence form text)
plain_rule_stays line name skipped precedence form text h = reads_stay h

-- ---- a file

-- no line begins a section or defines a part, and no rule has an action
abbrev pub ArePlain : List Said → Type 0
ArePlain [] = Unit {0}
ArePlain (Nothing ∷ said) = ArePlain said
ArePlain (Heading section ∷ said) = ⊥
ArePlain (Define part ∷ said) = ⊥
ArePlain (Rule rule ∷ said) = (rule.head.actions ≡ []) × ArePlain said

abbrev pub only_initial : List (List ℕ)
only_initial = codes "INITIAL" ∷ []

-- it is INITIAL each time
abbrev AllInitial : List (List ℕ) → Type 0
AllInitial [] = Unit {0}
AllInitial (name ∷ names) = (name ≡ codes "INITIAL") × AllInitial names

named_initial : (said : List Said) → ArePlain said → AllInitial (named_below initial said)
named_initial [] plain = tt
named_initial (Nothing ∷ said) plain = named_initial said plain
named_initial (Heading section ∷ said) plain = absurd plain
named_initial (Define part ∷ said) plain = absurd plain
named_initial (Rule rule ∷ said) plain = (refl, named_initial said plain.1)

without_initial : (xs : List (List ℕ)) → (xs ≡ []) ⊎ (xs ≡ only_initial) → without (codes "INITIAL") xs ≡ []
without_initial xs (inl none) = ap (without (codes "INITIAL")) none
without_initial xs (inr one) = ap (without (codes "INITIAL")) one

firsts_initial : (names : List (List ℕ)) → AllInitial names → (firsts names ≡ []) ⊎ (firsts names ≡ only_initial)
firsts_initial [] all = inl refl
firsts_initial (name ∷ names) all =
    let more = firsts_initial names all.1 in
    inr (ap (λ (x : List ℕ). x ∷ without x (firsts names)) all.0 ∙ ap (λ (x : List (List ℕ)). codes "INITIAL" ∷ x) (without_initial (firsts names) more))

pub plain_modes : (said : List Said) → ArePlain said → modes_of said ≡ only_initial
plain_modes said plain = by (firsts_initial (named_below initial said) (named_initial said plain))
  where
    by : (firsts (named_below initial said) ≡ []) ⊎ (firsts (named_below initial said) ≡ only_initial) → modes_of said ≡ only_initial
    by (inl none) = ap or_initial none
    by (inr one) = ap or_initial one

-- each rule stands in INITIAL alone, does nothing to the stack of modes, and knows no parts
pub record IsPlainFileRule (r : FileRule) : Type 0 where
  pub in_modes : r.modes.items ≡ 0 ∷ []
  pub acts : r.actions.items ≡ []
  pub no_parts : r.known ≡ 0

abbrev pub AllPlain : List FileRule → Type 0
AllPlain [] = Unit {0}
AllPlain (r ∷ rs) = IsPlainFileRule r × AllPlain rs

only_number : (n : ℕ) → slice_get only_initial n ≡ Some (codes "INITIAL") → n ≡ 0
only_number zero e = refl
only_number (suc zero) e = absurd (cc)
only_number (suc (suc n)) e = absurd (cc)

one_mode : (ns : List ℕ) → AreModes only_initial initial ns → ns ≡ 0 ∷ []
one_mode [] are = absurd are
one_mode (n ∷ []) are = ap (λ (k : ℕ). k ∷ []) (only_number n are.0)
one_mode (n ∷ m ∷ ns) are = absurd are.1

no_actions : (acts : List Action) → AreActions only_initial [] acts → acts ≡ []
no_actions [] are = refl
no_actions (a ∷ acts) are = absurd are

plain_rules : (said : List Said) (rs : List FileRule) → ArePlain said → AreRulesBelow only_initial initial said rs → map (λ r. r.known) rs ≡ parts_above 0 said → AllPlain rs
plain_rules [] [] plain are known = tt
plain_rules [] (r ∷ rs) plain are known = absurd are
plain_rules (Nothing ∷ said) rs plain are known = plain_rules said rs plain are known
plain_rules (Heading section ∷ said) rs plain are known = absurd plain
plain_rules (Define part ∷ said) rs plain are known = absurd plain
plain_rules (Rule rule ∷ said) [] plain are known = absurd are
plain_rules (Rule rule ∷ said) (r ∷ rs) plain are known = (
  record {
    in_modes = one_mode r.modes.items are.0.in_modes;
    acts = no_actions r.actions.items (subst (λ (ws : List Written). AreActions only_initial ws r.actions.items) plain.0 are.0.acts);
    no_parts = ap (λ (ns : List ℕ). get_or ns 0 0) known;
  },
  plain_rules said rs plain.1 are.1 (ap (drop 1) known),
)

-- so it is for a file whose lines say nothing else
pub plain_file : (ls : List (List ℕ)) (said : List Said) (modes : List (List ℕ)) (rs : List FileRule) → LinesSay ls said → ArePlain said → AreRules ls modes rs → (modes ≡ only_initial) × AllPlain rs
plain_file ls said modes rs say plain are =
    let same : are.said ≡ said = LinesSay-unique ls are.said said are.lines_say say in
    let one : modes_of are.said ≡ only_initial = ap modes_of same ∙ plain_modes said plain in
    let below : AreRulesBelow only_initial initial said rs =
    subst (λ (x : List Said). AreRulesBelow only_initial initial x rs) same (subst (λ (x : List (List ℕ)). AreRulesBelow x initial are.said rs) (are.are_modes ∙ one) are.are_rules) in
    (are.are_modes ∙ one, plain_rules said rs plain below (are.are_known ∙ ap (parts_above 0) same))
