-- The first mode in an action that the file doesn't have stands at one place.
use Rattle.std.proofs.Common.{◌≡◌, ℕ, zero, suc, List, [], ◌∷◌, ◌++◌, codes, refl, sym, ap, subst, ◌∙◌, append_assoc, append-nil, inl, inr, Contains, ◌⊎◌, ◌+◌, length, length-append, true, arith}
use Rattle.bajofeki_rules.specs.Position.{position_of}
use Rattle.lalrpop_rule_file.specs.Words.{IsSpan, begins, begins_name, is_blank, is_of_name}
use Rattle.lalrpop_rule_file.specs.RuleLine.{Entry, Head, Written, Enters, Pops, WrittenRule, WrittenPart, Part, Start, Headed, Named, Entering, Equals, InAnyCase, From, Unjoined, Defining, Defines, Defined, Open, Closed, a_blank, a_bracket, a_mode, a_star, an_end, a_star_end, a_name, a_skip, a_pop, an_entry, its_mode, an_equals, a_part, its_equals, its_pattern, an_open_pattern, a_precedence, a_text, an_open_text, an_any_case, its_literal, an_open_literal, a_from, from_to, an_open_to, no_to, Reads, nothing, lexeme_then}
use Rattle.lalrpop_rule_file.specs.FileModes.{Said, Nothing, Heading, Define, Rule, AllLeadWithin}
use Rattle.lalrpop_rule_file.specs.RuleFile.{without_return, IsBlankOrComment, IsFirstNoMode, IsNoMode, LinesSay}
use Rattle.lalrpop_rule_file.proofs.Lexemes.{IsStuck, Lexeme-unique, blanks_read, end_is_stuck, joined, part_is_stuck, section_is_stuck}
use Rattle.lalrpop_rule_file.proofs.Spans.{IsSpan-unique}
use Rattle.lalrpop_rule_file.proofs.RuleLaws.{no_name_at_hash, no_name_in_nothing}

-- reading goes on from where some of it has come
pub through : {p q r : Part} {text mid rest : List ℕ} → Reads p text q mid → Reads p text r rest → IsStuck r rest → Reads q mid r rest
through nothing h stuck = h
through (lexeme_then s more) nothing stuck = absurd (stuck _ _ s)
through (lexeme_then {mid = mid} s more) (lexeme_then {q = q} {r = r} {mid = here} {rest = rest} t own) stuck =
    let same = Lexeme-unique s t in
    let back : Reads q mid r rest = subst (λ (x : List ℕ). Reads q x r rest) (sym same.1) own in
    through more (subst (λ (x : Part). Reads x mid r rest) (sym same.0) back) stuck

-- ---- after a name

abbrev IsOfRule : Part → Type 0
IsOfRule (Named head) = Unit {0}
IsOfRule (Entering head entry) = Unit {0}
IsOfRule (Equals head written) = Unit {0}
IsOfRule (InAnyCase head written) = Unit {0}
IsOfRule (From head written) = Unit {0}
IsOfRule (Closed rule) = Unit {0}
IsOfRule (Defining name) = Unit {0}
IsOfRule (Defines name) = Unit {0}
IsOfRule (Defined part) = Unit {0}
IsOfRule Unjoined = Unit {0}
IsOfRule Open = Unit {0}
IsOfRule p = ⊥

-- they are followed by such parts alone
of_rule : {p q : Part} {text rest : List ℕ} → Reads p text q rest → IsOfRule p → IsOfRule q
of_rule nothing here = here
of_rule (lexeme_then (a_blank h) more) here = of_rule more here
of_rule (lexeme_then a_bracket more) here = absurd here
of_rule (lexeme_then (a_mode h span) more) here = absurd here
of_rule (lexeme_then a_star more) here = absurd here
of_rule (lexeme_then an_end more) here = absurd here
of_rule (lexeme_then a_star_end more) here = absurd here
of_rule (lexeme_then (a_name h span) more) here = absurd here
of_rule (lexeme_then (a_skip span) more) here = of_rule more tt
of_rule (lexeme_then (a_pop span) more) here = of_rule more tt
of_rule (lexeme_then (an_entry entry span) more) here = of_rule more tt
of_rule (lexeme_then (its_mode h span) more) here = of_rule more tt
of_rule (lexeme_then an_equals more) here = of_rule more tt
of_rule (lexeme_then (a_part span) more) here = of_rule more tt
of_rule (lexeme_then its_equals more) here = of_rule more tt
of_rule (lexeme_then (its_pattern lacks) more) here = of_rule more tt
of_rule (lexeme_then (an_open_pattern lacks) more) here = of_rule more tt
of_rule (lexeme_then (a_precedence span h) more) here = of_rule more tt
of_rule (lexeme_then (a_text form lacks) more) here = of_rule more tt
of_rule (lexeme_then (an_open_text form lacks) more) here = of_rule more tt
of_rule (lexeme_then (an_any_case span) more) here = of_rule more tt
of_rule (lexeme_then (its_literal lacks) more) here = of_rule more tt
of_rule (lexeme_then (an_open_literal lacks) more) here = of_rule more tt
of_rule (lexeme_then (a_from span) more) here = of_rule more tt
of_rule (lexeme_then (from_to is lacks) more) here = of_rule more tt
of_rule (lexeme_then (an_open_to is lacks) more) here = of_rule more tt
of_rule (lexeme_then (no_to none span) more) here = of_rule more tt

-- ---- their actions

-- all of them are those of the part, and more
abbrev Extends : Part → List Written → Type 0
Extends (Named head) all = (more : List Written) × (all ≡ head.actions ++ more)
Extends (Entering head entry) all = (more : List Written) × (all ≡ head.actions ++ more)
Extends (Equals head written) all = (more : List Written) × (all ≡ head.actions ++ more)
Extends (InAnyCase head written) all = (more : List Written) × (all ≡ head.actions ++ more)
Extends (From head written) all = (more : List Written) × (all ≡ head.actions ++ more)
Extends (Closed rule) all = (more : List Written) × (all ≡ rule.head.actions ++ more)
Extends (Defining name) all = all ≡ []
Extends (Defines name) all = all ≡ []
Extends (Defined part) all = all ≡ []
Extends Unjoined all = ⊥
Extends Open all = ⊥
Extends p all = Unit {0}

one_before : (acts : List Written) (a : Written) (all : List Written) → (more : List Written) × (all ≡ (acts ++ a ∷ []) ++ more) → (more : List Written) × (all ≡ acts ++ more)
one_before acts a all (more, is) = (a ∷ more, is ∙ append_assoc acts (a ∷ []) more)

none_more : (acts : List Written) → (more : List Written) × (acts ≡ acts ++ more)
none_more acts = ([], sym (append-nil acts))

-- what extends a part extends those before it
extends : {p q : Part} {text rest : List ℕ} (all : List Written) → Reads p text q rest → Extends q all → Extends p all
extends all nothing h = h
extends all (lexeme_then (a_blank e) more) h = extends all more h
extends all (lexeme_then a_bracket more) h = tt
extends all (lexeme_then (a_mode e span) more) h = tt
extends all (lexeme_then a_star more) h = tt
extends all (lexeme_then an_end more) h = tt
extends all (lexeme_then a_star_end more) h = tt
extends all (lexeme_then (a_name e span) more) h = tt
extends all (lexeme_then (a_skip span) more) h = extends all more h
extends all (lexeme_then (a_pop {head = head} span) more) h = one_before head.actions Pops all (extends all more h)
extends all (lexeme_then (an_entry entry span) more) h = extends all more h
extends all (lexeme_then (its_mode {head = head} {entry = entry} {mode = mode} e span) more) h = one_before head.actions (Enters entry mode) all (extends all more h)
extends all (lexeme_then an_equals more) h = extends all more h
extends all (lexeme_then (a_part span) more) h = ([], extends all more h)
extends all (lexeme_then its_equals more) h = extends all more h
extends all (lexeme_then (its_pattern lacks) more) h = extends all more h
extends all (lexeme_then (an_open_pattern lacks) more) h = absurd (extends all more h)
extends all (lexeme_then (a_precedence span e) more) h = extends all more h
extends all (lexeme_then (a_text form lacks) more) h = extends all more h
extends all (lexeme_then (an_open_text form lacks) more) h = absurd (extends all more h)
extends all (lexeme_then (an_any_case span) more) h = extends all more h
extends all (lexeme_then (its_literal lacks) more) h = extends all more h
extends all (lexeme_then (an_open_literal lacks) more) h = absurd (extends all more h)
extends all (lexeme_then (a_from span) more) h = extends all more h
extends all (lexeme_then (from_to is lacks) more) h = extends all more h
extends all (lexeme_then (an_open_to is lacks) more) h = absurd (extends all more h)
extends all (lexeme_then (no_to none span) more) h = absurd (extends all more h)

leads_there : (modes : List (List ℕ)) (acts more : List Written) (a : Written) → AllLeadWithin modes ((acts ++ a ∷ []) ++ more) → AllLeadWithin modes (a ∷ [])
leads_there modes [] more a all = (all.0, tt)
leads_there modes (w ∷ acts) more a all = leads_there modes acts more a all.1

-- a rule one of whose modes isn't there has an action that leads nowhere
pub missing_leads_nowhere : (modes : List (List ℕ)) (line : List ℕ) (column : ℕ) (rule : WrittenRule) → IsNoMode modes line column → Reads Start line (Closed rule) [] → ¬ AllLeadWithin modes rule.head.actions
missing_leads_nowhere modes line column rule h is all =
    let named = joined h.reads (lexeme_then (its_mode h.named.0 h.named.1) nothing) in
    let more = extends rule.head.actions (through named is (end_is_stuck rule)) (none_more rule.head.actions) in
    let within = subst (AllLeadWithin modes) more.1 all in
    h.missing (leads_there modes h.head.actions more.0 (Enters h.entry h.mode) within).0

some_action : (acts more : List Written) (a : Written) → [] ≡ (acts ++ a ∷ []) ++ more → ⊥
some_action [] more a e = absurd (cc)
some_action (w ∷ acts) more a e = absurd (cc)

-- a part has no actions
no_part : (modes : List (List ℕ)) (line : List ℕ) (column : ℕ) (part : WrittenPart) → IsNoMode modes line column → ¬ Reads Start line (Defined part) []
no_part modes line column part h is =
    let named = joined h.reads (lexeme_then (its_mode h.named.0 h.named.1) nothing) in
    let more = extends [] (through named is (part_is_stuck part)) refl in
    some_action h.head.actions more.0 (Enters h.entry h.mode) more.1

-- such a line is a rule
no_section : (modes : List (List ℕ)) (line : List ℕ) (column : ℕ) (p : Part) (rest : List ℕ) → IsNoMode modes line column → Reads Start line p rest → IsStuck p rest → IsOfRule p
no_section modes line column p rest h reads stuck = of_rule (through h.reads reads stuck) tt

no_nothing : (modes : List (List ℕ)) (line : List ℕ) (column : ℕ) → IsNoMode modes line column → ¬ IsBlankOrComment line
no_nothing modes line column h (inl blanks) =
    no_section modes line column Start [] h (subst (λ (x : List ℕ). Reads Start x Start []) (append-nil line) (blanks_read Start line [] blanks)) (λ q rest. no_name_in_nothing)
no_nothing modes line column h (inr (lead, (comment, (parts, blanks)))) =
    no_section modes line column Start (codes "#" ++ comment) h (subst (λ (x : List ℕ). Reads Start x Start (codes "#" ++ comment)) (sym parts) (blanks_read Start lead (codes "#" ++ comment) blanks)) (λ q rest. no_name_at_hash)

-- the first line with a mode that isn't there is one
pub IsFirstNoMode-unique : (modes : List (List ℕ)) (ls : List (List ℕ)) (said : List Said) (m n c d : ℕ) → LinesSay ls said → IsFirstNoMode modes ls said m c → IsFirstNoMode modes ls said n d → m ≡ n
IsFirstNoMode-unique modes [] [] m n c d say g h = absurd g
IsFirstNoMode-unique modes [] (s ∷ said) m n c d say g h = absurd say
IsFirstNoMode-unique modes (l ∷ ls) [] m n c d say g h = absurd say
IsFirstNoMode-unique modes (l ∷ ls) (Nothing ∷ said) zero n c d say g h = absurd g
IsFirstNoMode-unique modes (l ∷ ls) (Heading section ∷ said) zero n c d say g h = absurd g
IsFirstNoMode-unique modes (l ∷ ls) (Define part ∷ said) zero n c d say g h = absurd g
IsFirstNoMode-unique modes (l ∷ ls) (Rule w ∷ said) zero n c d say g h = absurd g
IsFirstNoMode-unique modes (l ∷ ls) (Nothing ∷ said) (suc m) zero c d say g h = absurd h
IsFirstNoMode-unique modes (l ∷ ls) (Heading section ∷ said) (suc m) zero c d say g h = absurd h
IsFirstNoMode-unique modes (l ∷ ls) (Define part ∷ said) (suc m) zero c d say g h = absurd h
IsFirstNoMode-unique modes (l ∷ ls) (Rule w ∷ said) (suc m) zero c d say g h = absurd h
IsFirstNoMode-unique modes (l ∷ ls) (Nothing ∷ said) (suc zero) n c d say g h = absurd (no_nothing modes (without_return l) c g say.0.1)
IsFirstNoMode-unique modes (l ∷ ls) (Heading section ∷ said) (suc zero) n c d say g h = absurd (no_section modes (without_return l) c (Headed section) [] g say.0.1 (section_is_stuck section))
IsFirstNoMode-unique modes (l ∷ ls) (Nothing ∷ said) (suc (suc m)) (suc zero) c d say g h = absurd (no_nothing modes (without_return l) d h say.0.1)
IsFirstNoMode-unique modes (l ∷ ls) (Heading section ∷ said) (suc (suc m)) (suc zero) c d say g h = absurd (no_section modes (without_return l) d (Headed section) [] h say.0.1 (section_is_stuck section))
IsFirstNoMode-unique modes (l ∷ ls) (Define part ∷ said) (suc zero) n c d say g h = absurd (no_part modes (without_return l) c part g say.0.1)
IsFirstNoMode-unique modes (l ∷ ls) (Define part ∷ said) (suc (suc m)) (suc zero) c d say g h = absurd (no_part modes (without_return l) d part h say.0.1)
IsFirstNoMode-unique modes (l ∷ ls) (Rule w ∷ said) (suc zero) (suc zero) c d say g h = refl
IsFirstNoMode-unique modes (l ∷ ls) (Rule w ∷ said) (suc zero) (suc (suc n)) c d say g h = absurd (missing_leads_nowhere modes (without_return l) c w g say.0.1 h.0)
IsFirstNoMode-unique modes (l ∷ ls) (Rule w ∷ said) (suc (suc m)) (suc zero) c d say g h = absurd (missing_leads_nowhere modes (without_return l) d w h say.0.1 g.0)
IsFirstNoMode-unique modes (l ∷ ls) (Nothing ∷ said) (suc (suc m)) (suc (suc n)) c d say g h = ap suc (IsFirstNoMode-unique modes ls said (suc m) (suc n) c d say.1 g h)
IsFirstNoMode-unique modes (l ∷ ls) (Heading section ∷ said) (suc (suc m)) (suc (suc n)) c d say g h = ap suc (IsFirstNoMode-unique modes ls said (suc m) (suc n) c d say.1 g h)
IsFirstNoMode-unique modes (l ∷ ls) (Define part ∷ said) (suc (suc m)) (suc (suc n)) c d say g h = ap suc (IsFirstNoMode-unique modes ls said (suc m) (suc n) c d say.1 g h)
IsFirstNoMode-unique modes (l ∷ ls) (Rule w ∷ said) (suc (suc m)) (suc (suc n)) c d say g h = ap suc (IsFirstNoMode-unique modes ls said (suc m) (suc n) c d say.1 g.1 h.1)

-- ---- the column

-- of two readings one goes on from the other
either : {p q r : Part} {text mid here : List ℕ} → Reads p text q mid → Reads p text r here → Reads q mid r here ⊎ Reads r here q mid
either nothing h = inl h
either (lexeme_then s more) nothing = inr (lexeme_then s more)
either (lexeme_then {mid = mid} s more) (lexeme_then {q = q} {r = r} {mid = own} {rest = here} t other) =
    let same = Lexeme-unique s t in
    let back : Reads q mid r here = subst (λ (x : List ℕ). Reads q x r here) (sym same.1) other in
    either more (subst (λ (x : Part). Reads x mid r here) (sym same.0) back)

letter_is_no_blank : (b : ℕ) → begins_name b ≡ true → is_blank b ≡ true → ⊥
letter_is_no_blank b g h = grind arith

-- reading goes on from a mode that isn't there only to actions with that mode
goes_on : (modes : List (List ℕ)) (head other : Head) (entry own : Entry) (here there mode rest : List ℕ) → Reads (Entering head entry) here (Entering other own) there → begins begins_name here ≡ true → IsSpan is_of_name here mode rest
    → ¬ Contains modes mode → AllLeadWithin modes other.actions → here ≡ there
goes_on modes head other entry own here there mode rest nothing begin span missing within = refl
goes_on modes head other entry own here there mode rest (lexeme_then (a_blank {b = b} h) more) begin span missing within = absurd (letter_is_no_blank b begin h)
goes_on modes head other entry own here there mode rest (lexeme_then (its_mode {mode = name} {rest = behind} h word) more) begin span missing within =
    let all = extends other.actions more (none_more other.actions) in
    let found = leads_there modes head.actions all.0 (Enters entry name) (subst (AllLeadWithin modes) all.1 within) in
    absurd (missing (subst (λ (x : List ℕ). Contains modes x) (IsSpan-unique is_of_name here name behind mode rest word span).0 found.0))

same_column : (line front here other there : List ℕ) (c d : ℕ) → line ≡ front ++ here → line ≡ other ++ there → here ≡ there → c ≡ (position_of line (length front)).column → d ≡ (position_of line (length other)).column → c ≡ d
same_column line front here other there c d parts own same g h =
    let total : length front + length here ≡ length other + length there = sym (length-append front here) ∙ ap length (sym parts ∙ own) ∙ length-append other there in
    let rests : length here ≡ length there = ap length same in
    let fronts : length front ≡ length other = omega (arith, total, rests) in
    g ∙ ap (λ (n : ℕ). (position_of line n).column) fronts ∙ sym h

-- and in one column
pub IsNoMode-unique : (modes : List (List ℕ)) (line : List ℕ) (c d : ℕ) → IsNoMode modes line c → IsNoMode modes line d → c ≡ d
IsNoMode-unique modes line c d g h = by (either g.reads h.reads)
  where
    by : Reads (Entering g.head g.entry) g.here (Entering h.head h.entry) h.here ⊎ Reads (Entering h.head h.entry) h.here (Entering g.head g.entry) g.here → c ≡ d
    by (inl on) =
        same_column line g.front g.here h.front h.here c d g.parts h.parts (goes_on modes g.head h.head g.entry h.entry g.here h.here g.mode g.rest on g.named.0 g.named.1 g.missing h.within) g.counted h.counted
    by (inr on) =
        same_column line g.front g.here h.front h.here c d g.parts h.parts (sym (goes_on modes h.head g.head h.entry g.entry h.here g.here h.mode h.rest on h.named.0 h.named.1 h.missing g.within)) g.counted h.counted
