-- A line that is read from left to right: it is read in one way, as far as it goes.
use Rattle.std.proofs.Common.{◌≡◌, ℕ, Bool, true, List, [], ◌∷◌, ◌++◌, length, get_or, drop, codes, refl, sym, ap, subst, ◌∙◌, arith, Option, Some}
use Rattle.std.specs.Prelude.{◌<◌, ◌==◌, if◌then◌else◌}
use Rattle.std.specs.Char.{is_ascii_digit}
use Rattle.std.specs.Int.{IsInRange}
use Rattle.std.specs.Str.Parse.{AllDigits, digits_value}
use Rattle.std.proofs.lemmas.Bool.{false≢true}
use Rattle.std.proofs.lemmas.Str.Parse.{digit_from_value}
use Rattle.bajofeki_rules.specs.Precedence.{IsPrecedence}
use Rattle.lalrpop_rule_file.specs.Words.{EachByte, begins, IsSpan, AreBlanks, is_blank, begins_name, is_no_apostrophe, is_of_name, Lacks}
use Rattle.lalrpop_rule_file.specs.LineText.{Form, Literal, Escaped, Pattern, Quoted, AnyCase, FromTo, IsUpToTo, delimiter}
use Rattle.lalrpop_rule_file.specs.RuleLine.{Entry, Mode, Push, word_of, Head, Enters, bare, acting, WrittenPart, part_of, WrittenRule, rule_of, Section, Part, Listing, Headed, Named, Entering, Equals, InAnyCase, Defines, Defined, Open, Closed, Lexeme, a_blank, a_bracket, a_mode, a_star, an_end, a_star_end, a_name, a_skip, a_pop, an_entry, its_mode, an_equals, a_part, its_equals, its_pattern, an_open_pattern, a_precedence, a_text, an_open_text, an_any_case, its_literal, an_open_literal, a_from, from_to, an_open_to, no_to, Reads, nothing, lexeme_then}
use Rattle.lalrpop_rule_file.proofs.FromTos.{IsUpToTo-unique, no_first}
use Rattle.lalrpop_rule_file.proofs.Closings.{lacks_none, last_unique}
use Rattle.lalrpop_rule_file.proofs.Spans.{IsSpan-unique}

-- ---- from left to right

pub joined : {p q r : Part} {text mid rest : List ℕ} → Reads p text q mid → Reads q mid r rest → Reads p text r rest
joined nothing h = h
joined (lexeme_then s g) h = lexeme_then s (joined g h)

pub blanks_read : (p : Part) (gap rest : List ℕ) → AreBlanks gap → Reads p (gap ++ rest) p rest
blanks_read p [] rest h = nothing
blanks_read p (b ∷ gap) rest h = lexeme_then (a_blank h.0) (blanks_read p gap rest h.1)

pub span_read : (p : Part) (text gap rest : List ℕ) → IsSpan is_blank text gap rest → Reads p text p rest
span_read p text gap rest h = subst (λ (x : List ℕ). Reads p x p rest) (sym h.parts) (blanks_read p gap rest h.passes)

-- ---- in one way

is_digit : (c : ℕ) → IsInRange 48 57 c → is_ascii_digit c ≡ true
is_digit c h = grind arith

each_digit : (digits : List ℕ) → AllDigits 10 digits → EachByte is_ascii_digit digits
each_digit [] h = tt
each_digit (c ∷ cs) h = (is_digit c (digit_from_value c h.0), each_digit cs h.1)

pub begins_front : (p : ℕ → Bool) (front rest : List ℕ) → EachByte p front → 0 < length front → begins p (front ++ rest) ≡ true
begins_front p [] rest h some = absurd (omega arith)
begins_front p (b ∷ bs) rest h some = h.0

-- a precedence begins with a digit
pub precedence_begins : (text digits rest : List ℕ) (n : ℕ) → IsSpan is_ascii_digit text digits rest → IsPrecedence digits n → begins is_ascii_digit text ≡ true
precedence_begins text digits rest n span h =
    ap (begins is_ascii_digit) span.parts ∙ begins_front is_ascii_digit digits rest (each_digit digits h.numeral.1) h.numeral.0

-- what kind of byte a text begins with: a blank, a letter or `_`, `=`, a digit, or a delimiter
kind : ℕ → ℕ
kind b = if is_blank b then 0 else if begins_name b then 1 else if b == 61 then 2 else if is_ascii_digit b then 3 else 4

first_kind : List ℕ → ℕ
first_kind [] = 5
first_kind (b ∷ bs) = kind b

-- and what kind each lexeme begins with
kind_of : {p q : Part} {text rest : List ℕ} → Lexeme p text q rest → ℕ
kind_of (a_blank h) = 0
kind_of a_bracket = 4
kind_of (a_mode h span) = 1
kind_of a_star = 4
kind_of an_end = 4
kind_of a_star_end = 4
kind_of (a_name h span) = 1
kind_of (a_skip span) = 1
kind_of (a_pop span) = 1
kind_of (an_entry entry span) = 1
kind_of (its_mode h span) = 1
kind_of an_equals = 2
kind_of (a_part span) = 1
kind_of its_equals = 2
kind_of (its_pattern lacks) = 4
kind_of (an_open_pattern lacks) = 4
kind_of (a_precedence span h) = 3
kind_of (a_text form lacks) = 4
kind_of (an_open_text form lacks) = 4
kind_of (an_any_case span) = 1
kind_of (its_literal lacks) = 4
kind_of (an_open_literal lacks) = 4
kind_of (a_from span) = 1
kind_of (from_to is lacks) = 4
kind_of (an_open_to is lacks) = 4
kind_of (no_to none span) = 4

blank_kind : (b : ℕ) → is_blank b ≡ true → kind b ≡ 0
unfolding kind
blank_kind b h = rw h refl

name_kind : (b : ℕ) → begins_name b ≡ true → kind b ≡ 1
unfolding kind
name_kind b h = grind arith

digit_kind : (b : ℕ) → is_ascii_digit b ≡ true → kind b ≡ 3
unfolding kind
digit_kind b h = grind arith

delimiter_kind : (form : Form) → kind (delimiter form) ≡ 4
unfolding kind
delimiter_kind Literal = refl
delimiter_kind Escaped = refl
delimiter_kind Pattern = refl

first_is : (p : ℕ → Bool) (k : ℕ) (text : List ℕ) → ((b : ℕ) → p b ≡ true → kind b ≡ k) → begins p text ≡ true → first_kind text ≡ k
unfolding first_kind
first_is p k [] is h = absurd (false≢true h)
first_is p k (b ∷ bs) is h = is b h

first_delimiter : (form : Form) (text rest : List ℕ) → text ≡ delimiter form ∷ rest → first_kind text ≡ 4
unfolding first_kind
first_delimiter form text rest e = ap first_kind e ∙ delimiter_kind form

entry_kind : (entry : Entry) (rest : List ℕ) → first_kind (word_of entry ++ rest) ≡ 1
unfolding first_kind kind
entry_kind Mode rest = refl
entry_kind Push rest = refl

kind_is : {p q : Part} {text rest : List ℕ} (s : Lexeme p text q rest) → first_kind text ≡ kind_of s
unfolding kind_of first_kind kind
kind_is (a_blank {b = b} h) = blank_kind b h
kind_is a_bracket = refl
kind_is (a_mode {text = text} h span) = first_is begins_name 1 text name_kind h
kind_is a_star = refl
kind_is an_end = refl
kind_is a_star_end = refl
kind_is (a_name {text = text} h span) = first_is begins_name 1 text name_kind h
kind_is (a_skip span) = ap first_kind span.parts
kind_is (a_pop span) = ap first_kind span.parts
kind_is (an_entry {rest = rest} entry span) = ap first_kind span.parts ∙ entry_kind entry rest
kind_is (its_mode {text = text} h span) = first_is begins_name 1 text name_kind h
kind_is an_equals = refl
kind_is (a_part span) = ap first_kind span.parts
kind_is its_equals = refl
kind_is (its_pattern lacks) = refl
kind_is (an_open_pattern lacks) = refl
kind_is (a_precedence {text = text} {digits = digits} {rest = rest} {n = n} span h) = first_is is_ascii_digit 3 text digit_kind (precedence_begins text digits rest n span h)
kind_is (a_text form lacks) = delimiter_kind form
kind_is (an_open_text form lacks) = delimiter_kind form
kind_is (an_any_case span) = ap first_kind span.parts
kind_is (its_literal lacks) = refl
kind_is (an_open_literal lacks) = refl
kind_is (a_from span) = ap first_kind span.parts
kind_is (from_to is lacks) = refl
kind_is (an_open_to is lacks) = refl
kind_is (no_to none span) = refl

abbrev pub Same : Part → Part → List ℕ → List ℕ → Type 0
Same q r rest other = (q ≡ r) × (rest ≡ other)

-- ---- a name, and words

name_same : (f : List ℕ → Part) (text name own rest other : List ℕ) → IsSpan is_of_name text name rest → IsSpan is_of_name text own other → Same (f name) (f own) rest other
name_same f text name own rest other s t = let same = IsSpan-unique is_of_name text name rest own other s t in (ap f same.0, same.1)

-- the third letters of all words differ
third : List ℕ → ℕ
third word = get_or word 2 0

other_word : (text word own rest other : List ℕ) → IsSpan is_of_name text word rest → IsSpan is_of_name text own other → third word ≡ third own
other_word text word own rest other s t = ap third (IsSpan-unique is_of_name text word rest own other s t).0

entry_third : (entry : Entry) → (third (word_of entry) ≡ 105 → ⊥) × (third (word_of entry) ≡ 112 → ⊥) × (third (word_of entry) ≡ 114 → ⊥)
unfolding third
entry_third Mode = (λ e. omega (arith, e), λ e. omega (arith, e), λ e. omega (arith, e))
entry_third Push = (λ e. omega (arith, e), λ e. omega (arith, e), λ e. omega (arith, e))

entry_same : (entry own : Entry) → third (word_of entry) ≡ third (word_of own) → entry ≡ own
unfolding third
entry_same Mode Mode e = refl
entry_same Mode Push e = absurd (omega (arith, e))
entry_same Push Mode e = absurd (omega (arith, e))
entry_same Push Push e = refl

-- ---- a precedence, and a text

value_same : (digits other : List ℕ) (m n : ℕ) → IsPrecedence digits m → IsPrecedence other n → digits ≡ other → m ≡ n
value_same digits other m n g h same = g.value ∙ ap (λ (x : List ℕ). digits_value 10 x) same ∙ sym h.value

-- the form with this delimiter
form_by : ℕ → Form
form_by mark = if mark == 39 then Literal else if mark == 34 then Escaped else Pattern

form_back : (form : Form) → form_by (delimiter form) ≡ form
unfolding form_by
form_back Literal = refl
form_back Escaped = refl
form_back Pattern = refl

form_same : (form other : Form) (text own : List ℕ) → delimiter form ∷ text ≡ delimiter other ∷ own → (form ≡ other) × (text ≡ own)
form_same form other text own e = (sym (form_back form) ∙ ap (λ (x : List ℕ). form_by (get_or x 0 0)) e ∙ form_back other, ap (drop 1) e)

closed : Head → Option ℕ → Form → List ℕ → Part
closed head written form inner = Closed (rule_of head written (Quoted form inner))

text_same : (head : Head) (written : Option ℕ) (form other : Form) (inner own rest behind : List ℕ)
    → Lacks (delimiter form) rest → Lacks (delimiter other) behind → delimiter form ∷ (inner ++ (delimiter form ∷ rest)) ≡ delimiter other ∷ (own ++ (delimiter other ∷ behind))
    → Same (closed head written form inner) (closed head written other own) rest behind
text_same head written form other inner own rest behind g h e =
    let same = form_same form other (inner ++ (delimiter form ∷ rest)) (own ++ (delimiter other ∷ behind)) e in
    by other same.0 h same.1
  where
    by : (f : Form) → form ≡ f → Lacks (delimiter f) behind → inner ++ (delimiter form ∷ rest) ≡ own ++ (delimiter f ∷ behind)
        → Same (closed head written form inner) (closed head written f own) rest behind
    by f is lacks parts =
        let here : inner ++ (delimiter form ∷ rest) ≡ own ++ (delimiter form ∷ behind) = parts ∙ ap (λ (x : Form). own ++ (delimiter x ∷ behind)) (sym is) in
        let last = last_unique (delimiter form) inner rest own behind g (subst (λ (x : Form). Lacks (delimiter x) behind) (sym is) lacks) here in
        (ap (λ (x : Form). closed head written x inner) is ∙ ap (λ (x : List ℕ). closed head written f x) last.0, last.1)

-- a text that is left open has no second delimiter
not_both : (form other : Form) (inner own rest : List ℕ) → delimiter form ∷ (inner ++ (delimiter form ∷ rest)) ≡ delimiter other ∷ own → ¬ Lacks (delimiter other) own
not_both form other inner own rest e lacks =
    let same = form_same form other (inner ++ (delimiter form ∷ rest)) own e in
    lacks_none (delimiter form) inner rest (subst (Lacks (delimiter form)) (sym same.1) (subst (λ (f : Form). Lacks (delimiter f) own) (sym same.0) lacks))

-- so a text is read in one way
text_is_one : {head : Head} {written : Option ℕ} {q : Part} {text other : List ℕ} (form : Form) (inner rest : List ℕ) → Lexeme (Equals head written) text q other
    → text ≡ delimiter form ∷ (inner ++ (delimiter form ∷ rest)) → Lacks (delimiter form) rest → Same (closed head written form inner) q rest other
unfolding kind_of closed
text_is_one form inner rest (a_text {head = head} {inner = own} {rest = other} {written = written} f lack) e lacks =
    text_same head written form f inner own rest other lacks lack (sym e)
text_is_one form inner rest (an_open_text {inner = own} f lack) e lacks = absurd (not_both form f inner own rest (sym e) lack)
text_is_one {text = text} form inner rest g e lacks = absurd (omega (arith, kind_is g, first_delimiter form text (inner ++ (delimiter form ∷ rest)) e))

open_is_one : {head : Head} {written : Option ℕ} {q : Part} {text other : List ℕ} (form : Form) (inner : List ℕ) → Lexeme (Equals head written) text q other
    → text ≡ delimiter form ∷ inner → Lacks (delimiter form) inner → Same Open q [] other
unfolding kind_of
open_is_one form inner (a_text {inner = own} {rest = other} f lack) e lacks = absurd (not_both f form own inner other e lacks)
open_is_one form inner (an_open_text f lack) e lacks = (refl, refl)
open_is_one {text = text} form inner g e lacks = absurd (omega (arith, kind_is g, first_delimiter form text inner e))

-- ---- the pattern of a part

pattern_is_one : {name : List ℕ} {q : Part} {text other : List ℕ} (inner rest : List ℕ) → Lexeme (Defines name) text q other
    → text ≡ codes "/" ++ (inner ++ (codes "/" ++ rest)) → Lacks 47 rest → Same (Defined (part_of name inner)) q rest other
unfolding kind_of
pattern_is_one inner rest (its_pattern {name = name} {inner = own} {rest = other} lack) e lacks =
    let same = last_unique 47 inner rest own other lacks lack (sym (ap (drop 1) e)) in (ap (λ (x : List ℕ). Defined (part_of name x)) same.0, same.1)
pattern_is_one inner rest (an_open_pattern {inner = own} lack) e lacks = absurd (lacks_none 47 inner rest (subst (Lacks 47) (ap (drop 1) e) lack))
pattern_is_one {text = text} inner rest g e lacks = absurd (omega (arith, kind_is g, first_delimiter Pattern text (inner ++ (codes "/" ++ rest)) e))

open_pattern_is_one : {name : List ℕ} {q : Part} {text other : List ℕ} (inner : List ℕ) → Lexeme (Defines name) text q other → text ≡ codes "/" ++ inner → Lacks 47 inner → Same Open q [] other
unfolding kind_of
open_pattern_is_one inner (its_pattern {inner = own} {rest = other} lack) e lacks = absurd (lacks_none 47 own other (subst (Lacks 47) (sym (ap (drop 1) e)) lacks))
open_pattern_is_one inner (an_open_pattern lack) e lacks = (refl, refl)
open_pattern_is_one {text = text} inner g e lacks = absurd (omega (arith, kind_is g, first_delimiter Pattern text inner e))

-- ---- a literal in any case

literal_is_one : {head : Head} {written : Option ℕ} {q : Part} {text other : List ℕ} (inner rest : List ℕ) → Lexeme (InAnyCase head written) text q other
    → text ≡ codes "'" ++ (inner ++ (codes "'" ++ rest)) → Lacks 39 rest → Same (Closed (rule_of head written (AnyCase inner))) q rest other
unfolding kind_of
literal_is_one inner rest (its_literal {head = head} {inner = own} {rest = other} {written = written} lack) e lacks =
    let same = last_unique 39 inner rest own other lacks lack (sym (ap (drop 1) e)) in (ap (λ (x : List ℕ). Closed (rule_of head written (AnyCase x))) same.0, same.1)
literal_is_one inner rest (an_open_literal {inner = own} lack) e lacks = absurd (lacks_none 39 inner rest (subst (Lacks 39) (ap (drop 1) e) lack))
literal_is_one {text = text} inner rest g e lacks = absurd (omega (arith, kind_is g, first_delimiter Literal text (inner ++ (codes "'" ++ rest)) e))

open_literal_is_one : {head : Head} {written : Option ℕ} {q : Part} {text other : List ℕ} (inner : List ℕ) → Lexeme (InAnyCase head written) text q other
    → text ≡ codes "'" ++ inner → Lacks 39 inner → Same Open q [] other
unfolding kind_of
open_literal_is_one inner (its_literal {inner = own} {rest = other} lack) e lacks = absurd (lacks_none 39 own other (subst (Lacks 39) (sym (ap (drop 1) e)) lacks))
open_literal_is_one inner (an_open_literal lack) e lacks = (refl, refl)
open_literal_is_one {text = text} inner g e lacks = absurd (omega (arith, kind_is g, first_delimiter Literal text inner e))

-- ---- from A to B

joined_same : (head : Head) (written : Option ℕ) (inner a own b to rest other : List ℕ) → IsUpToTo inner a (b ++ (codes "'" ++ rest)) → IsUpToTo inner own (to ++ (codes "'" ++ other)) → Lacks 39 rest → Lacks 39 other
    → Same (Closed (rule_of head written (FromTo a b))) (Closed (rule_of head written (FromTo own to))) rest other
joined_same head written inner a own b to rest other s t g h =
    let same = IsUpToTo-unique inner a (b ++ (codes "'" ++ rest)) own (to ++ (codes "'" ++ other)) s t in
    let last = last_unique 39 b rest to other g h same.1 in
    (ap (λ (x : List ℕ). Closed (rule_of head written (FromTo x b))) same.0 ∙ ap (λ (x : List ℕ). Closed (rule_of head written (FromTo own x))) last.0, last.1)

not_open : (inner a own b to rest : List ℕ) → IsUpToTo inner a (b ++ (codes "'" ++ rest)) → IsUpToTo inner own to → ¬ Lacks 39 to
not_open inner a own b to rest s t lacks =
    lacks_none 39 b rest (subst (Lacks 39) (sym (IsUpToTo-unique inner a (b ++ (codes "'" ++ rest)) own to s t).1) lacks)

-- ---- one lexeme

-- at a place of a line the next lexeme is one
pub Lexeme-unique : {p q r : Part} {text rest other : List ℕ} → Lexeme p text q rest → Lexeme p text r other → Same q r rest other
unfolding kind_of third closed
Lexeme-unique (a_blank g) (a_blank h) = (refl, refl)
Lexeme-unique a_bracket a_bracket = (refl, refl)
Lexeme-unique (a_mode {modes = modes} {text = text} {mode = mode} {rest = rest} g s) (a_mode {mode = own} {rest = other} h t) =
    name_same (λ (x : List ℕ). Listing (modes ++ (x ∷ []))) text mode own rest other s t
Lexeme-unique a_star a_star = (refl, refl)
Lexeme-unique an_end an_end = (refl, refl)
Lexeme-unique a_star_end a_star_end = (refl, refl)
Lexeme-unique (a_name {text = text} {name = name} {rest = rest} g s) (a_name {name = own} {rest = other} h t) =
    name_same (λ (x : List ℕ). Named (bare x)) text name own rest other s t
Lexeme-unique (a_skip {text = text} {rest = rest} s) (a_skip {rest = other} t) = (refl, (IsSpan-unique is_of_name text (codes "skip") rest (codes "skip") other s t).1)
Lexeme-unique (a_skip {text = text} {rest = rest} s) (a_pop {rest = other} t) = absurd (omega (arith, other_word text (codes "skip") (codes "pop") rest other s t))
Lexeme-unique (a_skip {text = text} {rest = rest} s) (an_entry {rest = other} entry t) = absurd ((entry_third entry).0 (sym (other_word text (codes "skip") (word_of entry) rest other s t)))
Lexeme-unique (a_skip {text = text} {rest = rest} s) (a_part {rest = other} t) = absurd (omega (arith, other_word text (codes "skip") (codes "part") rest other s t))
Lexeme-unique (a_pop {text = text} {rest = rest} s) (a_skip {rest = other} t) = absurd (omega (arith, other_word text (codes "pop") (codes "skip") rest other s t))
Lexeme-unique (a_pop {text = text} {rest = rest} s) (a_pop {rest = other} t) = (refl, (IsSpan-unique is_of_name text (codes "pop") rest (codes "pop") other s t).1)
Lexeme-unique (a_pop {text = text} {rest = rest} s) (an_entry {rest = other} entry t) = absurd ((entry_third entry).1 (sym (other_word text (codes "pop") (word_of entry) rest other s t)))
Lexeme-unique (a_pop {text = text} {rest = rest} s) (a_part {rest = other} t) = absurd (omega (arith, other_word text (codes "pop") (codes "part") rest other s t))
Lexeme-unique (an_entry {text = text} {rest = rest} entry s) (a_skip {rest = other} t) = absurd ((entry_third entry).0 (other_word text (word_of entry) (codes "skip") rest other s t))
Lexeme-unique (an_entry {text = text} {rest = rest} entry s) (a_pop {rest = other} t) = absurd ((entry_third entry).1 (other_word text (word_of entry) (codes "pop") rest other s t))
Lexeme-unique (an_entry {text = text} {rest = rest} entry s) (a_part {rest = other} t) = absurd ((entry_third entry).2 (other_word text (word_of entry) (codes "part") rest other s t))
Lexeme-unique (a_part {text = text} {rest = rest} s) (a_skip {rest = other} t) = absurd (omega (arith, other_word text (codes "part") (codes "skip") rest other s t))
Lexeme-unique (a_part {text = text} {rest = rest} s) (a_pop {rest = other} t) = absurd (omega (arith, other_word text (codes "part") (codes "pop") rest other s t))
Lexeme-unique (a_part {text = text} {rest = rest} s) (an_entry {rest = other} entry t) = absurd ((entry_third entry).2 (sym (other_word text (codes "part") (word_of entry) rest other s t)))
Lexeme-unique (a_part {text = text} {rest = rest} s) (a_part {rest = other} t) = (refl, (IsSpan-unique is_of_name text (codes "part") rest (codes "part") other s t).1)
Lexeme-unique its_equals its_equals = (refl, refl)
Lexeme-unique (its_pattern {inner = inner} {rest = rest} lacks) h = pattern_is_one inner rest h refl lacks
Lexeme-unique (an_open_pattern {inner = inner} lacks) h = open_pattern_is_one inner h refl lacks
Lexeme-unique (an_entry {head = head} {text = text} {rest = rest} entry s) (an_entry {rest = other} own t) =
    (ap (λ (e : Entry). Entering head e) (entry_same entry own (other_word text (word_of entry) (word_of own) rest other s t)), (IsSpan-unique is_of_name text (word_of entry) rest (word_of own) other s t).1)
Lexeme-unique (its_mode {head = head} {entry = entry} {text = text} {mode = mode} {rest = rest} g s) (its_mode {mode = own} {rest = other} h t) =
    name_same (λ (x : List ℕ). Named (acting head (Enters entry x))) text mode own rest other s t
Lexeme-unique an_equals an_equals = (refl, refl)
Lexeme-unique (a_precedence {head = head} {text = text} {digits = digits} {rest = rest} {n = m} s g) (a_precedence {digits = own} {rest = other} {n = n} t h) =
    let same = IsSpan-unique is_ascii_digit text digits rest own other s t in
    (ap (λ (x : ℕ). Equals head (Some x)) (value_same digits own m n g h same.0), same.1)
Lexeme-unique (a_text {inner = inner} {rest = rest} form lacks) h = text_is_one form inner rest h refl lacks
Lexeme-unique (an_open_text {inner = inner} form lacks) h = open_is_one form inner h refl lacks
Lexeme-unique (an_any_case {text = text} {rest = rest} s) (an_any_case {rest = other} t) = (refl, (IsSpan-unique is_of_name text (codes "anycase") rest (codes "anycase") other s t).1)
Lexeme-unique (an_any_case {text = text} {rest = rest} s) (a_from {rest = other} t) = absurd (omega (arith, other_word text (codes "anycase") (codes "from") rest other s t))
Lexeme-unique (a_from {text = text} {rest = rest} s) (an_any_case {rest = other} t) = absurd (omega (arith, other_word text (codes "from") (codes "anycase") rest other s t))
Lexeme-unique (its_literal {inner = inner} {rest = rest} lacks) h = literal_is_one inner rest h refl lacks
Lexeme-unique (an_open_literal {inner = inner} lacks) h = open_literal_is_one inner h refl lacks
Lexeme-unique (a_from {text = text} {rest = rest} s) (a_from {rest = other} t) = (refl, (IsSpan-unique is_of_name text (codes "from") rest (codes "from") other s t).1)
Lexeme-unique (from_to {head = head} {inner = inner} {a = a} {b = b} {rest = rest} {written = written} s g) (from_to {a = own} {b = to} {rest = other} t h) =
    joined_same head written inner a own b to rest other s t g h
Lexeme-unique (from_to {inner = inner} {a = a} {b = b} {rest = rest} s g) (an_open_to {a = own} {b = to} t h) = absurd (not_open inner a own b to rest s t h)
Lexeme-unique (from_to {inner = inner} {a = a} {b = b} {rest = rest} s g) (no_to none t) = absurd (no_first inner a (b ++ (codes "'" ++ rest)) s none)
Lexeme-unique (an_open_to {inner = inner} {a = own} {b = to} t h) (from_to {a = a} {b = b} {rest = rest} s g) = absurd (not_open inner a own b to rest s t h)
Lexeme-unique (an_open_to s g) (an_open_to t h) = (refl, refl)
Lexeme-unique (an_open_to {inner = inner} {a = a} {b = b} s g) (no_to none t) = absurd (no_first inner a b s none)
Lexeme-unique (no_to none t) (from_to {inner = inner} {a = a} {b = b} {rest = rest} s g) = absurd (no_first inner a (b ++ (codes "'" ++ rest)) s none)
Lexeme-unique (no_to none t) (an_open_to {inner = inner} {a = a} {b = b} s g) = absurd (no_first inner a b s none)
Lexeme-unique (no_to {inner = inner} {front = front} {rest = rest} g s) (no_to {front = own} {rest = other} h t) =
    (refl, (IsSpan-unique is_no_apostrophe inner front rest own other s t).1)
Lexeme-unique g h = let e : kind_of g ≡ kind_of h = sym (kind_is g) ∙ kind_is h in absurd (omega (arith, e))

abbrev pub IsStuck : Part → List ℕ → Type 0
IsStuck p text = (q : Part) (rest : List ℕ) → ¬ Lexeme p text q rest

-- so a line is read in one way, as far as it can be
pub Reads-unique : {p q r : Part} {text rest other : List ℕ} → Reads p text q rest → Reads p text r other → IsStuck q rest → IsStuck r other → Same q r rest other
Reads-unique nothing nothing g h = (refl, refl)
Reads-unique nothing (lexeme_then s more) g h = absurd (g _ _ s)
Reads-unique (lexeme_then s more) nothing g h = absurd (h _ _ s)
Reads-unique (lexeme_then {mid = mid} s more) (lexeme_then {q = q} {r = r} {mid = here} {rest = other} t own) g h =
    let same = Lexeme-unique s t in
    let back : Reads q mid r other = subst (λ (x : List ℕ). Reads q x r other) (sym same.1) own in
    Reads-unique more (subst (λ (x : Part). Reads x mid r other) (sym same.0) back) g h

-- after a rule nothing can follow
pub end_is_stuck : (rule : WrittenRule) → IsStuck (Closed rule) []
end_is_stuck rule q rest s = elim s [ ]

-- nor after a part
pub part_is_stuck : (part : WrittenPart) → IsStuck (Defined part) []
part_is_stuck part q rest s = elim s [ ]

-- nor after a section
pub section_is_stuck : (section : Section) → IsStuck (Headed section) []
section_is_stuck section q rest s = elim s [ ]
