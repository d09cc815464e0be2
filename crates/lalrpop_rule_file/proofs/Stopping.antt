-- How far a line is read, and where it stops.
use Rattle.std.proofs.Common.{◌≡◌, ◌≢◌, ℕ, ◌+◌, ◌-◌, ◌<◌, true, false, Option, Some, None, List, [], ◌∷◌, ◌++◌, length, codes, refl, sym, ap, subst, ◌∙◌, append_assoc, append-nil, arith, length-append, inl, inr}
use Rattle.std.specs.Char.{is_ascii_digit}
use Rattle.std.specs.Str.{IsUtf8, IsCharBoundary}
use Rattle.std.proofs.lemmas.Bool.{false≢true}
use Rattle.std.proofs.lemmas.Str.{IsCharBoundary-at_seam}
use Rattle.bajofeki_rules.specs.Precedence.{IsPrecedence}
use Rattle.lalrpop_rule_file.specs.Words.{AreBlanks, IsSpan, Lacks, begins, begins_name, is_blank, is_no_apostrophe, is_of_name}
use Rattle.lalrpop_rule_file.specs.LineText.{Form, Literal, Escaped, Pattern, Quoted, AnyCase, FromTo, IsUpToTo, NoToBefore, delimiter}
use Rattle.lalrpop_rule_file.specs.RuleLine.{Entry, Head, Pops, Enters, bare, marked, acting, WrittenRule, rule_of, word_of, Section, These, Every, Part, Start, Listing, Starred, Headed, Named, Entering, Equals, InAnyCase, From, Unjoined, Open, Closed, Lexeme, a_blank, a_bracket, a_mode, a_star, an_end, a_star_end, a_name, a_skip, a_pop, an_entry, its_mode, an_equals, a_part, its_equals, its_pattern, an_open_pattern, a_precedence, a_text, an_open_text, an_any_case, its_literal, an_open_literal, a_from, from_to, an_open_to, no_to, Reads, nothing, lexeme_then}
use Rattle.lalrpop_rule_file.specs.RuleFault.{StopsBefore, fault_at}
use Rattle.lalrpop_rule_file.specs.Internal.Stops.{IsBeforeText, IsClosed, IsListed, IsNotClosed, IsUnread, NoActionAt, ReadsText, StopsText, before_end}
use Rattle.lalrpop_rule_file.specs.declared.error.LineFault.{LineFault}
use Rattle.lalrpop_rule_file.specs.declared.error.LineFault.TheVariants.{NoName, NoMode, NoBracket, AfterSection, NoEquals, PrecedenceTooLarge, NoText, NoLiteral, NoFrom, NoTo, NotClosed}
use Rattle.lalrpop_rule_file.specs.declared.stop.Unread.{Unread}
use Rattle.lalrpop_rule_file.specs.declared.stop.Unread.TheVariants.{Stopped, OutOfMemory}
use Rattle.lalrpop_rule_file.proofs.Lexemes.{joined, blanks_read, span_read, begins_front, precedence_begins}
use Rattle.lalrpop_rule_file.proofs.Spans.{IsSpan-unique}

-- ---- the rest ends the line

abbrev pub Ends : List ℕ → List ℕ → Type 0
Ends line rest = (front : List ℕ) × (line ≡ front ++ rest)

pub ends_behind : (front text rest line : List ℕ) → line ≡ front ++ text → Ends text rest → Ends line rest
ends_behind front text rest line parts (more, is) = (front ++ more, parts ∙ ap (λ (x : List ℕ). front ++ x) is ∙ sym (append_assoc front more rest))

-- what follows B ends the line
ends_joined : (inner a b rest : List ℕ) → IsUpToTo inner a (b ++ (codes "'" ++ rest)) → Ends (codes "'" ++ inner) rest
ends_joined inner a b rest is =
    let to = is.is_to in
    let behind : List ℕ = b ++ (codes "'" ++ rest) in
    let in_b : Ends behind rest = (b ++ codes "'", sym (append_assoc b (codes "'") rest)) in
    let in_quote : Ends (codes "'" ++ behind) rest = ends_behind (codes "'") behind rest (codes "'" ++ behind) refl in_b in
    let in_second : Ends to.second rest = ends_behind to.gap2 (codes "'" ++ behind) rest to.second to.blanks2.parts in_quote in
    let in_word : Ends (codes "to" ++ to.second) rest = ends_behind (codes "to") to.second rest (codes "to" ++ to.second) refl in_second in
    let in_first : Ends to.first rest = ends_behind to.gap (codes "to" ++ to.second) rest to.first to.blanks.parts in_word in
    let in_mark : Ends is.mark rest = ends_behind (codes "'") to.first rest is.mark to.quote in_first in
    ends_behind (codes "'" ++ a) is.mark rest (codes "'" ++ inner) (ap (λ (x : List ℕ). 39 ∷ x) is.parts) in_mark

pub ends_lexeme : {p q : Part} {text rest : List ℕ} → Lexeme p text q rest → Ends text rest
ends_lexeme (a_blank {b = b} h) = (b ∷ [], refl)
ends_lexeme a_bracket = (codes "[", refl)
ends_lexeme (a_mode {mode = mode} h span) = (mode, span.parts)
ends_lexeme a_star = (codes "*", refl)
ends_lexeme an_end = (codes "]", refl)
ends_lexeme a_star_end = (codes "]", refl)
ends_lexeme (a_name {name = name} h span) = (name, span.parts)
ends_lexeme (a_skip span) = (codes "skip", span.parts)
ends_lexeme (a_pop span) = (codes "pop", span.parts)
ends_lexeme (an_entry entry span) = (word_of entry, span.parts)
ends_lexeme (its_mode {mode = mode} h span) = (mode, span.parts)
ends_lexeme an_equals = (codes "=", refl)
ends_lexeme (a_part span) = (codes "part", span.parts)
ends_lexeme its_equals = (codes "=", refl)
ends_lexeme (its_pattern {inner = inner} {rest = rest} lacks) = (codes "/" ++ (inner ++ codes "/"), ap (λ (x : List ℕ). 47 ∷ x) (sym (append_assoc inner (codes "/") rest)))
ends_lexeme (an_open_pattern {inner = inner} lacks) = (codes "/" ++ inner, sym (append-nil (codes "/" ++ inner)))
ends_lexeme (a_precedence {digits = digits} span h) = (digits, span.parts)
ends_lexeme (a_text {inner = inner} {rest = rest} form lacks) =
    let mark = delimiter form in (mark ∷ (inner ++ (mark ∷ [])), ap (λ (x : List ℕ). mark ∷ x) (sym (append_assoc inner (mark ∷ []) rest)))
ends_lexeme (an_open_text {inner = inner} form lacks) = (delimiter form ∷ inner, sym (append-nil (delimiter form ∷ inner)))
ends_lexeme (an_any_case span) = (codes "anycase", span.parts)
ends_lexeme (its_literal {inner = inner} {rest = rest} lacks) = (codes "'" ++ (inner ++ codes "'"), ap (λ (x : List ℕ). 39 ∷ x) (sym (append_assoc inner (codes "'") rest)))
ends_lexeme (an_open_literal {inner = inner} lacks) = (codes "'" ++ inner, sym (append-nil (codes "'" ++ inner)))
ends_lexeme (a_from span) = (codes "from", span.parts)
ends_lexeme (from_to {inner = inner} {a = a} {b = b} {rest = rest} is lacks) = ends_joined inner a b rest is
ends_lexeme (an_open_to {inner = inner} is lacks) = (codes "'" ++ inner, sym (append-nil (codes "'" ++ inner)))
ends_lexeme (no_to {front = front} none span) = (codes "'" ++ front, ap (λ (x : List ℕ). 39 ∷ x) span.parts)

pub ends_reads : {p q : Part} {text rest : List ℕ} → Reads p text q rest → Ends text rest
ends_reads nothing = ([], refl)
ends_reads (lexeme_then {text = text} {mid = mid} {rest = rest} s more) = let front = ends_lexeme s in ends_behind front.0 mid rest text front.1 (ends_reads more)

pub stops_behind : {p q : Part} {text mid rest : List ℕ} {fault : LineFault} → Reads p text q mid → StopsBefore q mid rest fault → StopsBefore p text rest fault
stops_behind reads stops = record { part = stops.part; reads = joined reads stops.reads; stuck = stops.stuck; is_fault = stops.is_fault }

pub some_left : (rest : List ℕ) (P : List ℕ → Type 0) → ((b : ℕ) (bs : List ℕ) → P (b ∷ bs)) → (length rest ≡ 0 → ⊥) → P rest
some_left [] P more none = absurd (none refl)
some_left (b ∷ bs) P more none = more b bs

-- what isn't read after some lexemes isn't read before them
pub unread_behind : {p q : Part} {text mid : List ℕ} (e : Unread) → Reads p text q mid → IsUnread q mid e → IsUnread p text e
unread_behind (Stopped stop) reads h = stops_behind reads h
unread_behind OutOfMemory reads h = tt

-- ---- a name, and `skip`

no_name_here : {q : Part} {text rest : List ℕ} → begins is_blank text ≡ false → begins begins_name text ≡ false → ((right : List ℕ) → text ≢ codes "[" ++ right) → ¬ Lexeme Start text q rest
no_name_here blank none section (a_blank h) = false≢true (sym blank ∙ h)
no_name_here blank none section (a_bracket {rest = rest}) = section rest refl
no_name_here blank none section (a_name h span) = false≢true (sym none ∙ h)

pub no_name : (line lead here : List ℕ) → IsSpan is_blank line lead here → begins begins_name here ≡ false → ((gap right : List ℕ) → ¬ IsSpan is_blank line gap (codes "[" ++ right)) → StopsBefore Start line here NoName
no_name line lead here span none no_section = record {
  part = Start;
  reads = span_read Start line lead here span;
  stuck = λ q rest. no_name_here span.stops none (λ right e. no_section lead right (subst (λ (x : List ℕ). IsSpan is_blank line lead x) e span));
  is_fault = refl;
}

pub named : (line lead here name behind gap rest : List ℕ) → IsSpan is_blank line lead here → begins begins_name here ≡ true → IsSpan is_of_name here name behind → IsSpan is_blank behind gap rest
    → Reads Start line (Named (bare name)) rest
named line lead here name behind gap rest span begin word blanks = joined (span_read Start line lead here span) (lexeme_then (a_name begin word) (span_read (Named (bare name)) behind gap rest blanks))

pub skipped : (text behind gap here : List ℕ) → IsSpan is_of_name text (codes "skip") behind → IsSpan is_blank behind gap here → (name : List ℕ) → Reads (Named (bare name)) text (Named (marked name)) here
skipped text behind gap here word blanks name = lexeme_then (a_skip word) (span_read (Named (marked name)) behind gap here blanks)

-- ---- actions

pub popped : (text behind gap rest : List ℕ) → IsSpan is_of_name text (codes "pop") behind → IsSpan is_blank behind gap rest → (head : Head) → Reads (Named head) text (Named (acting head Pops)) rest
popped text behind gap rest word blanks head = lexeme_then (a_pop word) (span_read (Named (acting head Pops)) behind gap rest blanks)

pub entered : (entry : Entry) (text lead here mode behind gap rest : List ℕ) → IsSpan is_blank text lead here → begins begins_name here ≡ true → IsSpan is_of_name here mode behind → IsSpan is_blank behind gap rest
    → (head : Head) → Reads (Entering head entry) text (Named (acting head (Enters entry mode))) rest
entered entry text lead here mode behind gap rest span begin word blanks head =
    joined (span_read (Entering head entry) text lead here span) (lexeme_then (its_mode begin word) (span_read (Named (acting head (Enters entry mode))) behind gap rest blanks))

no_mode_here : {head : Head} {entry : Entry} {q : Part} {text rest : List ℕ} → begins is_blank text ≡ false → begins begins_name text ≡ false → ¬ Lexeme (Entering head entry) text q rest
no_mode_here blank none (a_blank h) = false≢true (sym blank ∙ h)
no_mode_here blank none (its_mode h span) = false≢true (sym none ∙ h)

pub no_mode : (entry : Entry) (text lead here : List ℕ) → IsSpan is_blank text lead here → begins begins_name here ≡ false → (head : Head) → StopsBefore (Entering head entry) text here NoMode
no_mode entry text lead here span none head =
    record { part = Entering head entry; reads = span_read (Entering head entry) text lead here span; stuck = λ q rest. no_mode_here span.stops none; is_fault = refl }

-- ---- the `=`

no_equals_here : {head : Head} {q : Part} {text rest : List ℕ} → begins is_blank text ≡ false → ((right : List ℕ) → text ≢ codes "=" ++ right) → NoActionAt text
    → ((name : List ℕ) → head ≡ bare name → (behind : List ℕ) → ¬ IsSpan is_of_name text (codes "skip") behind)
    → ((name : List ℕ) → head ≡ bare name → (behind : List ℕ) → ¬ IsSpan is_of_name text (codes "part") behind) → ¬ Lexeme (Named head) text q rest
no_equals_here blank none no_action no_skip no_part (a_blank h) = false≢true (sym blank ∙ h)
no_equals_here blank none no_action no_skip no_part (a_skip {name = name} {rest = rest} span) = no_skip name refl rest span
no_equals_here blank none no_action no_skip no_part (a_pop {rest = rest} span) = (no_action rest).0 span
no_equals_here blank none no_action no_skip no_part (an_entry {rest = rest} entry span) = (no_action rest).1 entry span
no_equals_here blank none no_action no_skip no_part (an_equals {rest = rest}) = none rest refl
no_equals_here blank none no_action no_skip no_part (a_part {name = name} {rest = rest} span) = no_part name refl rest span

pub no_equals : (from : Part) (line : List ℕ) (head : Head) (here rest : List ℕ) (fault : LineFault) → Reads from line (Named head) here → begins is_blank here ≡ false → ((right : List ℕ) → here ≢ codes "=" ++ right)
    → NoActionAt here → ((name : List ℕ) → head ≡ bare name → (behind : List ℕ) → ¬ IsSpan is_of_name here (codes "skip") behind)
    → ((name : List ℕ) → head ≡ bare name → (behind : List ℕ) → ¬ IsSpan is_of_name here (codes "part") behind) → (fault ≡ NoEquals) × (rest ≡ here) → StopsBefore from line rest fault
no_equals from line head here rest fault reads blank none no_action no_skip no_part is =
    let stops : StopsBefore from line here NoEquals = record { part = Named head; reads = reads; stuck = λ q behind. no_equals_here blank none no_action no_skip no_part; is_fault = refl } in
    subst (λ (f : LineFault). StopsBefore from line rest f) (sym is.0) (subst (λ (x : List ℕ). StopsBefore from line x NoEquals) (sym is.1) stops)

pub equals : (from : Part) (line : List ℕ) (head : Head) (here right : List ℕ) → Reads from line (Named head) here → here ≡ codes "=" ++ right → Reads from line (Equals head None) right
equals from line head here right reads parts =
    joined reads (subst (λ (x : List ℕ). Reads (Named head) x (Equals head None) right) (sym parts) (lexeme_then an_equals nothing))

-- ---- a section

pub bracket : (line lead right : List ℕ) → IsSpan is_blank line lead (codes "[" ++ right) → Reads Start line (Listing []) right
bracket line lead right span = joined (span_read Start line lead (codes "[" ++ right) span) (lexeme_then a_bracket nothing)

pub starred : (text behind gap rest : List ℕ) → text ≡ 42 ∷ behind → IsSpan is_blank behind gap rest → Reads (Listing []) text Starred rest
starred text behind gap rest parts blanks =
    subst (λ (x : List ℕ). Reads (Listing []) x Starred rest) (sym parts) (lexeme_then a_star (span_read Starred behind gap rest blanks))

pub one_mode : (modes : List (List ℕ)) (text mode behind gap rest : List ℕ) → begins begins_name text ≡ true → IsSpan is_of_name text mode behind → IsSpan is_blank behind gap rest
    → Reads (Listing modes) text (Listing (modes ++ (mode ∷ []))) rest
one_mode modes text mode behind gap rest begin word blanks = lexeme_then (a_mode begin word) (span_read (Listing (modes ++ (mode ∷ []))) behind gap rest blanks)

no_list_here : {q : Part} {text rest : List ℕ} → begins is_blank text ≡ false → begins begins_name text ≡ false → ((right : List ℕ) → text ≢ 42 ∷ right) → ¬ Lexeme (Listing []) text q rest
no_list_here blank none no_star (a_blank h) = false≢true (sym blank ∙ h)
no_list_here blank none no_star (a_mode h span) = false≢true (sym none ∙ h)
no_list_here blank none no_star (a_star {rest = rest}) = no_star rest refl

pub no_list : (text : List ℕ) → begins is_blank text ≡ false → begins begins_name text ≡ false → ((right : List ℕ) → text ≢ 42 ∷ right) → StopsBefore (Listing []) text text NoMode
no_list text blank none no_star = record { part = Listing []; reads = nothing; stuck = λ q rest. no_list_here blank none no_star; is_fault = refl }

no_bracket_here : {mode : List ℕ} {modes : List (List ℕ)} {q : Part} {text rest : List ℕ} → begins is_blank text ≡ false → begins begins_name text ≡ false → ((right : List ℕ) → text ≢ 93 ∷ right)
    → ¬ Lexeme (Listing (mode ∷ modes)) text q rest
no_bracket_here blank none no_end (a_blank h) = false≢true (sym blank ∙ h)
no_bracket_here blank none no_end (a_mode h span) = false≢true (sym none ∙ h)
no_bracket_here blank none no_end (an_end {rest = rest}) = no_end rest refl

no_star_end_here : {q : Part} {text rest : List ℕ} → begins is_blank text ≡ false → ((right : List ℕ) → text ≢ 93 ∷ right) → ¬ Lexeme Starred text q rest
no_star_end_here blank no_end (a_blank h) = false≢true (sym blank ∙ h)
no_star_end_here blank no_end (a_star_end {rest = rest}) = no_end rest refl

pub no_bracket : (section : Section) (text : List ℕ) → begins is_blank text ≡ false → IsListed section text → ((right : List ℕ) → text ≢ 93 ∷ right) → StopsBefore (before_end section) text text NoBracket
no_bracket (These []) text blank listed no_end = absurd (omega (arith, listed.0))
no_bracket (These (mode ∷ modes)) text blank listed no_end =
    record { part = Listing (mode ∷ modes); reads = nothing; stuck = λ q rest. no_bracket_here blank listed.1 no_end; is_fault = refl }
no_bracket Every text blank listed no_end = record { part = Starred; reads = nothing; stuck = λ q rest. no_star_end_here blank no_end; is_fault = refl }

headed_here : (section : Section) (text behind : List ℕ) → IsListed section text → text ≡ 93 ∷ behind → Reads (before_end section) text (Headed section) behind
headed_here (These []) text behind listed parts = absurd (omega (arith, listed.0))
headed_here (These (mode ∷ modes)) text behind listed parts =
    subst (λ (x : List ℕ). Reads (Listing (mode ∷ modes)) x (Headed (These (mode ∷ modes))) behind) (sym parts) (lexeme_then an_end nothing)
headed_here Every text behind listed parts = subst (λ (x : List ℕ). Reads Starred x (Headed Every) behind) (sym parts) (lexeme_then a_star_end nothing)

pub headed : (section : Section) (text behind gap rest : List ℕ) → IsListed section text → text ≡ 93 ∷ behind → IsSpan is_blank behind gap rest → Reads (before_end section) text (Headed section) rest
headed section text behind gap rest listed parts blanks = joined (headed_here section text behind listed parts) (span_read (Headed section) behind gap rest blanks)

pub ended : (section : Section) (text behind gap rest : List ℕ) → IsListed section text → text ≡ 93 ∷ behind → IsSpan is_blank behind gap rest → length rest ≡ 0 → Reads (before_end section) text (Headed section) []
ended section text behind gap [] listed parts blanks none = headed section text behind gap [] listed parts blanks
ended section text behind gap (b ∷ rest) listed parts blanks none = absurd (omega arith)

no_more_here : {section : Section} {q : Part} {text rest : List ℕ} → begins is_blank text ≡ false → ¬ Lexeme (Headed section) text q rest
no_more_here blank (a_blank h) = false≢true (sym blank ∙ h)

pub behind_section : (section : Section) (text behind gap rest : List ℕ) → IsListed section text → text ≡ 93 ∷ behind → IsSpan is_blank behind gap rest → (length rest ≡ 0 → ⊥)
    → StopsBefore (before_end section) text rest AfterSection
behind_section section text behind gap rest listed parts blanks some = record {
  part = Headed section;
  reads = headed section text behind gap rest listed parts blanks;
  stuck = λ q other. no_more_here blanks.stops;
  is_fault = some_left rest (λ x. fault_at (Headed section) x ≡ Some AfterSection) (λ b bs. refl) some;
}

-- ---- a precedence

pub numbered : (head : Head) (text digits behind gap rest : List ℕ) (n : ℕ) → IsSpan is_ascii_digit text digits behind → IsPrecedence digits n → IsSpan is_blank behind gap rest
    → Reads (Equals head None) text (Equals head (Some n)) rest
numbered head text digits behind gap rest n span h blanks = lexeme_then (a_precedence span h) (span_read (Equals head (Some n)) behind gap rest blanks)

delimiter_is_no_digit : (form : Form) → is_ascii_digit (delimiter form) ≡ false
delimiter_is_no_digit Literal = refl
delimiter_is_no_digit Escaped = refl
delimiter_is_no_digit Pattern = refl

no_number_here : {head : Head} {q : Part} {text rest : List ℕ} → begins is_blank text ≡ false → begins is_ascii_digit text ≡ true
    → ((digits behind : List ℕ) (n : ℕ) → IsSpan is_ascii_digit text digits behind → ¬ IsPrecedence digits n) → ¬ Lexeme (Equals head None) text q rest
no_number_here blank digit none (a_blank h) = false≢true (sym blank ∙ h)
no_number_here blank digit none (a_precedence {digits = digits} {rest = rest} {n = n} span h) = none digits rest n span h
no_number_here blank digit none (a_text form lacks) = false≢true (sym (delimiter_is_no_digit form) ∙ digit)
no_number_here blank digit none (an_open_text form lacks) = false≢true (sym (delimiter_is_no_digit form) ∙ digit)
no_number_here blank digit none (an_any_case span) = false≢true (sym (ap (begins is_ascii_digit) span.parts) ∙ digit)
no_number_here blank digit none (a_from span) = false≢true (sym (ap (begins is_ascii_digit) span.parts) ∙ digit)

-- digits that write no precedence
pub no_number : (text digits behind : List ℕ) → begins is_blank text ≡ false → IsSpan is_ascii_digit text digits behind → (length digits ≡ 0 → ⊥) → ((n : ℕ) → ¬ IsPrecedence digits n)
    → StopsText None text text PrecedenceTooLarge
no_number text digits behind blank span some none head =
    let digit : begins is_ascii_digit text ≡ true = ap (begins is_ascii_digit) span.parts ∙ begins_front is_ascii_digit digits behind span.passes (positive digits some) in
    record {
      part = Equals head None;
      reads = nothing;
      stuck = λ q rest. no_number_here blank digit (λ ds more n own h. none n (subst (λ (x : List ℕ). IsPrecedence x n) (IsSpan-unique is_ascii_digit text ds more digits behind own span).0 h));
      is_fault = rw digit refl;
    }
  where
    positive : (xs : List ℕ) → (length xs ≡ 0 → ⊥) → 0 < length xs
    positive [] none = absurd (none refl)
    positive (x ∷ xs) none = omega arith

-- ---- a text

before_text : (head : Head) (written : Option ℕ) (rest : List ℕ) → IsBeforeText written rest → (begins is_blank rest ≡ false) × (fault_at (Equals head written) rest ≡ Some NoText)
before_text head None rest h = (h.0, rw h.1 refl)
before_text head (Some n) rest h = (h, refl)

no_text_here : {head : Head} {written : Option ℕ} {q : Part} {text rest : List ℕ} → IsBeforeText written text → ((form : Form) (inner : List ℕ) → text ≢ delimiter form ∷ inner)
    → ((behind : List ℕ) → ¬ IsSpan is_of_name text (codes "anycase") behind) → ((behind : List ℕ) → ¬ IsSpan is_of_name text (codes "from") behind) → ¬ Lexeme (Equals head written) text q rest
no_text_here {head = head} {written = written} before none no_any_case no_from (a_blank {b = b} {rest = rest} h) = false≢true (sym (before_text head written (b ∷ rest) before).0 ∙ h)
no_text_here before none no_any_case no_from (a_precedence {text = text} {digits = digits} {rest = rest} {n = n} span h) = false≢true (sym before.1 ∙ precedence_begins text digits rest n span h)
no_text_here before none no_any_case no_from (a_text form lacks) = none form _ refl
no_text_here before none no_any_case no_from (an_open_text form lacks) = none form _ refl
no_text_here before none no_any_case no_from (an_any_case {rest = rest} span) = no_any_case rest span
no_text_here before none no_any_case no_from (a_from {rest = rest} span) = no_from rest span

-- no delimiter, and neither `anycase` nor `from`
pub no_text : (rest : List ℕ) → ((form : Form) (inner : List ℕ) → rest ≢ delimiter form ∷ inner) → ((behind : List ℕ) → ¬ IsSpan is_of_name rest (codes "anycase") behind)
    → ((behind : List ℕ) → ¬ IsSpan is_of_name rest (codes "from") behind) → (written : Option ℕ) → IsBeforeText written rest → StopsText written rest rest NoText
no_text rest none no_any_case no_from written before head =
    record { part = Equals head written; reads = nothing; stuck = λ q behind. no_text_here before none no_any_case no_from; is_fault = (before_text head written rest before).1 }

no_blank_here : {rule : WrittenRule} {q : Part} {text rest : List ℕ} → begins is_blank text ≡ false → ¬ Lexeme (Closed rule) text q rest
no_blank_here blank (a_blank h) = false≢true (sym blank ∙ h)

pub all_blanks : (p : Part) (gap : List ℕ) → AreBlanks gap → Reads p gap p []
all_blanks p gap h = subst (λ (x : List ℕ). Reads p x p []) (append-nil gap) (blanks_read p gap [] h)

-- after a text more than blanks stands
closed_before : (rule : WrittenRule) (from : Part) (text trail gap rest : List ℕ) → Reads from text (Closed rule) trail → IsSpan is_blank trail gap rest → 0 < length rest → StopsBefore from text rest NotClosed
closed_before rule from text trail gap rest reads blanks some = record {
  part = Closed rule;
  reads = joined reads (span_read (Closed rule) trail gap rest blanks);
  stuck = λ q behind. no_blank_here blanks.stops;
  is_fault = some_left rest (λ x. fault_at (Closed rule) x ≡ Some NotClosed) (λ b bs. refl) (λ e. omega (arith, e, some));
}

pub open_stops : (from : Part) (text rest : List ℕ) → Reads from text Open [] → rest ≡ [] → StopsBefore from text rest NotClosed
open_stops from text rest reads none =
    subst (λ (x : List ℕ). StopsBefore from text x NotClosed) (sym none) (record { part = Open; reads = reads; stuck = λ q other s. elim s [ ]; is_fault = refl })

-- ---- a literal or a pattern

quoted_here : (form : Form) (inner text trail : List ℕ) → inner ≡ text ++ (delimiter form ∷ trail) → Lacks (delimiter form) trail → (written : Option ℕ) (head : Head)
    → Reads (Equals head written) (delimiter form ∷ inner) (Closed (rule_of head written (Quoted form text))) trail
quoted_here form inner text trail parts lacks written head =
    let end : Part = Closed (rule_of head written (Quoted form text)) in
    subst (λ (x : List ℕ). Reads (Equals head written) (delimiter form ∷ x) end trail) (sym parts) (lexeme_then (a_text form lacks) nothing)

pub quoted : (form : Form) (inner text : List ℕ) → IsClosed (delimiter form) inner text → (written : Option ℕ) → ReadsText written (delimiter form ∷ inner) (Quoted form text)
quoted form inner text (trail, (parts, lacks, blanks)) written head =
    joined (quoted_here form inner text trail parts lacks written head) (all_blanks (Closed (rule_of head written (Quoted form text))) trail blanks)

pub not_quoted : (form : Form) (inner rest : List ℕ) → IsNotClosed (delimiter form) inner rest → (written : Option ℕ) → StopsText written (delimiter form ∷ inner) rest NotClosed
not_quoted form inner rest (inl (lacks, none)) written head = open_stops (Equals head written) (delimiter form ∷ inner) rest (lexeme_then (an_open_text form lacks) nothing) none
not_quoted form inner rest (inr (text, (trail, (gap, (parts, lacks, blanks, some))))) written head =
    closed_before (rule_of head written (Quoted form text)) (Equals head written) (delimiter form ∷ inner) trail gap rest (quoted_here form inner text trail parts lacks written head) blanks some

-- ---- a literal in any case

literal_here : (inner text trail : List ℕ) → inner ≡ text ++ (39 ∷ trail) → Lacks 39 trail → (head : Head) (written : Option ℕ)
    → Reads (InAnyCase head written) (codes "'" ++ inner) (Closed (rule_of head written (AnyCase text))) trail
literal_here inner text trail parts lacks head written =
    let end : Part = Closed (rule_of head written (AnyCase text)) in
    subst (λ (x : List ℕ). Reads (InAnyCase head written) (codes "'" ++ x) end trail) (sym parts) (lexeme_then (its_literal lacks) nothing)

pub in_any_case : (inner text : List ℕ) → IsClosed 39 inner text → (head : Head) (written : Option ℕ) → Reads (InAnyCase head written) (codes "'" ++ inner) (Closed (rule_of head written (AnyCase text))) []
in_any_case inner text (trail, (parts, lacks, blanks)) head written =
    joined (literal_here inner text trail parts lacks head written) (all_blanks (Closed (rule_of head written (AnyCase text))) trail blanks)

pub open_in_any_case : (inner rest : List ℕ) → IsNotClosed 39 inner rest → (head : Head) (written : Option ℕ) → StopsBefore (InAnyCase head written) (codes "'" ++ inner) rest NotClosed
open_in_any_case inner rest (inl (lacks, none)) head written = open_stops (InAnyCase head written) (codes "'" ++ inner) rest (lexeme_then (an_open_literal lacks) nothing) none
open_in_any_case inner rest (inr (text, (trail, (gap, (parts, lacks, blanks, some))))) head written =
    closed_before (rule_of head written (AnyCase text)) (InAnyCase head written) (codes "'" ++ inner) trail gap rest (literal_here inner text trail parts lacks head written) blanks some

no_literal_here : {head : Head} {written : Option ℕ} {q : Part} {text rest : List ℕ} → begins is_blank text ≡ false → ((inner : List ℕ) → text ≢ 39 ∷ inner) → ¬ Lexeme (InAnyCase head written) text q rest
no_literal_here blank none (a_blank h) = false≢true (sym blank ∙ h)
no_literal_here blank none (its_literal {inner = inner} {rest = rest} lacks) = none (inner ++ (codes "'" ++ rest)) refl
no_literal_here blank none (an_open_literal {inner = inner} lacks) = none inner refl

pub no_literal : (text lead here : List ℕ) → IsSpan is_blank text lead here → ((inner : List ℕ) → here ≢ 39 ∷ inner) → (head : Head) (written : Option ℕ) → StopsBefore (InAnyCase head written) text here NoLiteral
no_literal text lead here span none head written =
    record { part = InAnyCase head written; reads = span_read (InAnyCase head written) text lead here span; stuck = λ q rest. no_literal_here span.stops none; is_fault = refl }

-- ---- from A to B

up_to : (inner a rest own : List ℕ) → rest ≡ own → IsUpToTo inner a rest → IsUpToTo inner a own
up_to inner a rest own same is = subst (λ (x : List ℕ). IsUpToTo inner a x) same is

pub from_a_to_b : (inner a rest b : List ℕ) → IsUpToTo inner a rest → IsClosed 39 rest b → (head : Head) (written : Option ℕ) → Reads (From head written) (codes "'" ++ inner) (Closed (rule_of head written (FromTo a b))) []
from_a_to_b inner a rest b is (trail, (parts, lacks, blanks)) head written =
    lexeme_then (from_to (up_to inner a rest (b ++ (codes "'" ++ trail)) parts is) lacks) (all_blanks (Closed (rule_of head written (FromTo a b))) trail blanks)

pub no_b : (inner a rest here : List ℕ) → IsUpToTo inner a rest → IsNotClosed 39 rest here → (head : Head) (written : Option ℕ) → StopsBefore (From head written) (codes "'" ++ inner) here NotClosed
no_b inner a rest here is (inl (lacks, none)) head written = open_stops (From head written) (codes "'" ++ inner) here (lexeme_then (an_open_to is lacks) nothing) none
no_b inner a rest here is (inr (b, (trail, (gap, (parts, lacks, blanks, some))))) head written =
    closed_before (rule_of head written (FromTo a b)) (From head written) (codes "'" ++ inner) trail gap here
    (lexeme_then (from_to (up_to inner a rest (b ++ (codes "'" ++ trail)) parts is) lacks) nothing) blanks some

no_to_here : {q : Part} {text rest : List ℕ} → begins is_no_apostrophe text ≡ false → ¬ Lexeme Unjoined text q rest
no_to_here none (a_blank {b = b} h) = by b h none
  where
    by : (c : ℕ) → is_blank c ≡ true → is_no_apostrophe c ≡ false → ⊥
    by c g h = grind arith

pub without_to : (inner front rest : List ℕ) → NoToBefore inner (length inner) → IsSpan is_no_apostrophe inner front rest → (head : Head) (written : Option ℕ) → StopsBefore (From head written) (codes "'" ++ inner) rest NoTo
without_to inner front rest none span head written =
    record { part = Unjoined; reads = lexeme_then (no_to none span) nothing; stuck = λ q other. no_to_here span.stops; is_fault = refl }

no_from_here : {head : Head} {written : Option ℕ} {q : Part} {text rest : List ℕ} → begins is_blank text ≡ false → ((inner : List ℕ) → text ≢ 39 ∷ inner) → ¬ Lexeme (From head written) text q rest
no_from_here blank none (a_blank h) = false≢true (sym blank ∙ h)
no_from_here blank none (from_to {inner = inner} is lacks) = none inner refl
no_from_here blank none (an_open_to {inner = inner} is lacks) = none inner refl
no_from_here blank none (no_to {inner = inner} lacks span) = none inner refl

pub no_from : (text lead here : List ℕ) → IsSpan is_blank text lead here → ((inner : List ℕ) → here ≢ 39 ∷ inner) → (head : Head) (written : Option ℕ) → StopsBefore (From head written) text here NoFrom
no_from text lead here span none head written =
    record { part = From head written; reads = span_read (From head written) text lead here span; stuck = λ q rest. no_from_here span.stops none; is_fault = refl }

-- ---- columns

-- the column of what ends some bytes is the one after what stands before it
pub behind_front : (front rest line : List ℕ) → line ≡ front ++ rest → length line - length rest ≡ length front
behind_front front rest line parts = let n : length line ≡ length front + length rest = ap length parts ∙ length-append front rest in omega (arith, n)

pub rest_begins : (line rest : List ℕ) → Ends line rest → IsUtf8 rest → IsCharBoundary line (length line - length rest)
rest_begins line rest (front, parts) utf8 = subst (λ (n : ℕ). IsCharBoundary line n) (sym (behind_front front rest line parts)) (IsCharBoundary-at_seam line front rest parts utf8)
