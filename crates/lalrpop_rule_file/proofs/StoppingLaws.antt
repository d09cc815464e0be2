-- A line stops being a rule, a part or a section at one place, for one reason, and one of these nowhere.
use Rattle.std.proofs.Common.{◌≡◌, ◌≢◌, ℕ, ◌+◌, ◌-◌, ◌⊎◌, inl, inr, Bool, true, false, List, [], ◌∷◌, ◌++◌, subst, length, refl, sym, ap, ◌∙◌, arith, length-append, Some, None}
use Rattle.std.specs.Str.{IsUtf8}
use Rattle.bajofeki_rules.specs.Position.{position_of}
use Rattle.std.specs.Char.{is_ascii_digit}
use Rattle.lalrpop_rule_file.specs.Words.{IsSpan, begins}
use Rattle.lalrpop_rule_file.specs.RuleLine.{Part, Start, Listing, Starred, Headed, Named, Entering, Equals, InAnyCase, From, Unjoined, Defining, Defines, Defined, Open, Closed, Reads, Section, WrittenPart, WrittenRule, IsPartLine, IsRule, IsSection}
use Rattle.lalrpop_rule_file.specs.FileModes.{Said, Nothing, Heading, Define, Rule}
use Rattle.lalrpop_rule_file.specs.RuleFault.{StopsBefore, fault_at}
use Rattle.lalrpop_rule_file.specs.RuleFile.{IsBlankOrComment, IsLineFault, IsTextLine, LineSays, Says, is_no_return, without_return}
use Rattle.lalrpop_rule_file.specs.declared.error.LineFault.{LineFault}
use Rattle.lalrpop_rule_file.specs.declared.error.LineFault.TheVariants.{NotUtf8, CarriageReturn, NoName, NoMode, NoBracket, AfterSection, NoEquals, PrecedenceTooLarge, NoText, NoPattern, NoLiteral, NoFrom, NoTo, NotClosed}
use Rattle.lalrpop_rule_file.specs.Internal.Stops.{IsStopped, IsUnread}
use Rattle.lalrpop_rule_file.specs.declared.stop.Unread.{Unread}
use Rattle.lalrpop_rule_file.specs.declared.stop.Unread.TheVariants.{Stopped, OutOfMemory}
use Rattle.lalrpop_rule_file.proofs.Spans.{IsSpan-unique, nothing_left}
use Rattle.lalrpop_rule_file.proofs.Stopping.{Ends, behind_front, ends_reads}
use Rattle.lalrpop_rule_file.proofs.Lexemes.{IsStuck, Reads-unique, end_is_stuck, part_is_stuck, section_is_stuck}

one_fault : (p q : Part) (rest other : List ℕ) (f g : LineFault) → p ≡ q → rest ≡ other → fault_at p rest ≡ Some f → fault_at q other ≡ Some g → f ≡ g
one_fault p q rest other f g e same a b = cc (sym a ∙ ap (λ (x : Part). fault_at x rest) e ∙ ap (fault_at q) same ∙ b)

pub StopsBefore-unique : (from : Part) (text rest other : List ℕ) (f g : LineFault) → StopsBefore from text rest f → StopsBefore from text other g → (rest ≡ other) × (f ≡ g)
StopsBefore-unique from text rest other f g a b =
    let same = Reads-unique a.reads b.reads a.stuck b.stuck in (same.1, one_fault a.part b.part rest other f g same.0 same.1 a.is_fault b.is_fault)

-- nothing is wrong at the end of a section, a part or a rule
abbrev pub IsWhole : Part → Type 0
IsWhole (Headed section) = Unit {0}
IsWhole (Defined part) = Unit {0}
IsWhole (Closed rule) = Unit {0}
IsWhole p = ⊥

pub whole_is_stuck : (p : Part) → IsWhole p → IsStuck p []
whole_is_stuck (Headed section) whole = section_is_stuck section
whole_is_stuck (Defined part) whole = part_is_stuck part
whole_is_stuck (Closed rule) whole = end_is_stuck rule
whole_is_stuck p whole = absurd whole

no_fault_there : (p : Part) (fault : LineFault) → IsWhole p → fault_at p [] ≢ Some fault
no_fault_there (Headed section) fault whole e = absurd (cc)
no_fault_there (Defined part) fault whole e = absurd (cc)
no_fault_there (Closed rule) fault whole e = absurd (cc)
no_fault_there p fault whole e = absurd whole

stops_at_no_end : (p : Part) (line rest : List ℕ) (fault : LineFault) → IsWhole p → StopsBefore Start line rest fault → ¬ Reads Start line p []
stops_at_no_end p line rest fault whole stops is =
    let same = Reads-unique stops.reads is stops.stuck (whole_is_stuck p whole) in
    no_fault_there p fault whole (ap (fault_at p) (sym same.1) ∙ ap (λ (x : Part). fault_at x rest) (sym same.0) ∙ stops.is_fault)

-- a rule stops nowhere
pub stops_at_no_rule : (line rest : List ℕ) (fault : LineFault) (rule : WrittenRule) → StopsBefore Start line rest fault → ¬ IsRule line rule
stops_at_no_rule line rest fault rule stops = stops_at_no_end (Closed rule) line rest fault tt stops

-- nor does a part
pub stops_at_no_part : (line rest : List ℕ) (fault : LineFault) (part : WrittenPart) → StopsBefore Start line rest fault → ¬ IsPartLine line part
stops_at_no_part line rest fault part stops = stops_at_no_end (Defined part) line rest fault tt stops

-- nor does a section
pub stops_at_no_section : (line rest : List ℕ) (fault : LineFault) (section : Section) → StopsBefore Start line rest fault → ¬ IsSection line section
stops_at_no_section line rest fault section stops = stops_at_no_end (Headed section) line rest fault tt stops

pub says_neither : (line rest : List ℕ) (fault : LineFault) → ¬ IsBlankOrComment line → StopsBefore Start line rest fault → (said : Said) → ¬ Says line said
says_neither line rest fault some stops Nothing says = some says
says_neither line rest fault some stops (Heading section) says = stops_at_no_section line rest fault section stops says
says_neither line rest fault some stops (Define part) says = stops_at_no_part line rest fault part stops says
says_neither line rest fault some stops (Rule rule) says = stops_at_no_rule line rest fault rule stops says

pub unread_says_neither : (line : List ℕ) (e : Unread) → ¬ IsBlankOrComment line → IsUnread Start line e → IsStopped e → (said : Said) → ¬ Says line said
unread_says_neither line (Stopped stop) some stops is = says_neither line stop.rest.now stop.fault some stops
unread_says_neither line OutOfMemory some stops is = absurd is

-- ---- the column

no_text_fault : (p : Part) (rest : List ℕ) → (fault_at p rest ≢ Some NotUtf8) × (fault_at p rest ≢ Some CarriageReturn)
no_text_fault Start rest = (λ e. absurd (cc), λ e. absurd (cc))
no_text_fault (Listing []) rest = (λ e. absurd (cc), λ e. absurd (cc))
no_text_fault (Listing (mode ∷ modes)) rest = (λ e. absurd (cc), λ e. absurd (cc))
no_text_fault Starred rest = (λ e. absurd (cc), λ e. absurd (cc))
no_text_fault (Headed section) [] = (λ e. absurd (cc), λ e. absurd (cc))
no_text_fault (Headed section) (b ∷ rest) = (λ e. absurd (cc), λ e. absurd (cc))
no_text_fault (Named head) rest = (λ e. absurd (cc), λ e. absurd (cc))
no_text_fault (Entering head entry) rest = (λ e. absurd (cc), λ e. absurd (cc))
no_text_fault (Equals head None) rest = by (begins is_ascii_digit rest) refl
  where
    by : (b : Bool) → begins is_ascii_digit rest ≡ b → (fault_at (Equals head None) rest ≢ Some NotUtf8) × (fault_at (Equals head None) rest ≢ Some CarriageReturn)
    by true h = (λ e. absurd (cc), λ e. absurd (cc))
    by false h = (λ e. absurd (cc), λ e. absurd (cc))
no_text_fault (Equals head (Some n)) rest = (λ e. absurd (cc), λ e. absurd (cc))
no_text_fault (InAnyCase head written) rest = (λ e. absurd (cc), λ e. absurd (cc))
no_text_fault (From head written) rest = (λ e. absurd (cc), λ e. absurd (cc))
no_text_fault Unjoined rest = (λ e. absurd (cc), λ e. absurd (cc))
no_text_fault (Defining name) rest = (λ e. absurd (cc), λ e. absurd (cc))
no_text_fault (Defines name) rest = (λ e. absurd (cc), λ e. absurd (cc))
no_text_fault (Defined part) [] = (λ e. absurd (cc), λ e. absurd (cc))
no_text_fault (Defined part) (b ∷ rest) = (λ e. absurd (cc), λ e. absurd (cc))
no_text_fault Open rest = (λ e. absurd (cc), λ e. absurd (cc))
no_text_fault (Closed rule) [] = (λ e. absurd (cc), λ e. absurd (cc))
no_text_fault (Closed rule) (b ∷ rest) = (λ e. absurd (cc), λ e. absurd (cc))

pub fault_of_line : (line rest content : List ℕ) (column : ℕ) (fault : LineFault) → IsTextLine line → content ≡ without_return line → StopsBefore Start content rest fault
    → column ≡ (position_of content (length content - length rest)).column → IsLineFault line column fault
fault_of_line line rest content column fault text is stops at =
    let end : Ends content rest = ends_reads stops.reads in
    let place : column ≡ (position_of content (length end.0)).column = at ∙ ap (λ (n : ℕ). (position_of content n).column) (behind_front end.0 rest content end.1) in
    by fault (subst (λ (c : List ℕ). StopsBefore Start c rest fault) is stops)
    (sym is ∙ end.1) (place ∙ ap (λ (c : List ℕ). (position_of c (length end.0)).column) is)
  where
    by : (f : LineFault) → StopsBefore Start (without_return line) rest f → without_return line ≡ (ends_reads stops.reads).0 ++ rest
        → column ≡ (position_of (without_return line) (length (ends_reads stops.reads).0)).column → IsLineFault line column f
    by NotUtf8 s parts place = absurd ((no_text_fault s.part rest).0 s.is_fault)
    by CarriageReturn s parts place = absurd ((no_text_fault s.part rest).1 s.is_fault)
    by NoName s parts place = (text, (_, (rest, (parts, (place, s)))))
    by NoMode s parts place = (text, (_, (rest, (parts, (place, s)))))
    by NoBracket s parts place = (text, (_, (rest, (parts, (place, s)))))
    by AfterSection s parts place = (text, (_, (rest, (parts, (place, s)))))
    by NoEquals s parts place = (text, (_, (rest, (parts, (place, s)))))
    by PrecedenceTooLarge s parts place = (text, (_, (rest, (parts, (place, s)))))
    by NoText s parts place = (text, (_, (rest, (parts, (place, s)))))
    by NoPattern s parts place = (text, (_, (rest, (parts, (place, s)))))
    by NoLiteral s parts place = (text, (_, (rest, (parts, (place, s)))))
    by NoFrom s parts place = (text, (_, (rest, (parts, (place, s)))))
    by NoTo s parts place = (text, (_, (rest, (parts, (place, s)))))
    by NotClosed s parts place = (text, (_, (rest, (parts, (place, s)))))

abbrev pub IsPlaced : List ℕ → ℕ → LineFault → Type 0
IsPlaced line column fault =
    IsTextLine line × ((front : List ℕ) × ((rest : List ℕ) × ((without_return line ≡ front ++ rest)
    × ((column ≡ (position_of (without_return line) (length front)).column) × StopsBefore Start (without_return line) rest fault))))

abbrev pub WhereLine : List ℕ → ℕ → LineFault → Type 0
WhereLine line column fault =
    ((fault ≡ NotUtf8) × IsLineFault line column NotUtf8) ⊎ (((fault ≡ CarriageReturn) × IsLineFault line column CarriageReturn) ⊎ IsPlaced line column fault)

pub where_line : (line : List ℕ) (column : ℕ) (fault : LineFault) → IsLineFault line column fault → WhereLine line column fault
where_line line column NotUtf8 h = inl (refl, h)
where_line line column CarriageReturn h = inr (inl (refl, h))
where_line line column NoName h = inr (inr h)
where_line line column NoMode h = inr (inr h)
where_line line column NoBracket h = inr (inr h)
where_line line column AfterSection h = inr (inr h)
where_line line column NoEquals h = inr (inr h)
where_line line column PrecedenceTooLarge h = inr (inr h)
where_line line column NoText h = inr (inr h)
where_line line column NoPattern h = inr (inr h)
where_line line column NoLiteral h = inr (inr h)
where_line line column NoFrom h = inr (inr h)
where_line line column NoTo h = inr (inr h)
where_line line column NotClosed h = inr (inr h)

both_placed : (line : List ℕ) (m n : ℕ) (f g : LineFault) → IsPlaced line m f → IsPlaced line n g → (m ≡ n) × (f ≡ g)
both_placed line m n f g (text, (front, (rest, (parts, (column, stops))))) (is_text, (lead, (other, (own, (place, ends))))) =
    let content : List ℕ = without_return line in
    let same = StopsBefore-unique Start content rest other f g stops ends in
    let total : length front + length rest ≡ length lead + length other = sym (length-append front rest) ∙ ap length (sym parts ∙ own) ∙ length-append lead other in
    let tails : length rest ≡ length other = ap length same.0 in
    let fronts : length front ≡ length lead = omega (arith, total, tails) in
    (column ∙ ap (λ (k : ℕ). (position_of content k).column) fronts ∙ sym place, same.1)

both_returns : (line : List ℕ) (m n : ℕ) → IsLineFault line m CarriageReturn → IsLineFault line n CarriageReturn → m ≡ n
both_returns line m n (utf8, (front, (rest, (span, column)))) (is_utf8, (lead, (other, (own, place)))) =
    let content : List ℕ = without_return line in
    column ∙ ap (λ (x : List ℕ). (position_of content (length x)).column) (IsSpan-unique is_no_return content front (13 ∷ rest) lead (13 ∷ other) span own).0 ∙ sym place

-- a line with such a return isn't text
not_text : (line front rest : List ℕ) → IsSpan is_no_return (without_return line) front (13 ∷ rest) → ¬ IsTextLine line
not_text line front rest span text = let none : length (13 ∷ rest) ≡ 0 = nothing_left is_no_return (without_return line) front (13 ∷ rest) span text.1 in omega (arith, none)

no_text : (line : List ℕ) (n : ℕ) → IsLineFault line n CarriageReturn → ¬ IsTextLine line
no_text line n (utf8, (front, (rest, (span, column)))) text = not_text line front rest span text

-- what is wrong with a line is one, in one column
pub IsLineFault-unique : (line : List ℕ) (m n : ℕ) (f g : LineFault) → IsLineFault line m f → IsLineFault line n g → (m ≡ n) × (f ≡ g)
IsLineFault-unique line m n f g a b = by (where_line line m f a) (where_line line n g b)
  where
    by : WhereLine line m f → WhereLine line n g → (m ≡ n) × (f ≡ g)
    by (inl x) (inl y) = (x.1.1 ∙ sym y.1.1, x.0 ∙ sym y.0)
    by (inl x) (inr (inl y)) = absurd (x.1.0 y.1.0)
    by (inl x) (inr (inr y)) = absurd (x.1.0 y.0.0)
    by (inr (inl x)) (inl y) = absurd (y.1.0 x.1.0)
    by (inr (inl x)) (inr (inl y)) = (both_returns line m n x.1 y.1, x.0 ∙ sym y.0)
    by (inr (inl x)) (inr (inr y)) = absurd (no_text line m x.1 y.0)
    by (inr (inr x)) (inl y) = absurd (y.1.0 x.0.0)
    by (inr (inr x)) (inr (inl y)) = absurd (no_text line n y.1 x.0)
    by (inr (inr x)) (inr (inr y)) = both_placed line m n f g x y

-- what no text of a line says the line doesn't say
pub says_nothing_else : (line content : List ℕ) → content ≡ without_return line → ((said : Said) → ¬ Says content said) → (said : Said) → ¬ LineSays line said
says_nothing_else line content is none said says = none said (subst (λ (x : List ℕ). Says x said) (sym is) says.1)

-- a carriage return before its end
pub return_inside : (line content front rest : List ℕ) (column : ℕ) → IsUtf8 line → content ≡ without_return line → IsSpan is_no_return content front (13 ∷ rest) → column ≡ (position_of content (length front)).column
    → ((said : Said) → ¬ LineSays line said) × IsLineFault line column CarriageReturn
return_inside line content front rest column utf8 is span place =
    let own = subst (λ (x : List ℕ). IsSpan is_no_return x front (13 ∷ rest)) is span in (
      λ said says. not_text line front rest own says.0,
      (utf8, (front, (rest, (own, place ∙ ap (λ (x : List ℕ). (position_of x (length front)).column) is)))),
    )
