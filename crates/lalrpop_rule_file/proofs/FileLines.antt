-- What the lines of a file say, line by line.
use Rattle.std.proofs.Common.{◌≡◌, ℕ, suc, ◌+◌, Some, List, [], ◌∷◌, ◌++◌, length, map, refl, ap, subst, add-one, ◌<◌, ◌≤◌, sym, ◌∙◌, append_assoc, length-append, append-nil, arith}
use Rattle.std.specs.Prelude.{slice_get, ◌-◌}
use Rattle.std.proofs.Math.Seq.{get_or-append_seam}
use Rattle.std.proofs.lemmas.Option.{slice_get-get_or}
use Rattle.bajofeki_rules.specs.Lines.{lines}
use Rattle.bajofeki_rules.specs.declared.position.Position.{Position}
use Rattle.lalrpop_rule_file.specs.RuleLine.{Section, WrittenPart, WrittenRule}
use Rattle.lalrpop_rule_file.specs.FileModes.{Said, Nothing, Heading, Define, Rule, AllLeadWithin, AreModes, firsts, initial, modes_of, named_below, named_by, or_initial}
use Rattle.lalrpop_rule_file.specs.FileParts.{parts_above, parts_in}
use Rattle.lalrpop_re.specs.NamedPart.{NamedPart}
use Rattle.lalrpop_rule_file.specs.RuleFile.{AreFileParts, without_return, LineSays, LinesSay, AreRules, AreRulesBelow, ArePlaces, ArePlacesFrom, IsFileRule, IsFirstBad, IsFirstNoMode, IsNoMode, IsRuleFileError, IsTextColumn}
use Rattle.lalrpop_rule_file.specs.Internal.Lines.{AllIn, HasModes, IsErrorOfLine, IsErrorOfRule, add_names, named_at, section_after}
use Rattle.lalrpop_rule_file.specs.declared.file_rule.FileRule.{FileRule}
use Rattle.lalrpop_rule_file.specs.declared.error.RuleFileError.{RuleFileError}
use Rattle.lalrpop_rule_file.specs.declared.error.RuleFileError.TheVariants.{BadLine, BadPart, RepeatedPart, NoSuchMode, OutOfMemory}
use Rattle.lalrpop_rule_file.proofs.Actions.{map_more}
use Rattle.lalrpop_rule_file.proofs.RuleLaws.{LineSays-unique}
use Rattle.lalrpop_rule_file.proofs.Names.{add_firsts, in_append_left, in_append_right, named_are_in}

-- ---- lines

pub says_more : (ls : List (List ℕ)) (said : List Said) (line : List ℕ) (s : Said) → LinesSay ls said → LineSays line s → LinesSay (ls ++ line ∷ []) (said ++ s ∷ [])
says_more [] [] line s all says = (says, tt)
says_more [] (t ∷ said) line s all says = absurd all
says_more (l ∷ ls) [] line s all says = absurd all
says_more (l ∷ ls) (t ∷ said) line s all says = (all.0, says_more ls said line s all.1 says)

bad_behind : (ls : List (List ℕ)) (said : List Said) (line : List ℕ) (rest : List (List ℕ)) → LinesSay ls said → ((s : Said) → ¬ LineSays line s) → IsFirstBad (ls ++ line ∷ rest) (suc (length ls))
bad_behind [] [] line rest all bad = bad
bad_behind [] (t ∷ said) line rest all bad = absurd all
bad_behind (l ∷ ls) [] line rest all bad = absurd all
bad_behind (l ∷ ls) (t ∷ said) line rest all bad = ((t, all.0), bad_behind ls said line rest all.1 bad)

-- ---- sections

-- the section in which the next line stands
abbrev pub section_at : Section → List Said → Section
section_at section [] = section
section_at section (s ∷ said) = section_at (section_after section s) said

named_first : (section : Section) (s : Said) (said : List Said) → named_below section (s ∷ said) ≡ named_at section s ++ named_below (section_after section s) said
named_first section Nothing said = refl
named_first section (Heading next) said = refl
named_first section (Define part) said = refl
named_first section (Rule rule) said = refl

named_split : (section : Section) (said : List Said) (s : Said) (more : List Said) → named_below section (said ++ s ∷ more)
    ≡ named_below section said ++ (named_at (section_at section said) s ++ named_below (section_after (section_at section said) s) more)
named_split section [] s more = named_first section s more
named_split section (t ∷ said) s more =
    named_first section t (said ++ s ∷ more)
    ∙ ap (λ (x : List (List ℕ)). named_at section t ++ x) (named_split (section_after section t) said s more)
    ∙ sym (append_assoc (named_at section t) (named_below (section_after section t) said) (named_at (section_at (section_after section t) said) s ++ named_below (section_after (section_at (section_after section t) said) s) more))
    ∙ ap (λ (x : List (List ℕ)). x ++ (named_at (section_at (section_after section t) said) s ++ named_below (section_after (section_at (section_after section t) said) s) more)) (sym (named_first section t said))

named_more : (section : Section) (said : List Said) (s : Said) → named_below section (said ++ s ∷ []) ≡ named_below section said ++ named_at (section_at section said) s
named_more section said s =
    named_split section said s [] ∙ ap (λ (x : List (List ℕ)). named_below section said ++ x) (append-nil (named_at (section_at section said) s))

section_more : (section : Section) (said : List Said) (s : Said) → section_at section (said ++ s ∷ []) ≡ section_after (section_at section said) s
section_more section [] s = refl
section_more section (t ∷ said) s = section_more (section_after section t) said s

-- what a line names is there
pub line_names : (said : List Said) (s : Said) (more : List Said) → AllIn (modes_of (said ++ s ∷ more)) (named_at (section_at initial said) s)
line_names said s more =
    let all : AllIn (modes_of (said ++ s ∷ more)) (named_below initial (said ++ s ∷ more)) = named_are_in (named_below initial (said ++ s ∷ more)) in
    let split = subst (AllIn (modes_of (said ++ s ∷ more))) (named_split initial said s more) all in
    let here = named_at (section_at initial said) s in
    in_append_left (modes_of (said ++ s ∷ more)) here (named_below (section_after (section_at initial said) s) more) (in_append_right (modes_of (said ++ s ∷ more)) (named_below initial said) (here ++ named_below (section_after (section_at initial said) s) more) split)

-- ---- reading

-- these lines of the bytes were read, and say this
pub record HasSaid (bytes rest : List ℕ) (number : ℕ) (said : List Said) : Type 0 where
  pub done : List (List ℕ)
  pub parts : lines bytes ≡ done ++ lines rest
  pub say : LinesSay done said
  pub counted : number ≡ length done
  pub room : number + length rest ≤ length bytes

pub said_none : (bytes : List ℕ) → HasSaid bytes bytes 0 []
said_none bytes = record { done = []; parts = refl; say = tt; counted = refl; room = omega arith }

pub said_more : (bytes rest after line : List ℕ) (number : ℕ) (said : List Said) (s : Said) → HasSaid bytes rest number said → lines rest ≡ line ∷ lines after → length after < length rest → LineSays line s
    → HasSaid bytes after (number + 1) (said ++ s ∷ [])
said_more bytes rest after line number said s h split shorter says =
    let room = h.room in
    record {
      done = h.done ++ line ∷ [];
      parts = h.parts ∙ ap (λ (x : List (List ℕ)). h.done ++ x) split ∙ sym (append_assoc h.done (line ∷ []) (lines after));
      say = says_more h.done said line s h.say says;
      counted = ap (λ (n : ℕ). n + 1) h.counted ∙ sym (length-append h.done (line ∷ []));
      room = omega (arith, room, shorter);
    }

all_done : (bytes rest : List ℕ) (number : ℕ) (said : List Said) (h : HasSaid bytes rest number said) → rest ≡ [] → lines bytes ≡ h.done
all_done bytes rest number said h none = h.parts ∙ ap (λ (x : List ℕ). h.done ++ lines x) none ∙ append-nil h.done

pub said_all : (bytes rest : List ℕ) (number : ℕ) (said : List Said) → HasSaid bytes rest number said → rest ≡ [] → LinesSay (lines bytes) said
said_all bytes rest number said h none = subst (λ (x : List (List ℕ)). LinesSay x said) (sym (all_done bytes rest number said h none)) h.say

stands_at : (ls : List (List ℕ)) (line : List ℕ) (rest : List (List ℕ)) → slice_get (ls ++ line ∷ rest) (length ls) ≡ Some line
stands_at ls line rest =
    let within : length ls < length (ls ++ line ∷ rest) = omega (arith, length-append ls (line ∷ rest)) in
    slice_get-get_or (ls ++ line ∷ rest) (length ls) [] within ∙ ap (λ (x : List ℕ). Some x) (get_or-append_seam ls line rest [])

read_line : (bytes rest after line : List ℕ) (number : ℕ) (said : List Said) → HasSaid bytes rest number said → lines rest ≡ line ∷ lines after → slice_get (lines bytes) (number + 1 - 1) ≡ Some line
read_line bytes rest after line number said h split =
    let whole : lines bytes ≡ h.done ++ line ∷ lines after = h.parts ∙ ap (λ (x : List (List ℕ)). h.done ++ x) split in
    let place : number + 1 - 1 ≡ length h.done = (omega arith) ∙ h.counted in
    ap (λ (x : List (List ℕ)). slice_get x (number + 1 - 1)) whole ∙ ap (λ (n : ℕ). slice_get (h.done ++ line ∷ lines after) n) place ∙ stands_at h.done line (lines after)

-- the error of the next line is that of the file
pub line_error : (bytes rest after line : List ℕ) (number : ℕ) (said : List Said) (e : RuleFileError) → HasSaid bytes rest number said → lines rest ≡ line ∷ lines after → IsErrorOfLine (number + 1) line e → IsRuleFileError bytes e
line_error bytes rest after line number said (BadLine n column fault) h split is =
    let first : IsFirstBad (lines bytes) (number + 1) = rw (h.parts, split, h.counted, add-one) (bad_behind h.done said line (lines after) h.say is.1) in
    let there : slice_get (lines bytes) (n - 1) ≡ Some line = ap (λ (m : ℕ). slice_get (lines bytes) (m - 1)) is.0 ∙ read_line bytes rest after line number said h split in
    (subst (IsFirstBad (lines bytes)) (sym is.0) first, (line, (there, is.2)))
line_error bytes rest after line number said (BadPart n column kind) h split is = absurd is
line_error bytes rest after line number said (RepeatedPart n column) h split is = absurd is
line_error bytes rest after line number said (NoSuchMode n column) h split is = absurd is
line_error bytes rest after line number said OutOfMemory h split is = tt

-- ---- the modes

-- the lines so far name these modes, and the next one stands in this section
pub record HasNamed (bytes rest : List ℕ) (number : ℕ) (modes : List (List ℕ)) (section : Section) : Type 0 where
  pub said : List Said
  pub has_said : HasSaid bytes rest number said
  pub named : modes ≡ firsts (named_below initial said)
  pub here : section ≡ section_at initial said

pub named_none : (bytes : List ℕ) (section : Section) → section ≡ initial → HasNamed bytes bytes 0 [] section
named_none bytes section is = record { said = []; has_said = said_none bytes; named = refl; here = is }

pub named_line : (bytes rest after line : List ℕ) (number : ℕ) (modes next : List (List ℕ)) (section to : Section) (s : Said) → HasNamed bytes rest number modes section → lines rest ≡ line ∷ lines after → length after < length rest
    → LineSays line s → next ≡ add_names modes (named_at section s) → to ≡ section_after section s → HasNamed bytes after (number + 1) next to
named_line bytes rest after line number modes next section to s h split shorter says more goes =
    let at : named_at section s ≡ named_at (section_at initial h.said) s = ap (λ (x : Section). named_at x s) h.here in
    let all : named_below initial (h.said ++ s ∷ []) ≡ named_below initial h.said ++ named_at (section_at initial h.said) s = named_more initial h.said s in
    record {
      said = h.said ++ s ∷ [];
      has_said = said_more bytes rest after line number h.said s h.has_said split shorter says;
      named = more ∙ ap (λ (x : List (List ℕ)). add_names x (named_at section s)) h.named ∙ add_firsts (named_below initial h.said) (named_at section s)
          ∙ ap firsts (ap (λ (x : List (List ℕ)). named_below initial h.said ++ x) at ∙ sym all);
      here = goes ∙ ap (λ (x : Section). section_after x s) h.here ∙ sym (section_more initial h.said s);
    }

pub named_all : (bytes rest : List ℕ) (number : ℕ) (modes all : List (List ℕ)) (section : Section) → HasNamed bytes rest number modes section → rest ≡ [] → all ≡ or_initial modes → HasModes (lines bytes) all
named_all bytes rest number modes all section h none is = (h.said, (said_all bytes rest number h.said h.has_said none, is ∙ ap or_initial h.named))

-- ---- the rules

-- the line isn't a rule
abbrev pub IsNoRule : Said → Type 0
IsNoRule Nothing = Unit {0}
IsNoRule (Heading section) = Unit {0}
IsNoRule (Define part) = Unit {0}
IsNoRule (Rule rule) = ⊥

rules_aside : (modes : List (List ℕ)) (section : Section) (said : List Said) (rs : List FileRule) (s : Said) → IsNoRule s → AreRulesBelow modes section said rs → AreRulesBelow modes section (said ++ s ∷ []) rs
rules_aside modes section [] [] Nothing no_rule are = tt
rules_aside modes section [] [] (Heading next) no_rule are = tt
rules_aside modes section [] [] (Define part) no_rule are = tt
rules_aside modes section [] [] (Rule rule) no_rule are = absurd no_rule
rules_aside modes section [] (r ∷ rs) s no_rule are = absurd are
rules_aside modes section (Nothing ∷ said) rs s no_rule are = rules_aside modes section said rs s no_rule are
rules_aside modes section (Heading next ∷ said) rs s no_rule are = rules_aside modes next said rs s no_rule are
rules_aside modes section (Define part ∷ said) rs s no_rule are = rules_aside modes section said rs s no_rule are
rules_aside modes section (Rule w ∷ said) [] s no_rule are = absurd are
rules_aside modes section (Rule w ∷ said) (r ∷ rs) s no_rule are = (are.0, rules_aside modes section said rs s no_rule are.1)

rules_rule : (modes : List (List ℕ)) (section : Section) (said : List Said) (rs : List FileRule) (w : WrittenRule) (r : FileRule) → AreRulesBelow modes section said rs → IsFileRule modes (section_at section said) w r
    → AreRulesBelow modes section (said ++ Rule w ∷ []) (rs ++ r ∷ [])
rules_rule modes section [] [] w r are is = (is, tt)
rules_rule modes section [] (q ∷ rs) w r are is = absurd are
rules_rule modes section (Nothing ∷ said) rs w r are is = rules_rule modes section said rs w r are is
rules_rule modes section (Heading next ∷ said) rs w r are is = rules_rule modes next said rs w r are is
rules_rule modes section (Define part ∷ said) rs w r are is = rules_rule modes section said rs w r are is
rules_rule modes section (Rule v ∷ said) [] w r are is = absurd are
rules_rule modes section (Rule v ∷ said) (q ∷ rs) w r are is = (are.0, rules_rule modes section said rs w r are.1 is)

-- ---- their places

places_aside : (n : ℕ) (ls : List (List ℕ)) (said : List Said) (ps : List Position) (line : List ℕ) (s : Said) → IsNoRule s → ArePlacesFrom n ls said ps → ArePlacesFrom n (ls ++ line ∷ []) (said ++ s ∷ []) ps
places_aside n [] [] [] line Nothing no_rule are = tt
places_aside n [] [] [] line (Heading section) no_rule are = tt
places_aside n [] [] [] line (Define part) no_rule are = tt
places_aside n [] [] [] line (Rule rule) no_rule are = absurd no_rule
places_aside n [] [] (p ∷ ps) line s no_rule are = absurd are
places_aside n [] (t ∷ said) ps line s no_rule are = absurd are
places_aside n (l ∷ ls) [] ps line s no_rule are = absurd are
places_aside n (l ∷ ls) (Nothing ∷ said) ps line s no_rule are = places_aside (n + 1) ls said ps line s no_rule are
places_aside n (l ∷ ls) (Heading section ∷ said) ps line s no_rule are = places_aside (n + 1) ls said ps line s no_rule are
places_aside n (l ∷ ls) (Define part ∷ said) ps line s no_rule are = places_aside (n + 1) ls said ps line s no_rule are
places_aside n (l ∷ ls) (Rule w ∷ said) [] line s no_rule are = absurd are
places_aside n (l ∷ ls) (Rule w ∷ said) (p ∷ ps) line s no_rule are = (are.0, places_aside (n + 1) ls said ps line s no_rule are.1)

places_rule : (n : ℕ) (ls : List (List ℕ)) (said : List Said) (ps : List Position) (line : List ℕ) (w : WrittenRule) (p : Position) → ArePlacesFrom n ls said ps → p.line ≡ n + length ls → IsTextColumn (without_return line) w.text p.column
    → ArePlacesFrom n (ls ++ line ∷ []) (said ++ Rule w ∷ []) (ps ++ p ∷ [])
places_rule n [] [] [] line w p are number column = ((omega (arith, number), column), tt)
places_rule n [] [] (q ∷ ps) line w p are number column = absurd are
places_rule n [] (t ∷ said) ps line w p are number column = absurd are
places_rule n (l ∷ ls) [] ps line w p are number column = absurd are
places_rule n (l ∷ ls) (Nothing ∷ said) ps line w p are number column = places_rule (n + 1) ls said ps line w p are (omega (arith, number)) column
places_rule n (l ∷ ls) (Heading section ∷ said) ps line w p are number column = places_rule (n + 1) ls said ps line w p are (omega (arith, number)) column
places_rule n (l ∷ ls) (Define part ∷ said) ps line w p are number column = places_rule (n + 1) ls said ps line w p are (omega (arith, number)) column
places_rule n (l ∷ ls) (Rule v ∷ said) [] line w p are number column = absurd are
places_rule n (l ∷ ls) (Rule v ∷ said) (q ∷ ps) line w p are number column = (are.0, places_rule (n + 1) ls said ps line w p are.1 (omega (arith, number)) column)

-- ---- actions that lead into modes of the file

abbrev pub LeadsIn : List (List ℕ) → Said → Type 0
LeadsIn modes Nothing = Unit {0}
LeadsIn modes (Heading section) = Unit {0}
LeadsIn modes (Define part) = Unit {0}
LeadsIn modes (Rule rule) = AllLeadWithin modes rule.head.actions

abbrev pub AllLeadIn : List (List ℕ) → List Said → Type 0
AllLeadIn modes [] = Unit {0}
AllLeadIn modes (s ∷ said) = LeadsIn modes s × AllLeadIn modes said

leads_aside : (modes : List (List ℕ)) (s : Said) → IsNoRule s → LeadsIn modes s
leads_aside modes Nothing no_rule = tt
leads_aside modes (Heading section) no_rule = tt
leads_aside modes (Define part) no_rule = tt
leads_aside modes (Rule rule) no_rule = absurd no_rule

leads_in_more : (modes : List (List ℕ)) (said : List Said) (s : Said) → AllLeadIn modes said → LeadsIn modes s → AllLeadIn modes (said ++ s ∷ [])
leads_in_more modes [] s all here = (here, tt)
leads_in_more modes (t ∷ said) s all here = (all.0, leads_in_more modes said s all.1 here)

no_mode_first : (modes : List (List ℕ)) (ls : List (List ℕ)) (said : List Said) (line : List ℕ) (s : Said) (rest : List (List ℕ)) (more : List Said) (column : ℕ) → LinesSay ls said → AllLeadIn modes said → IsNoMode modes (without_return line) column
    → IsFirstNoMode modes (ls ++ line ∷ rest) (said ++ s ∷ more) (suc (length ls)) column
no_mode_first modes [] [] line s rest more column say all is = is
no_mode_first modes [] (t ∷ said) line s rest more column say all is = absurd say
no_mode_first modes (l ∷ ls) [] line s rest more column say all is = absurd say
no_mode_first modes (l ∷ ls) (Nothing ∷ said) line s rest more column say all is = no_mode_first modes ls said line s rest more column say.1 all.1 is
no_mode_first modes (l ∷ ls) (Heading section ∷ said) line s rest more column say all is = no_mode_first modes ls said line s rest more column say.1 all.1 is
no_mode_first modes (l ∷ ls) (Define part ∷ said) line s rest more column say all is = no_mode_first modes ls said line s rest more column say.1 all.1 is
no_mode_first modes (l ∷ ls) (Rule w ∷ said) line s rest more column say all is = (all.0, no_mode_first modes ls said line s rest more column say.1 all.1 is)

-- ---- the parts above them

pub parts_split : (said more : List Said) → parts_in (said ++ more) ≡ parts_in said ++ parts_in more
parts_split [] more = refl
parts_split (Nothing ∷ said) more = parts_split said more
parts_split (Heading section ∷ said) more = parts_split said more
parts_split (Define part ∷ said) more = ap (λ (x : List WrittenPart). part ∷ x) (parts_split said more)
parts_split (Rule rule ∷ said) more = parts_split said more

-- one line more, and the parts in it
pub count_more : (known next : ℕ) (said : List Said) (s : Said) → known ≡ length (parts_in said) → next ≡ known + length (parts_in (s ∷ [])) → next ≡ length (parts_in (said ++ s ∷ []))
count_more known next said s counted is =
    let all : length (parts_in (said ++ s ∷ [])) ≡ length (parts_in said) + length (parts_in (s ∷ [])) = ap length (parts_split said (s ∷ [])) ∙ length-append (parts_in said) (parts_in (s ∷ [])) in
    omega (arith, counted, is, all)

above_aside : (n : ℕ) (said : List Said) (s : Said) → IsNoRule s → parts_above n (said ++ s ∷ []) ≡ parts_above n said
above_aside n [] Nothing no_rule = refl
above_aside n [] (Heading section) no_rule = refl
above_aside n [] (Define part) no_rule = refl
above_aside n [] (Rule rule) no_rule = absurd no_rule
above_aside n (Nothing ∷ said) s no_rule = above_aside n said s no_rule
above_aside n (Heading section ∷ said) s no_rule = above_aside n said s no_rule
above_aside n (Define part ∷ said) s no_rule = above_aside (n + 1) said s no_rule
above_aside n (Rule rule ∷ said) s no_rule = ap (λ (x : List ℕ). n ∷ x) (above_aside n said s no_rule)

above_rule : (n : ℕ) (said : List Said) (w : WrittenRule) → parts_above n (said ++ Rule w ∷ []) ≡ parts_above n said ++ (n + length (parts_in said)) ∷ []
above_rule n [] w = ap (λ (x : ℕ). x ∷ []) (omega arith)
above_rule n (Nothing ∷ said) w = above_rule n said w
above_rule n (Heading section ∷ said) w = above_rule n said w
above_rule n (Define part ∷ said) w =
    let more : n + 1 + length (parts_in said) ≡ n + suc (length (parts_in said)) = omega arith in
    above_rule (n + 1) said w ∙ ap (λ (x : ℕ). parts_above (n + 1) said ++ x ∷ []) more
above_rule n (Rule rule ∷ said) w = ap (λ (x : List ℕ). n ∷ x) (above_rule n said w)

-- ---- reading them

-- the lines so far are these rules and so many parts, and the next one stands in a section of the modes with these numbers
pub record HasRead (bytes rest : List ℕ) (number : ℕ) (modes : List (List ℕ)) (here : List ℕ) (known : ℕ) (rs : List FileRule) : Type 0 where
  pub said : List Said
  pub more : List Said
  pub has_said : HasSaid bytes rest number said
  pub all_say : LinesSay (lines bytes) (said ++ more)
  pub rest_say : LinesSay (lines rest) more
  pub are_modes : modes ≡ modes_of (said ++ more)
  pub in_section : AllIn modes (named_by (section_at initial said)) → AreModes modes (section_at initial said) here
  pub are_rules : AreRulesBelow modes initial said rs
  pub are_known : map (λ r. r.known) rs ≡ parts_above 0 said
  pub counted : known ≡ length (parts_in said)
  pub few : known ≤ number
  pub are_places : ArePlacesFrom 1 has_said.done said (map (λ r. r.place) rs)
  pub within : AllLeadIn modes said

pub read_none : (bytes : List ℕ) (modes : List (List ℕ)) (here : List ℕ) → HasModes (lines bytes) modes → (AllIn modes (named_by initial) → AreModes modes initial here) → HasRead bytes bytes 0 modes here 0 []
unfolding said_none
read_none bytes modes here (said, (say, is)) section = record {
  said = [];
  more = said;
  has_said = said_none bytes;
  all_say = say;
  rest_say = say;
  are_modes = is;
  in_section = section;
  are_rules = tt;
  are_known = refl;
  counted = refl;
  few = omega arith;
  are_places = tt;
  within = tt;
}

-- what the next line says is what is known of it
next_said : (line : List ℕ) (after : List (List ℕ)) (more : List Said) (s : Said) → LinesSay (line ∷ after) more → LineSays line s → (own : List Said) × ((more ≡ s ∷ own) × LinesSay after own)
next_said line after [] s all says = absurd all
next_said line after (t ∷ own) s all says = (own, (ap (λ (x : Said). x ∷ own) (LineSays-unique line t s all.0 says), all.1))

-- the parts of a reading that don't depend on what the next line says
record Onward (bytes rest after line : List ℕ) (number : ℕ) (modes : List (List ℕ)) (said more : List Said) (s : Said) : Type 0 where
  own : List Said
  is : more ≡ s ∷ own
  all_say : LinesSay (lines bytes) ((said ++ s ∷ []) ++ own)
  rest_say : LinesSay (lines after) own
  are_modes : modes ≡ modes_of ((said ++ s ∷ []) ++ own)
  named : AllIn modes (named_at (section_at initial said) s)

onward : (bytes rest after line : List ℕ) (number : ℕ) (modes : List (List ℕ)) (here : List ℕ) (known : ℕ) (rs : List FileRule) (s : Said) (h : HasRead bytes rest number modes here known rs) → lines rest ≡ line ∷ lines after → LineSays line s
    → Onward bytes rest after line number modes h.said h.more s
onward bytes rest after line number modes here known rs s h split says =
    let next = next_said line (lines after) h.more s (subst (λ (x : List (List ℕ)). LinesSay x h.more) split h.rest_say) says in
    let same : h.said ++ h.more ≡ (h.said ++ s ∷ []) ++ next.0 = ap (λ (x : List Said). h.said ++ x) next.1.0 ∙ sym (append_assoc h.said (s ∷ []) next.0) in
    let modes_are : modes ≡ modes_of (h.said ++ s ∷ next.0) = h.are_modes ∙ ap (λ (x : List Said). modes_of (h.said ++ x)) next.1.0 in
    record {
      own = next.0;
      is = next.1.0;
      all_say = subst (λ (x : List Said). LinesSay (lines bytes) x) same h.all_say;
      rest_say = next.1.1;
      are_modes = h.are_modes ∙ ap modes_of same;
      named = subst (λ (x : List (List ℕ)). AllIn x (named_at (section_at initial h.said) s)) (sym modes_are) (line_names h.said s next.0);
    }

-- a line that isn't a rule
pub read_aside : (bytes rest after line : List ℕ) (number : ℕ) (modes : List (List ℕ)) (here next : List ℕ) (known count : ℕ) (rs : List FileRule) (s : Said) → IsNoRule s → HasRead bytes rest number modes here known rs
    → lines rest ≡ line ∷ lines after → length after < length rest → LineSays line s → count ≡ known + length (parts_in (s ∷ [])) → count ≤ known + 1
    → ((section : Section) → (AllIn modes (named_by section) → AreModes modes section here) → AllIn modes (named_by (section_after section s)) → AreModes modes (section_after section s) next)
    → HasRead bytes after (number + 1) modes next count rs
unfolding said_more
read_aside bytes rest after line number modes here next known count rs s no_rule h split shorter says counts least numbers =
    let on = onward bytes rest after line number modes here known rs s h split says in
    let same : section_at initial (h.said ++ s ∷ []) ≡ section_after (section_at initial h.said) s = section_more initial h.said s in
    record {
      said = h.said ++ s ∷ [];
      more = on.own;
      has_said = said_more bytes rest after line number h.said s h.has_said split shorter says;
      all_say = on.all_say;
      rest_say = on.rest_say;
      are_modes = on.are_modes;
      in_section = subst (λ (x : Section). AllIn modes (named_by x) → AreModes modes x next) (sym same) (numbers (section_at initial h.said) h.in_section);
      are_rules = rules_aside modes initial h.said rs s no_rule h.are_rules;
      are_known = h.are_known ∙ sym (above_aside 0 h.said s no_rule);
      counted = count_more known count h.said s h.counted counts;
      few = omega (arith, h.few, least);
      are_places = places_aside 1 h.has_said.done h.said (map (λ r. r.place) rs) line s no_rule h.are_places;
      within = leads_in_more modes h.said s h.within (leads_aside modes s no_rule);
    }

pub read_nothing : (bytes rest after line : List ℕ) (number : ℕ) (modes : List (List ℕ)) (here : List ℕ) (known : ℕ) (rs : List FileRule) → HasRead bytes rest number modes here known rs → lines rest ≡ line ∷ lines after
    → length after < length rest → LineSays line Nothing → HasRead bytes after (number + 1) modes here known rs
read_nothing bytes rest after line number modes here known rs h split shorter says =
    read_aside bytes rest after line number modes here here known known rs Nothing tt h split shorter says (omega arith) (omega arith) (λ section own. own)

pub read_heading : (bytes rest after line : List ℕ) (number : ℕ) (modes : List (List ℕ)) (here next : List ℕ) (known : ℕ) (rs : List FileRule) (section : Section) → HasRead bytes rest number modes here known rs
    → lines rest ≡ line ∷ lines after → length after < length rest → LineSays line (Heading section) → (AllIn modes (named_by section) → AreModes modes section next) → HasRead bytes after (number + 1) modes next known rs
read_heading bytes rest after line number modes here next known rs section h split shorter says numbers =
    read_aside bytes rest after line number modes here next known known rs (Heading section) tt h split shorter says (omega arith) (omega arith) (λ other own. numbers)

pub read_part : (bytes rest after line : List ℕ) (number : ℕ) (modes : List (List ℕ)) (here : List ℕ) (known : ℕ) (rs : List FileRule) (part : WrittenPart) → HasRead bytes rest number modes here known rs
    → lines rest ≡ line ∷ lines after → length after < length rest → LineSays line (Define part) → HasRead bytes after (number + 1) modes here (known + 1) rs
read_part bytes rest after line number modes here known rs part h split shorter says =
    read_aside bytes rest after line number modes here here known (known + 1) rs (Define part) tt h split shorter says (omega arith) (omega arith) (λ section own. own)

pub read_rule : (bytes rest after line : List ℕ) (number : ℕ) (modes : List (List ℕ)) (here : List ℕ) (known : ℕ) (rs ts : List FileRule) (w : WrittenRule) (r : FileRule) → HasRead bytes rest number modes here known rs
    → lines rest ≡ line ∷ lines after → length after < length rest → LineSays line (Rule w) → (numbers content : List ℕ) → numbers ≡ here → content ≡ without_return line
    → ((section : Section) → AreModes modes section numbers → IsFileRule modes section w r) → r.known ≡ known → r.place.line ≡ number + 1 → IsTextColumn content w.text r.place.column → AllLeadWithin modes w.head.actions
    → ts ≡ rs ++ r ∷ [] → HasRead bytes after (number + 1) modes here known ts
unfolding said_more
read_rule bytes rest after line number modes here known rs ts w r h split shorter says numbers content own_numbers own_content is knows counted column leads more =
    let on = onward bytes rest after line number modes here known rs (Rule w) h split says in
    let same : section_at initial (h.said ++ Rule w ∷ []) ≡ section_at initial h.said = section_more initial h.said (Rule w) in
    let number_is : r.place.line ≡ 1 + length h.has_said.done = omega (arith, counted, h.has_said.counted) in
    let places : map (λ q. q.place) (rs ++ r ∷ []) ≡ map (λ q. q.place) rs ++ r.place ∷ [] = map_more (λ q. q.place) rs r in
    let known_is : r.known ≡ 0 + length (parts_in h.said) = omega (arith, knows, h.counted) in
    rw more (record {
      said = h.said ++ Rule w ∷ [];
      more = on.own;
      has_said = said_more bytes rest after line number h.said (Rule w) h.has_said split shorter says;
      all_say = on.all_say;
      rest_say = on.rest_say;
      are_modes = on.are_modes;
      in_section = subst (λ (x : Section). AllIn modes (named_by x) → AreModes modes x here) (sym same) h.in_section;
      are_rules = rules_rule modes initial h.said rs w r h.are_rules (is (section_at initial h.said) (subst (AreModes modes (section_at initial h.said)) (sym own_numbers) (h.in_section on.named)));
      are_known = map_more (λ q. q.known) rs r ∙ ap (λ (x : List ℕ). x ++ r.known ∷ []) h.are_known ∙ ap (λ (n : ℕ). parts_above 0 h.said ++ n ∷ []) known_is ∙ sym (above_rule 0 h.said w);
      counted = count_more known known h.said (Rule w) h.counted (omega arith);
      few = omega (arith, h.few);
      are_places = subst (λ (x : List Position). ArePlacesFrom 1 (h.has_said.done ++ line ∷ []) (h.said ++ Rule w ∷ []) x) (sym places)
          (places_rule 1 h.has_said.done h.said (map (λ q. q.place) rs) line w r.place h.are_places number_is (subst (λ (x : List ℕ). IsTextColumn x w.text r.place.column) own_content column));
      within = leads_in_more modes h.said (Rule w) h.within leads;
    })

-- a mode in the next line isn't there
pub rule_error : (bytes rest after line : List ℕ) (number : ℕ) (modes : List (List ℕ)) (here : List ℕ) (known : ℕ) (rs : List FileRule) (w : WrittenRule) (e : RuleFileError) → HasRead bytes rest number modes here known rs → lines rest ≡ line ∷ lines after
    → LineSays line (Rule w) → (content : List ℕ) → content ≡ without_return line → IsErrorOfRule modes (number + 1) content e
    → (ps : List NamedPart) × AreFileParts (lines bytes) ps → IsRuleFileError bytes e
rule_error bytes rest after line number modes here known rs w (BadLine n column fault) h split says content own is parts = absurd is
rule_error bytes rest after line number modes here known rs w (BadPart n column kind) h split says content own is parts = absurd is
rule_error bytes rest after line number modes here known rs w (RepeatedPart n column) h split says content own is parts = absurd is
rule_error bytes rest after line number modes here known rs w (NoSuchMode n column) h split says content own is parts =
    let on = onward bytes rest after line number modes here known rs (Rule w) h split says in
    let whole : lines bytes ≡ h.has_said.done ++ line ∷ lines after = h.has_said.parts ∙ ap (λ (x : List (List ℕ)). h.has_said.done ++ x) split in
    let all : h.said ++ h.more ≡ h.said ++ Rule w ∷ on.own = ap (λ (x : List Said). h.said ++ x) on.is in
    let found : IsFirstNoMode modes (h.has_said.done ++ line ∷ lines after) (h.said ++ Rule w ∷ on.own) (suc (length h.has_said.done)) column =
    no_mode_first modes h.has_said.done h.said line (Rule w) (lines after) on.own column h.has_said.say h.within (subst (λ (x : List ℕ). IsNoMode modes x column) own is.1) in
    let place : suc (length h.has_said.done) ≡ n = omega (arith, is.0, h.has_said.counted) in
    let there : IsFirstNoMode modes (lines bytes) (h.said ++ h.more) n column = rw (whole, all) (subst (λ (k : ℕ). IsFirstNoMode modes (h.has_said.done ++ line ∷ lines after) (h.said ++ Rule w ∷ on.own) k column) place found) in
    ((h.said ++ h.more, (h.all_say, subst (λ (x : List (List ℕ)). IsFirstNoMode x (lines bytes) (h.said ++ h.more) n column) h.are_modes there)), parts)
rule_error bytes rest after line number modes here known rs w OutOfMemory h split says content own is parts = tt

none_left : (bytes rest : List ℕ) (number : ℕ) (modes : List (List ℕ)) (here : List ℕ) (known : ℕ) (rs : List FileRule) (h : HasRead bytes rest number modes here known rs) → rest ≡ [] → h.more ≡ []
none_left bytes rest number modes here known rs h none = by h.more (subst (λ (x : List ℕ). LinesSay (lines x) h.more) none h.rest_say)
  where
    by : (more : List Said) → LinesSay [] more → more ≡ []
    by [] say = refl
    by (s ∷ more) say = absurd say

pub rules_all : (bytes rest : List ℕ) (number : ℕ) (modes : List (List ℕ)) (here : List ℕ) (known : ℕ) (rs : List FileRule) → HasRead bytes rest number modes here known rs → rest ≡ [] → AreRules (lines bytes) modes rs
rules_all bytes rest number modes here known rs h none =
    let same : h.said ++ h.more ≡ h.said = ap (λ (x : List Said). h.said ++ x) (none_left bytes rest number modes here known rs h none) ∙ append-nil h.said in
    record { said = h.said; lines_say = said_all bytes rest number h.said h.has_said none; are_modes = h.are_modes ∙ ap modes_of same; are_rules = h.are_rules; are_known = h.are_known }

pub places_all : (bytes rest : List ℕ) (number : ℕ) (modes : List (List ℕ)) (here : List ℕ) (known : ℕ) (rs : List FileRule) → HasRead bytes rest number modes here known rs → rest ≡ [] → ArePlaces (lines bytes) rs
places_all bytes rest number modes here known rs h none = (
  h.said,
  (
    said_all bytes rest number h.said h.has_said none,
    subst (λ (x : List (List ℕ)). ArePlacesFrom 1 x h.said (map (λ r. r.place) rs)) (sym (all_done bytes rest number h.said h.has_said none)) h.are_places,
  ),
)
