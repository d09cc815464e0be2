-- The parts that lines define, line by line.
use Rattle.std.proofs.Common.{◌≡◌, ℕ, zero, suc, ◌+◌, ◌-◌, ◌<◌, ◌≤◌, List, [], ◌∷◌, ◌++◌, length, map, drop, take, refl, sym, ap, subst, ◌∙◌, append-nil, append_assoc, arith, length-append, Contains}
use Rattle.std.specs.Prelude.{chars}
use Rattle.std.specs.Str.{IsCharBoundary}
use Rattle.std.proofs.lemmas.List.{take-append-drop}
use Rattle.lalrpop_re.specs.NamedPart.{NamedPart}
use Rattle.lalrpop_re.specs.Pattern.{IsPart}
use Rattle.bajofeki_rules.specs.Lines.{lines}
use Rattle.bajofeki_rules.specs.Position.{position_of}
use Rattle.lalrpop_rule_file.specs.RuleLine.{WrittenPart}
use Rattle.lalrpop_rule_file.specs.FileModes.{Said, Define}
use Rattle.lalrpop_rule_file.specs.FileParts.{AreParts, IsNameColumn, IsPatternColumn, no_parts, one_more, parts_in}
use Rattle.lalrpop_rule_file.specs.RuleFile.{AreFileParts, IsFirstBadPart, IsFirstRepeatedPart, IsPartBelow, IsRuleFileError, LineSays, LinesSay, without_return}
use Rattle.lalrpop_rule_file.specs.Internal.Lines.{IsErrorOfPart}
use Rattle.lalrpop_rule_file.specs.Internal.Values.{HasPattern, IsNameIn}
use Rattle.lalrpop_rule_file.specs.declared.error.RuleFileError.{RuleFileError}
use Rattle.lalrpop_rule_file.specs.declared.error.RuleFileError.TheVariants.{BadLine, BadPart, RepeatedPart, NoSuchMode, OutOfMemory}
use Rattle.lalrpop_rule_file.specs.declared.written.LineName.{LineName}
use Rattle.lalrpop_rule_file.specs.declared.written.LinePart.{LinePart}
use Rattle.lalrpop_rule_file.proofs.Actions.{map_more}
use Rattle.lalrpop_rule_file.proofs.FileLines.{HasSaid, parts_split, said_all, said_more, said_none}
use Rattle.lalrpop_rule_file.proofs.Stopping.{Ends, behind_front}

-- ---- places

-- where a pattern may be cut, it may be cut before the slash that ends it, too
boundary_in : (pattern trail : List ℕ) (i : ℕ) → IsCharBoundary pattern i → IsCharBoundary (pattern ++ (47 ∷ trail)) i
boundary_in [] trail zero h = (omega arith, λ less big. absurd (omega (arith, big)))
boundary_in [] trail (suc i) h = absurd (omega (arith, h.0))
boundary_in (b ∷ bs) trail zero h = (omega arith, λ less big. h.1 (omega arith) big)
boundary_in (b ∷ bs) trail (suc i) h =
    let more = boundary_in bs trail i (omega (arith, h.0), λ less. h.1 (omega (arith, less))) in (omega (arith, more.0), λ less. more.1 (omega (arith, less)))

pub pattern_boundary : (line : List ℕ) (p : LinePart) (i : ℕ) → HasPattern line p → IsCharBoundary p.pattern.now i → IsCharBoundary p.here.now i
pattern_boundary line p i (front, (parts, (trail, (here, blanks)))) h = subst (λ (x : List ℕ). IsCharBoundary x i) (sym here) (boundary_in p.pattern.now trail i h)

pub pattern_rest : (line : List ℕ) (p : LinePart) (i : ℕ) → HasPattern line p → Ends line (drop i p.here.now)
pattern_rest line p i (front, (parts, begins)) =
    (front ++ take i p.here.now, parts ∙ ap (λ (x : List ℕ). front ++ x) (sym (take-append-drop i p.here.now)) ∙ sym (append_assoc front (take i p.here.now) (drop i p.here.now)))

drop_length : (xs : List ℕ) (i : ℕ) → i ≤ length xs → length (drop i xs) + i ≡ length xs
drop_length xs zero h = omega arith
drop_length [] (suc i) h = absurd (omega (arith, h))
drop_length (x ∷ xs) (suc i) h = let more = drop_length xs i (omega (arith, h)) in omega (arith, more)

pub pattern_column : (line : List ℕ) (p : LinePart) (i column : ℕ) → HasPattern line p → IsCharBoundary p.pattern.now i → column ≡ (position_of line (length line - length (drop i p.here.now))).column
    → IsPatternColumn line p.pattern.now column
pattern_column line p i column (front, (parts, begins)) h is =
    let within : i ≤ length p.here.now = (pattern_boundary line p i (front, (parts, begins)) h).0 in
    let whole : length line ≡ length front + length p.here.now = ap length parts ∙ length-append front p.here.now in
    let rest = drop_length p.here.now i within in
    let place : length line - length (drop i p.here.now) ≡ length front + i = omega (arith, whole, rest) in
    record { front = front; here = p.here.now; position = i; parts = parts; begins = begins; between = h; counted = is ∙ ap (λ (n : ℕ). (position_of line n).column) place }

pub name_ends : (line : List ℕ) (n : LineName) → IsNameIn line n → Ends line n.here.now
name_ends line n (lead, (behind, (blanks, name))) = (lead, blanks.parts)

pub name_column : (line : List ℕ) (n : LineName) (column : ℕ) → IsNameIn line n → column ≡ (position_of line (length line - length n.here.now)).column → IsNameColumn line n.name.now column
name_column line n column (lead, (behind, (blanks, name))) is =
    record { lead = lead; here = n.here.now; behind = behind; blanks = blanks; is_name = name; counted = is ∙ ap (λ (k : ℕ). (position_of line k).column) (behind_front lead n.here.now line blanks.parts) }

-- ---- line by line

-- the lines so far define these parts, with these names
pub record HasDefined (bytes rest : List ℕ) (number : ℕ) (names : List (List ℕ)) (ps : List NamedPart) : Type 0 where
  pub said : List Said
  pub has_said : HasSaid bytes rest number said
  pub are_names : names ≡ map (λ w. w.name) (parts_in said)
  pub are_parts : AreParts (parts_in said) ps

pub defined_none : (bytes : List ℕ) → HasDefined bytes bytes 0 [] []
defined_none bytes = record { said = []; has_said = said_none bytes; are_names = refl; are_parts = no_parts }

pub defined_aside : (bytes rest after line : List ℕ) (number : ℕ) (names : List (List ℕ)) (ps : List NamedPart) (s : Said) → HasDefined bytes rest number names ps → lines rest ≡ line ∷ lines after → length after < length rest
    → LineSays line s → parts_in (s ∷ []) ≡ [] → HasDefined bytes after (number + 1) names ps
defined_aside bytes rest after line number names ps s h split shorter says none =
    let same : parts_in (h.said ++ s ∷ []) ≡ parts_in h.said = parts_split h.said (s ∷ []) ∙ ap (λ (x : List WrittenPart). parts_in h.said ++ x) none ∙ append-nil (parts_in h.said) in
    record {
      said = h.said ++ s ∷ [];
      has_said = said_more bytes rest after line number h.said s h.has_said split shorter says;
      are_names = h.are_names ∙ ap (map (λ w. w.name)) (sym same);
      are_parts = subst (λ (x : List WrittenPart). AreParts x ps) (sym same) h.are_parts;
    }

pub defined_part : (bytes rest after line : List ℕ) (number : ℕ) (names more : List (List ℕ)) (ps qs : List NamedPart) (w : WrittenPart) (p : NamedPart) → HasDefined bytes rest number names ps → lines rest ≡ line ∷ lines after
    → length after < length rest → LineSays line (Define w) → ¬ Contains names w.name → IsPart ps (chars w.name) (chars w.pattern) p → more ≡ names ++ w.name ∷ [] → qs ≡ ps ++ p ∷ []
    → HasDefined bytes after (number + 1) more qs
defined_part bytes rest after line number names more ps qs w p h split shorter says is_new part named are =
    let same : parts_in (h.said ++ Define w ∷ []) ≡ parts_in h.said ++ w ∷ [] = parts_split h.said (Define w ∷ []) in
    let new_name : ¬ Contains (map (λ v. v.name) (parts_in h.said)) w.name = subst (λ (x : List (List ℕ)). ¬ Contains x w.name) h.are_names is_new in
    let all : AreParts (parts_in h.said ++ w ∷ []) (ps ++ p ∷ []) = one_more w p h.are_parts new_name part in
    rw are (record {
      said = h.said ++ Define w ∷ [];
      has_said = said_more bytes rest after line number h.said (Define w) h.has_said split shorter says;
      are_names = named ∙ ap (λ (x : List (List ℕ)). x ++ w.name ∷ []) h.are_names ∙ sym (map_more (λ v. v.name) (parts_in h.said) w) ∙ ap (map (λ v. v.name)) (sym same);
      are_parts = subst (λ (x : List WrittenPart). AreParts x (ps ++ p ∷ [])) (sym same) all;
    })

pub defined_all : (bytes rest : List ℕ) (number : ℕ) (names : List (List ℕ)) (ps : List NamedPart) → HasDefined bytes rest number names ps → rest ≡ [] → AreFileParts (lines bytes) ps
defined_all bytes rest number names ps h none = (h.said, (said_all bytes rest number h.said h.has_said none, h.are_parts))

-- ---- a part that is wrong

stands : (bytes rest after line : List ℕ) (number n : ℕ) (names : List (List ℕ)) (ps : List NamedPart) (w : WrittenPart) (h : HasDefined bytes rest number names ps) → lines rest ≡ line ∷ lines after → LineSays line (Define w)
    → n ≡ number + 1 → IsPartBelow (lines bytes) n line w h.said ps
stands bytes rest after line number n names ps w h split says is = record {
  above = h.has_said.done;
  below = lines after;
  all = h.has_said.parts ∙ ap (λ (x : List (List ℕ)). h.has_said.done ++ x) split;
  number = is ∙ ap (λ (k : ℕ). k + 1) h.has_said.counted;
  say = h.has_said.say;
  are_parts = h.are_parts;
  says = says;
}

pub part_error : (bytes rest after line content : List ℕ) (number : ℕ) (names : List (List ℕ)) (ps : List NamedPart) (w : WrittenPart) (e : RuleFileError) → HasDefined bytes rest number names ps
    → (said : List Said) × LinesSay (lines bytes) said → lines rest ≡ line ∷ lines after → LineSays line (Define w) → content ≡ without_return line → IsErrorOfPart names ps (number + 1) content w e → IsRuleFileError bytes e
part_error bytes rest after line content number names ps w (BadLine n column fault) h all split says own is = absurd is
part_error bytes rest after line content number names ps w (BadPart n column kind) h all split says own is =
    let found : IsFirstBadPart (lines bytes) n column = record {
      line = line;
      w = w;
      said = h.said;
      ps = ps;
      stands = stands bytes rest after line number n names ps w h split says is.0;
      is_new = subst (λ (x : List (List ℕ)). ¬ Contains x w.name) h.are_names is.1;
      bad = is.2;
      place = subst (λ (x : List ℕ). IsPatternColumn x w.pattern column) own is.3;
    } in
    (found, all)
part_error bytes rest after line content number names ps w (RepeatedPart n column) h all split says own is =
    let found : IsFirstRepeatedPart (lines bytes) n column = record {
      line = line;
      w = w;
      said = h.said;
      ps = ps;
      stands = stands bytes rest after line number n names ps w h split says is.0;
      is_there = subst (λ (x : List (List ℕ)). Contains x w.name) h.are_names is.1;
      place = subst (λ (x : List ℕ). IsNameColumn x w.name column) own is.2;
    } in
    (found, all)
part_error bytes rest after line content number names ps w (NoSuchMode n column) h all split says own is = absurd is
part_error bytes rest after line content number names ps w OutOfMemory h all split says own is = tt
