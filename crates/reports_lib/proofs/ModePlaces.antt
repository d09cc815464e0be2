-- In lines that say something, the sections of a mode are those whose lines begin with a `[` and have its name as a word.
use Rattle.std.proofs.Common.{◌≡◌, ℕ, zero, suc, ◌+◌, ◌⊎◌, inl, inr, Bool, true, false, ◌||◌, ◌&&◌, List, [], ◌∷◌, ◌++◌, codes, refl, sym, ap, ◌∙◌, arith, append_assoc, append-nil}
use Rattle.std.specs.Prelude.{All, not, ◌==◌, if◌then◌else◌}
use Rattle.std.specs.List.{list_any, prefix_len}
use Rattle.std.specs.Str.{bytes_eq}
use Rattle.std.proofs.lemmas.Bool.{false≢true}
use Rattle.std.proofs.lemmas.Bool.Decides.{nat_tests}
use Rattle.std.proofs.lemmas.List.Folds.{list_any-append}
use Rattle.std.proofs.lemmas.List.Splits.{slice_split-cons_yes, slice_split_at, slice_split_none}
use Rattle.bajofeki_rules.specs.declared.position.Position.{Position}
use Rattle.lalrpop_rule_file.specs.Words.{AreBlanks, EachByte, begins, begins_name, is_blank, is_of_name}
use Rattle.lalrpop_rule_file.specs.RuleLine.{Part, Start, Listing, Starred, Headed, Lexeme, a_blank, a_bracket, a_mode, a_star, an_end, a_star_end, a_name, Reads, nothing, lexeme_then}
use Rattle.lalrpop_rule_file.specs.FileModes.{Said, Nothing, Heading, Define, Rule, named_by}
use Rattle.lalrpop_rule_file.specs.RuleFile.{LineSays, LinesSay, Says, without_return}
use Rattle.lalrpop_rule_file.proofs.Bytes.{begins_of_name}
use Rattle.lalrpop_rule_file.proofs.Returns.{return_parts}
use Rattle.reports_lib.specs.ModePlace.{begins_mode, section_place, TellsSections}
use Rattle.reports_lib.specs.Internal.ModePlaces.{begins_section, has_word, is_word, opens, place_from, section_at}

-- ---- words

-- a byte that isn't of a name belongs to no word
other_byte : (mode : List ℕ) (b : ℕ) (bs : List ℕ) → is_of_name b ≡ false → has_word mode (b ∷ bs) ≡ has_word mode bs
other_byte mode b bs is = ap (list_any (λ w. is_word mode w)) (slice_split-cons_yes (λ c. not (is_of_name c)) b bs (ap not is))

all_of_name : (word : List ℕ) → EachByte is_of_name word → All (λ b. not (is_of_name b) ≡ false) word
all_of_name [] each k d within = absurd (omega arith)
all_of_name (b ∷ bs) each zero d within = ap not each.0
all_of_name (b ∷ bs) each (suc k) d within = all_of_name bs each.1 k d (omega arith)

-- a word at the front, and the others
first_word : (mode word rest : List ℕ) → EachByte is_of_name word → begins is_of_name rest ≡ false → has_word mode (word ++ rest) ≡ (is_word mode word || has_word mode rest)
first_word mode word [] each stops =
    ap (has_word mode) (append-nil word) ∙ ap (list_any (λ w. is_word mode w)) (slice_split_none (λ c. not (is_of_name c)) word (all_of_name word each))
first_word mode word (b ∷ bs) each stops =
    ap (list_any (λ w. is_word mode w)) (slice_split_at (λ c. not (is_of_name c)) word b bs (all_of_name word each) (ap not stops))
    ∙ ap (λ (t : Bool). is_word mode word || t) (sym (other_byte mode b bs stops))

-- a name isn't empty
name_is_word : (mode name text rest : List ℕ) → text ≡ name ++ rest → begins begins_name text ≡ true → begins is_of_name rest ≡ false → is_word mode name ≡ bytes_eq name mode
name_is_word mode [] text [] parts begin stops = absurd (false≢true (ap (begins begins_name) (sym parts) ∙ begin))
name_is_word mode [] text (b ∷ bs) parts begin stops = absurd (false≢true (sym stops ∙ begins_of_name b (ap (begins begins_name) (sym parts) ∙ begin)))
name_is_word mode (c ∷ cs) text rest parts begin stops = refl

blank_parts_words : (b : ℕ) → is_blank b ≡ true → is_of_name b ≡ false
blank_parts_words b is = grind (arith, nat_tests)

no_bracket : (b : ℕ) → begins_name b ≡ true → (if is_blank b then true else b == 91) ≡ false
no_bracket b is = grind (arith, nat_tests)

no_blank : (b : ℕ) → begins_name b ≡ true → is_blank b ≡ false
no_blank b is = grind (arith, nat_tests)

or_false : (t : Bool) → (t || false) ≡ t
or_false true = refl
or_false false = refl

or_moved : (a b c : Bool) → ((a || (b || false)) || c) ≡ (a || (b || c))
or_moved true b c = refl
or_moved false true c = refl
or_moved false false c = refl

-- ---- a line

-- nothing is read yet, or something of a section, or of another line
side : Part → ℕ
side Start = 0
side (Listing modes) = 1
side Starred = 1
side (Headed section) = 1
side p = 2

lexeme_stays : {p q : Part} {text rest : List ℕ} (n : ℕ) → Lexeme p text q rest → side p ≡ suc n → side q ≡ suc n
unfolding side
lexeme_stays n a_bracket is = absurd (omega (arith, is))
lexeme_stays n (a_name begin span) is = absurd (omega (arith, is))
lexeme_stays n s is = is

reads_stay : {p q : Part} {text rest : List ℕ} (n : ℕ) → Reads p text q rest → side p ≡ suc n → side q ≡ suc n
reads_stay n nothing is = is
reads_stay n (lexeme_then s more) is = reads_stay n more (lexeme_stays n s is)

listed : Part → List (List ℕ)
listed (Listing modes) = modes
listed (Headed section) = named_by section
listed p = []

-- what ends a line is no name and no section
module _ (mode tail : List ℕ) (no_word : has_word mode tail ≡ false) (no_name : begins is_of_name tail ≡ false) (no_section : begins_section tail ≡ false) where
  among : List (List ℕ) → Bool
  among names = list_any (λ name. bytes_eq name mode) names

  has : List ℕ → Bool
  has text = has_word mode (text ++ tail)

  stops_before : (rest : List ℕ) → begins is_of_name rest ≡ false → begins is_of_name (rest ++ tail) ≡ false
  stops_before [] stops = no_name
  stops_before (b ∷ bs) stops = stops

  -- each name of a section is one of its words
  lexeme_names : {p q : Part} {text rest : List ℕ} → Lexeme p text q rest → side p ≡ 1 → (among (listed q) || has rest) ≡ (among (listed p) || has text)
  unfolding side listed among has
  lexeme_names (a_blank {p = p} {b = b} {rest = rest} is) one = ap (λ (t : Bool). among (listed p) || t) (sym (other_byte mode b (rest ++ tail) (blank_parts_words b is)))
  lexeme_names (a_mode {modes = modes} {text = text} {mode = name} {rest = rest} begin span) one =
      let whole : has text ≡ (bytes_eq name mode || has rest) =
      ap (λ (x : List ℕ). has_word mode (x ++ tail)) span.parts ∙ ap (has_word mode) (append_assoc name rest tail)
      ∙ first_word mode name (rest ++ tail) span.passes (stops_before rest span.stops) ∙ ap (λ (t : Bool). t || has rest) (name_is_word mode name text rest span.parts begin span.stops) in
      ap (λ (t : Bool). t || has rest) (list_any-append (λ n. bytes_eq n mode) modes (name ∷ [])) ∙ or_moved (among modes) (bytes_eq name mode) (has rest) ∙ ap (λ (t : Bool). among modes || t) (sym whole)
  lexeme_names (a_star {rest = rest}) one = sym (other_byte mode 42 (rest ++ tail) refl)
  lexeme_names (an_end {mode = name} {modes = modes} {rest = rest}) one = ap (λ (t : Bool). among (name ∷ modes) || t) (sym (other_byte mode 93 (rest ++ tail) refl))
  lexeme_names (a_star_end {rest = rest}) one = sym (other_byte mode 93 (rest ++ tail) refl)
  lexeme_names s one = absurd (omega (arith, one))

  reads_names : {p q : Part} {text rest : List ℕ} → Reads p text q rest → side p ≡ 1 → (among (listed q) || has rest) ≡ (among (listed p) || has text)
  reads_names nothing one = refl
  reads_names (lexeme_then s more) one = reads_names more (lexeme_stays 0 s one) ∙ lexeme_names s one

  heading_opens : {q : Part} {text rest : List ℕ} → Reads Start text q rest → side q ≡ 1 → (begins_section (text ++ tail) ≡ true) × ((among (listed q) || has rest) ≡ has text)
  unfolding side listed among has
  heading_opens nothing one = absurd (omega (arith, one))
  heading_opens (lexeme_then (a_blank {b = b} {rest = mid} is) more) one =
      let below = heading_opens more one in
      (ap (λ (t : Bool). if t then begins_section (mid ++ tail) else b == 91) is ∙ below.0, below.1 ∙ sym (other_byte mode b (mid ++ tail) (blank_parts_words b is)))
  heading_opens (lexeme_then (a_bracket {rest = mid}) more) one = (refl, reads_names more refl ∙ sym (other_byte mode 91 (mid ++ tail) refl))
  heading_opens (lexeme_then (a_name begin span) more) one = absurd (omega (arith, reads_stay 1 more refl, one))

  named_opens_not : {q : Part} {text rest : List ℕ} → Reads Start text q rest → side q ≡ 2 → begins_section (text ++ tail) ≡ false
  unfolding side
  named_opens_not nothing two = absurd (omega (arith, two))
  named_opens_not (lexeme_then (a_blank {b = b} {rest = mid} is) more) two = ap (λ (t : Bool). if t then begins_section (mid ++ tail) else b == 91) is ∙ named_opens_not more two
  named_opens_not (lexeme_then a_bracket more) two = absurd (omega (arith, reads_stay 0 more refl, two))
  named_opens_not (lexeme_then (a_name {text = []} begin span) more) two = absurd (false≢true begin)
  named_opens_not (lexeme_then (a_name {text = b ∷ bs} begin span) more) two = rw (no_blank b begin) (rw (no_blank b begin) at (no_bracket b begin))

  blanks_passed : (lead rest : List ℕ) → AreBlanks lead → begins_section (lead ++ rest) ≡ begins_section rest
  blanks_passed [] rest are = refl
  blanks_passed (b ∷ bs) rest are = ap (λ (t : Bool). if t then begins_section (bs ++ rest) else b == 91) are.0 ∙ blanks_passed bs rest are.1

  closed : (text : List ℕ) → begins_section (text ++ tail) ≡ false → opens mode (text ++ tail) ≡ false
  closed text is = ap (λ (t : Bool). t && has_word mode (text ++ tail)) is

  says_opens : (text : List ℕ) (s : Said) → Says text s → opens mode (text ++ tail) ≡ begins_mode s mode
  unfolding side listed among has
  says_opens text Nothing (inl blanks) = closed text (blanks_passed text tail blanks ∙ no_section)
  says_opens text Nothing (inr (lead, (comment, (parts, blanks)))) =
      closed text (ap (λ (x : List ℕ). begins_section (x ++ tail)) parts ∙ ap begins_section (append_assoc lead (codes "#" ++ comment) tail) ∙ blanks_passed lead ((codes "#" ++ comment) ++ tail) blanks)
  says_opens text (Heading section) reads =
      let is = heading_opens reads refl in
      ap (λ (t : Bool). t && has_word mode (text ++ tail)) is.0 ∙ sym is.1 ∙ ap (λ (t : Bool). among (named_by section) || t) no_word ∙ or_false (among (named_by section))
  says_opens text (Define part) reads = closed text (named_opens_not reads refl)
  says_opens text (Rule rule) reads = closed text (named_opens_not reads refl)

line_opens : (mode line : List ℕ) (s : Said) → LineSays line s → opens mode line ≡ begins_mode s mode
line_opens mode line s says = by (return_parts line)
  where
    by : (without_return line ≡ line) ⊎ (line ≡ without_return line ++ (13 ∷ [])) → opens mode line ≡ begins_mode s mode
    by (inl same) = ap (opens mode) (sym same ∙ sym (append-nil (without_return line))) ∙ says_opens mode [] refl refl refl (without_return line) s says.1
    by (inr parts) = ap (opens mode) parts ∙ says_opens mode (13 ∷ []) refl refl refl (without_return line) s says.1

-- ---- all lines

places : (n : ℕ) (ls : List (List ℕ)) (said : List Said) (mode : List ℕ) → LinesSay ls said → place_from n ls mode ≡ section_place n ls said mode
places n [] [] mode say = refl
places n [] (s ∷ said) mode say = absurd say
places n (line ∷ ls) [] mode say = absurd say
places n (line ∷ ls) (s ∷ said) mode say =
    let here : Position = record { line = n; column = prefix_len is_blank line + 1 } in
    ap (λ (t : Bool). if t then here else place_from (n + 1) ls mode) (line_opens mode line s say.0)
    ∙ ap (λ (p : Position). if begins_mode s mode then here else p) (places (n + 1) ls said mode say.1)

pub sections_told : (ls : List (List ℕ)) → TellsSections ls (section_at ls)
sections_told ls said say mode = places 1 ls said mode say
