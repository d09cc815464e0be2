-- What the lines of a file of rules say is one thing.
use Rattle.std.proofs.Common.{◌≡◌, ℕ, zero, suc, List, [], ◌∷◌, ◌++◌, codes, append-nil, refl, sym, ap, subst, ◌∙◌, inl, inr}
use Rattle.std.proofs.lemmas.Bool.{false≢true}
use Rattle.lalrpop_rule_file.specs.RuleLine.{Part, Start, Headed, Defined, Closed, Reads, Lexeme, a_blank, a_name}
use Rattle.lalrpop_rule_file.specs.FileModes.{Said, Nothing, Heading, Define, Rule}
use Rattle.lalrpop_rule_file.specs.RuleFile.{without_return, IsBlankOrComment, IsFirstBad, LineSays, LinesSay, Says}
use Rattle.lalrpop_rule_file.proofs.Lexemes.{IsStuck, Reads-unique, blanks_read}
use Rattle.lalrpop_rule_file.proofs.StoppingLaws.{IsWhole, whole_is_stuck}

pub no_name_in_nothing : {q : Part} {rest : List ℕ} → ¬ Lexeme Start [] q rest
no_name_in_nothing (a_name h span) = false≢true h

pub no_name_at_hash : {q : Part} {comment rest : List ℕ} → ¬ Lexeme Start (codes "#" ++ comment) q rest
no_name_at_hash (a_blank h) = false≢true h
no_name_at_hash (a_name h span) = false≢true h

not_at_start : (p : Part) → IsWhole p → Start ≡ p → ⊥
not_at_start (Headed section) whole e = absurd (cc)
not_at_start (Defined part) whole e = absurd (cc)
not_at_start (Closed rule) whole e = absurd (cc)
not_at_start p whole e = absurd whole

one_end : (p : Part) (line rest : List ℕ) → IsWhole p → Reads Start line p [] → Reads Start line Start rest → ¬ IsStuck Start rest
one_end p line rest whole h reads stuck = not_at_start p whole (Reads-unique reads h stuck (whole_is_stuck p whole)).0

says_something : (p : Part) (line : List ℕ) → IsWhole p → Reads Start line p [] → ¬ IsBlankOrComment line
says_something p line whole h (inl blanks) = one_end p line [] whole h (subst (λ (x : List ℕ). Reads Start x Start []) (append-nil line) (blanks_read Start line [] blanks)) (λ q rest. no_name_in_nothing)
says_something p line whole h (inr (lead, (comment, (parts, blanks)))) =
    one_end p line (codes "#" ++ comment) whole h (subst (λ (x : List ℕ). Reads Start x Start (codes "#" ++ comment)) (sym parts) (blanks_read Start lead (codes "#" ++ comment) blanks)) (λ q rest. no_name_at_hash)

whole_part : Part → Said
whole_part (Headed section) = Heading section
whole_part (Defined part) = Define part
whole_part (Closed rule) = Rule rule
whole_part p = Nothing

one_whole : (p q : Part) (line : List ℕ) → IsWhole p → IsWhole q → Reads Start line p [] → Reads Start line q [] → whole_part p ≡ whole_part q
one_whole p q line whole other g h = ap whole_part (Reads-unique g h (whole_is_stuck p whole) (whole_is_stuck q other)).0

-- a line says one thing
pub Says-unique : (line : List ℕ) (s t : Said) → Says line s → Says line t → s ≡ t
unfolding whole_part
Says-unique line Nothing Nothing g h = refl
Says-unique line Nothing (Heading section) g h = absurd (says_something (Headed section) line tt h g)
Says-unique line Nothing (Define part) g h = absurd (says_something (Defined part) line tt h g)
Says-unique line Nothing (Rule rule) g h = absurd (says_something (Closed rule) line tt h g)
Says-unique line (Heading section) Nothing g h = absurd (says_something (Headed section) line tt g h)
Says-unique line (Heading section) (Heading other) g h = one_whole (Headed section) (Headed other) line tt tt g h
Says-unique line (Heading section) (Define part) g h = one_whole (Headed section) (Defined part) line tt tt g h
Says-unique line (Heading section) (Rule rule) g h = one_whole (Headed section) (Closed rule) line tt tt g h
Says-unique line (Define part) Nothing g h = absurd (says_something (Defined part) line tt g h)
Says-unique line (Define part) (Heading section) g h = one_whole (Defined part) (Headed section) line tt tt g h
Says-unique line (Define part) (Define other) g h = one_whole (Defined part) (Defined other) line tt tt g h
Says-unique line (Define part) (Rule rule) g h = one_whole (Defined part) (Closed rule) line tt tt g h
Says-unique line (Rule rule) Nothing g h = absurd (says_something (Closed rule) line tt g h)
Says-unique line (Rule rule) (Heading section) g h = one_whole (Closed rule) (Headed section) line tt tt g h
Says-unique line (Rule rule) (Define part) g h = one_whole (Closed rule) (Defined part) line tt tt g h
Says-unique line (Rule rule) (Rule other) g h = one_whole (Closed rule) (Closed other) line tt tt g h

pub LineSays-unique : (line : List ℕ) (s t : Said) → LineSays line s → LineSays line t → s ≡ t
LineSays-unique line s t g h = Says-unique (without_return line) s t g.1 h.1

-- and so do all lines
pub LinesSay-unique : (ls : List (List ℕ)) (said other : List Said) → LinesSay ls said → LinesSay ls other → said ≡ other
LinesSay-unique [] [] [] g h = refl
LinesSay-unique [] [] (t ∷ other) g h = absurd h
LinesSay-unique [] (s ∷ said) other g h = absurd g
LinesSay-unique (l ∷ ls) [] other g h = absurd g
LinesSay-unique (l ∷ ls) (s ∷ said) [] g h = absurd h
LinesSay-unique (l ∷ ls) (s ∷ said) (t ∷ other) g h =
    ap (λ (x : Said). x ∷ said) (LineSays-unique l s t g.0 h.0) ∙ ap (λ (x : List Said). t ∷ x) (LinesSay-unique ls said other g.1 h.1)

-- lines that say something have no bad one
pub said_lines_have_no_bad : (ls : List (List ℕ)) (said : List Said) (n : ℕ) → LinesSay ls said → ¬ IsFirstBad ls n
said_lines_have_no_bad [] said n g h = h
said_lines_have_no_bad (l ∷ ls) said zero g h = h
said_lines_have_no_bad (l ∷ ls) [] (suc n) g h = absurd g
said_lines_have_no_bad (l ∷ ls) (s ∷ said) (suc zero) g h = h s g.0
said_lines_have_no_bad (l ∷ ls) (s ∷ said) (suc (suc n)) g h = said_lines_have_no_bad ls said (suc n) g.1 h.1

-- and others one that is the first
pub IsFirstBad-unique : (ls : List (List ℕ)) (m n : ℕ) → IsFirstBad ls m → IsFirstBad ls n → m ≡ n
IsFirstBad-unique [] m n g h = absurd g
IsFirstBad-unique (l ∷ ls) zero n g h = absurd g
IsFirstBad-unique (l ∷ ls) (suc m) zero g h = absurd h
IsFirstBad-unique (l ∷ ls) (suc zero) (suc zero) g h = refl
IsFirstBad-unique (l ∷ ls) (suc zero) (suc (suc n)) g h = absurd (g h.0.0 h.0.1)
IsFirstBad-unique (l ∷ ls) (suc (suc m)) (suc zero) g h = absurd (h g.0.0 g.0.1)
IsFirstBad-unique (l ∷ ls) (suc (suc m)) (suc (suc n)) g h = ap suc (IsFirstBad-unique ls (suc m) (suc n) g.1 h.1)
