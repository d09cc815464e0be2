-- cases: proofs/Cases/OutsideClass.antt
-- POSIX classes that stand outside of brackets, where `[:alpha:]` is a bracket of its own, with the six characters that it shows.
use Rattle.std.specs.Prelude.{◌≡◌, ◌==◌, ◌+◌, ◌-◌, ℕ, List, [], ◌∷◌, ◌++◌, Contains, codes, drop, if◌then◌else◌}
use Rattle.bajofeki_rules.specs.declared.rule_text.RuleText.{RuleText}
use Rattle.bajofeki_rules.specs.declared.rule_text.RuleText.TheVariants.{Pattern, PatternWith}
use Rattle.lalrpop_re.specs.Text.{begins}

-- the classes, and their complements
abbrev pub classes : List (List ℕ)
classes =
    codes "[:alnum:]" ∷ codes "[:alpha:]" ∷ codes "[:ascii:]" ∷ codes "[:blank:]" ∷ codes "[:cntrl:]" ∷ codes "[:digit:]" ∷ codes "[:graph:]"
    ∷ codes "[:lower:]" ∷ codes "[:print:]" ∷ codes "[:punct:]" ∷ codes "[:space:]" ∷ codes "[:upper:]" ∷ codes "[:word:]" ∷ codes "[:xdigit:]"
    ∷ codes "[:^alnum:]" ∷ codes "[:^alpha:]" ∷ codes "[:^ascii:]" ∷ codes "[:^blank:]" ∷ codes "[:^cntrl:]" ∷ codes "[:^digit:]" ∷ codes "[:^graph:]"
    ∷ codes "[:^lower:]" ∷ codes "[:^print:]" ∷ codes "[:^punct:]" ∷ codes "[:^space:]" ∷ codes "[:^upper:]" ∷ codes "[:^word:]" ∷ codes "[:^xdigit:]" ∷ []

-- one of these words is at the front
abbrev pub BeginsOne : List (List ℕ) → List ℕ → Type 0
BeginsOne words text = (word rest : List ℕ) × (Contains words word × (text ≡ word ++ rest))

-- a bracket after its `[`, and after a `]` that is its first character and doesn't close it
abbrev pub after_opening : List ℕ → List ℕ
after_opening text = if begins "]" text then drop 1 text else if begins "^]" text then drop 2 text else text

-- how many brackets are open after this character, or the escape that it begins, and the text from there on
abbrev pub after_one : ℕ → ℕ → List ℕ → ℕ × List ℕ
after_one depth b text =
    if b == 91 then (depth + 1, after_opening text)
    else if b == 93 then (depth - 1, text) else if b == 92 then (depth, drop 1 text) else (depth, text)

-- so many brackets are open here, and a class stands here or further on where none is
pub data HasClass : ℕ → List ℕ → Type 0 where
  here : {b : ℕ} {text : List ℕ} → BeginsOne classes (b ∷ text) → HasClass 0 (b ∷ text)
  further : {depth b : ℕ} {text : List ℕ} → HasClass (after_one depth b text).0 (after_one depth b text).1 → HasClass depth (b ∷ text)

-- in the text of a rule
abbrev pub HasOutsideClass : RuleText → Type 0
HasOutsideClass (Pattern inner) = HasClass 0 inner.now
HasOutsideClass (PatternWith inner parts) = HasClass 0 inner.now
HasOutsideClass text = ⊥
