-- What the lines of some bytes say is unique.
use Rattle.std.proofs.Common.{◌≡◌, ℕ, zero, suc, List, [], ◌∷◌, ◌++◌, get_or, refl, sym, ap, subst, ◌∙◌, arith}
use Rattle.std.specs.Prelude.{codes}
use Rattle.std.specs.Str.{chars}
use Rattle.std.specs.Str.Parse.{AllDigits, digits_value}
use Rattle.std.proofs.lemmas.Str.Parse.{digit_from_value}
use Rattle.lalrpop_hir.specs.Tree.{Tree}
use Rattle.lalrpop_re.proofs.PatternLaws.{one_tree}
use Rattle.lalrpop_lexer.specs.Line.{letter, IsLine, LineSays}
use Rattle.lalrpop_lexer.specs.Spelled.{Spells}
use Rattle.lalrpop_lexer.specs.Terminals.{AreTerminals, FirstSays}
use Rattle.lalrpop_lexer.specs.declared.form.Form.{Form}
use Rattle.lalrpop_lexer.specs.declared.form.Form.TheVariants.{Literal, Pattern}
use Rattle.lalrpop_lexer.specs.declared.terminal_line.TerminalLine.{TerminalLine}
use Rattle.lalrpop_lexer.specs.declared.terminal_line.TerminalLine.TheVariants.{Bad, NoTree, Terminal}

no_space : (c : ℕ) (cs : List ℕ) → AllDigits 10 (c ∷ cs) → c ≡ 32 → ⊥
no_space c cs digits e = omega (arith, (digit_from_value c digits.0).0)

-- the digits before a space are fixed
cut-unique : (xs ys us vs : List ℕ) → AllDigits 10 xs → AllDigits 10 ys → xs ++ 32 ∷ us ≡ ys ++ 32 ∷ vs → (xs ≡ ys) × (us ≡ vs)
cut-unique [] [] us vs h g e = (refl, cc)
cut-unique [] (y ∷ ys) us vs h g e = absurd (no_space y ys g (cc))
cut-unique (x ∷ xs) [] us vs h g e = absurd (no_space x xs h (cc))
cut-unique (x ∷ xs) (y ∷ ys) us vs h g e =
    let rest : xs ++ 32 ∷ us ≡ ys ++ 32 ∷ vs = cc in
    let same = cut-unique xs ys us vs h.1 g.1 rest in
    let first : x ≡ y = cc in
    let tail : xs ≡ ys = same.0 in
    (cc, same.1)

-- what follows the first space fixes the form and the text
form-unique : (k l : Form) (t u : List ℕ) → letter k ++ (codes " " ++ t) ≡ letter l ++ (codes " " ++ u) → (k ≡ l) × (t ≡ u)
form-unique Literal Literal t u e = (refl, cc)
form-unique Literal Pattern t u e = let first : ◌≡◌ {A = ℕ} 108 114 = ap (λ (l : List ℕ). get_or l 0 0) e in absurd (omega arith)
form-unique Pattern Literal t u e = let first : ◌≡◌ {A = ℕ} 114 108 = ap (λ (l : List ℕ). get_or l 0 0) e in absurd (omega arith)
form-unique Pattern Pattern t u e = (refl, cc)

-- a line splits into its parts in one way
line-unique : (line : List ℕ) (n m : ℕ) (k l : Form) (t u : List ℕ) → IsLine line n k t → IsLine line m l u → (n ≡ m) × ((k ≡ l) × (t ≡ u))
line-unique line n m k l t u h g =
    let same = cut-unique h.digits g.digits (letter k ++ (codes " " ++ t)) (letter l ++ (codes " " ++ u)) h.precedence.numeral.1 g.precedence.numeral.1 (sym h.parts ∙ g.parts) in
    (h.precedence.value ∙ ap (digits_value 10) same.0 ∙ sym g.precedence.value, form-unique k l t u same.1)

tree-unique : (k : Form) (text : List ℕ) (t u : Tree) → Spells k text t → Spells k text u → t ≡ u
tree-unique Literal text t u h g = h ∙ sym g
tree-unique Pattern text t u h g = one_tree (chars text) t u h g

no_tree_or_tree : (line : List ℕ) (p : ℕ) (t : Tree) → LineSays line NoTree → LineSays line (Terminal p t) → ⊥
no_tree_or_tree line p t h g =
    let same = line-unique line h.0 p Pattern g.0 h.1.0 g.1.0 h.1.1.0 g.1.1.0 in
    let as_pattern = subst (λ k. Spells k g.1.0 t) (sym same.1.0) g.1.1.1 in
    h.1.1.1 t (subst (λ text. Spells Pattern text t) (sym same.1.1) as_pattern)

terminal-unique : (line : List ℕ) (p q : ℕ) (t u : Tree) → LineSays line (Terminal p t) → LineSays line (Terminal q u) → Terminal p t ≡ Terminal q u
terminal-unique line p q t u h g =
    let same = line-unique line p q h.0 g.0 h.1.0 g.1.0 h.1.1.0 g.1.1.0 in
    let of_form = subst (λ k. Spells k g.1.0 u) (sym same.1.0) g.1.1.1 in
    let of_text = subst (λ text. Spells h.0 text u) (sym same.1.1) of_form in
    let trees : t ≡ u = tree-unique h.0 h.1.0 t u h.1.1.1 of_text in
    let numbers : p ≡ q = same.0 in
    cc

-- a line says only one thing
says-unique : (line : List ℕ) (a b : TerminalLine) → LineSays line a → LineSays line b → a ≡ b
says-unique line Bad Bad h g = refl
says-unique line Bad NoTree h g = absurd (h g.0 Pattern g.1.0 g.1.1.0)
says-unique line Bad (Terminal q u) h g = absurd (h q g.0 g.1.0 g.1.1.0)
says-unique line NoTree Bad h g = absurd (g h.0 Pattern h.1.0 h.1.1.0)
says-unique line NoTree NoTree h g = refl
says-unique line NoTree (Terminal q u) h g = absurd (no_tree_or_tree line q u h g)
says-unique line (Terminal p t) Bad h g = absurd (g p h.0 h.1.0 h.1.1.0)
says-unique line (Terminal p t) NoTree h g = absurd (no_tree_or_tree line p t g h)
says-unique line (Terminal p t) (Terminal q u) h g = terminal-unique line p q t u h g

pub terminals-unique : (ls : List (List ℕ)) (ts us : List Tree) (ps qs : List ℕ) → AreTerminals ls ts ps → AreTerminals ls us qs → (ts ≡ us) × (ps ≡ qs)
terminals-unique [] [] [] [] [] h g = (refl, refl)
terminals-unique [] [] [] [] (q ∷ qs) h g = absurd g
terminals-unique [] [] (u ∷ us) [] qs h g = absurd g
terminals-unique [] [] us (p ∷ ps) qs h g = absurd h
terminals-unique [] (t ∷ ts) us ps qs h g = absurd h
terminals-unique (l ∷ ls) [] us ps qs h g = absurd h
terminals-unique (l ∷ ls) (t ∷ ts) us [] qs h g = absurd h
terminals-unique (l ∷ ls) (t ∷ ts) [] (p ∷ ps) qs h g = absurd g
terminals-unique (l ∷ ls) (t ∷ ts) (u ∷ us) (p ∷ ps) [] h g = absurd g
terminals-unique (l ∷ ls) (t ∷ ts) (u ∷ us) (p ∷ ps) (q ∷ qs) h g =
    let same : Terminal p t ≡ Terminal q u = terminal-unique l p q t u h.0 g.0 in
    let rest = terminals-unique ls ts us ps qs h.1 g.1 in
    let numbers : p ≡ q = cc in
    let trees : t ≡ u = cc in
    let ts-same : ts ≡ us = rest.0 in
    let ps-same : ps ≡ qs = rest.1 in
    (cc, cc)

abbrev pub NoTerminal : TerminalLine → Type 0
NoTerminal said = (p : ℕ) (t : Tree) → said ≡ Terminal p t → ⊥

pub stop_or_terminals : (ls : List (List ℕ)) (i : ℕ) (said : TerminalLine) (ts : List Tree) (ps : List ℕ) → NoTerminal said → FirstSays ls i said → AreTerminals ls ts ps → ⊥
stop_or_terminals [] i said ts ps none h g = h
stop_or_terminals (l ∷ ls) i said [] ps none h g = g
stop_or_terminals (l ∷ ls) i said (t ∷ ts) [] none h g = g
stop_or_terminals (l ∷ ls) zero said (t ∷ ts) (p ∷ ps) none h g = none p t (says-unique l said (Terminal p t) h g.0)
stop_or_terminals (l ∷ ls) (suc i) said (t ∷ ts) (p ∷ ps) none h g = stop_or_terminals ls i said ts ps none h.1 g.1

-- the first line that is not a terminal is unique, and says only one thing
pub stop-unique : (ls : List (List ℕ)) (i j : ℕ) (a b : TerminalLine) → NoTerminal a → NoTerminal b → FirstSays ls i a → FirstSays ls j b → (i ≡ j) × (a ≡ b)
stop-unique [] i j a b no_a no_b h g = absurd h
stop-unique (l ∷ ls) zero zero a b no_a no_b h g = (refl, says-unique l a b h g)
stop-unique (l ∷ ls) zero (suc j) a b no_a no_b h g = absurd (no_a g.0.0 g.0.1.0 (says-unique l a (Terminal g.0.0 g.0.1.0) h g.0.1.1))
stop-unique (l ∷ ls) (suc i) zero a b no_a no_b h g = absurd (no_b h.0.0 h.0.1.0 (says-unique l b (Terminal h.0.0 h.0.1.0) g h.0.1.1))
stop-unique (l ∷ ls) (suc i) (suc j) a b no_a no_b h g =
    let same = stop-unique ls i j a b no_a no_b h.1 g.1 in
    (ap suc same.0, same.1)
