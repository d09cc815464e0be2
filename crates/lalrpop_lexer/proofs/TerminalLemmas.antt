-- What lines say, line by line.
use Rattle.std.proofs.Common.{◌≡◌, ℕ, suc, List, [], ◌∷◌, ◌++◌, length, refl, ap}
use Rattle.lalrpop_hir.specs.Tree.{Tree}
use Rattle.lalrpop_lexer.specs.Line.{LineSays}
use Rattle.lalrpop_lexer.specs.Terminals.{AreTerminals, FirstSays}
use Rattle.lalrpop_lexer.specs.declared.terminal_line.TerminalLine.{TerminalLine}
use Rattle.lalrpop_lexer.specs.declared.terminal_line.TerminalLine.TheVariants.{Terminal}

-- one more terminal
pub AreTerminals-push : (ls : List (List ℕ)) (ts : List Tree) (ps : List ℕ) (line : List ℕ) (t : Tree) (p : ℕ) → AreTerminals ls ts ps → LineSays line (Terminal p t) → AreTerminals (ls ++ line ∷ []) (ts ++ t ∷ []) (ps ++ p ∷ [])
AreTerminals-push [] [] [] line t p are says = (says, tt)
AreTerminals-push [] [] (q ∷ ps) line t p are says = absurd are
AreTerminals-push [] (u ∷ ts) ps line t p are says = absurd are
AreTerminals-push (l ∷ ls) [] ps line t p are says = absurd are
AreTerminals-push (l ∷ ls) (u ∷ ts) [] line t p are says = absurd are
AreTerminals-push (l ∷ ls) (u ∷ ts) (q ∷ ps) line t p are says = (are.0, AreTerminals-push ls ts ps line t p are.1 says)

-- the line after some terminals, with what it says
pub FirstSays-after : (ls : List (List ℕ)) (ts : List Tree) (ps : List ℕ) (line : List ℕ) (rest : List (List ℕ)) (said : TerminalLine) → AreTerminals ls ts ps → LineSays line said → FirstSays (ls ++ line ∷ rest) (length ts) said
FirstSays-after [] [] [] line rest said are says = says
FirstSays-after [] [] (q ∷ ps) line rest said are says = absurd are
FirstSays-after [] (u ∷ ts) ps line rest said are says = absurd are
FirstSays-after (l ∷ ls) [] ps line rest said are says = absurd are
FirstSays-after (l ∷ ls) (u ∷ ts) [] line rest said are says = absurd are
FirstSays-after (l ∷ ls) (u ∷ ts) (q ∷ ps) line rest said are says = ((q, (u, are.0)), FirstSays-after ls ts ps line rest said are.1 says)

-- there are as many trees as precedences
pub length-AreTerminals : (ls : List (List ℕ)) (ts : List Tree) (ps : List ℕ) → AreTerminals ls ts ps → length ts ≡ length ps
length-AreTerminals [] [] [] are = refl
length-AreTerminals [] [] (q ∷ ps) are = absurd are
length-AreTerminals [] (u ∷ ts) ps are = absurd are
length-AreTerminals (l ∷ ls) [] ps are = absurd are
length-AreTerminals (l ∷ ls) (u ∷ ts) [] are = absurd are
length-AreTerminals (l ∷ ls) (u ∷ ts) (q ∷ ps) are = ap suc (length-AreTerminals ls ts ps are.1)
