-- cases: proofs/Cases/Spelled.antt
-- Texts, and the trees that they spell.
use Rattle.std.specs.Prelude.{◌≡◌, ℕ, ◌<◌, List, [], ◌∷◌, map, slice_get, Some}
use Rattle.std.specs.Borrow.{Bor}
use Rattle.std.specs.Str.{chars, IsCharBoundary}
use Rattle.lalrpop_hir.specs.Tree.{Tree}
use Rattle.lalrpop_hir.specs.Clash.{IsClash}
use Rattle.lalrpop_hir.specs.Report.{NoFault, FirstFault}
use Rattle.lalrpop_hir.specs.declared.precedence.Precedence.{Precedence}
use Rattle.lalrpop_hir.specs.Parts.{of_text}
use Rattle.lalrpop_re.specs.Pattern.{Pattern}
use Rattle.lalrpop_lexer.specs.declared.form.Form.{Form}
use Rattle.lalrpop_lexer.specs.declared.form.Form.TheVariants as forms
use Rattle.lalrpop_lexer.specs.declared.error.LexerError.{LexerError}
use Rattle.lalrpop_lexer.specs.declared.error.LexerError.TheVariants.{Syntax, NotParsed, NotCompiled, Clash, OutOfMemory}

-- the text of this form spells the tree: a literal the tree of the text itself, a pattern the tree of the grammar
abbrev pub Spells : Form → List ℕ → Tree → Type 0
Spells forms.Literal text t = t ≡ of_text text
Spells forms.Pattern text t = Pattern (chars text) t

-- each text, of its form, spells its tree
abbrev pub AreSpelled : List (Form × List ℕ) → List Tree → Type 0
AreSpelled [] [] = Unit {0}
AreSpelled (x ∷ xs) (t ∷ ts) = Spells x.0 x.1 t × AreSpelled xs ts
AreSpelled _ _ = ⊥

-- text i is the first that spells no tree, and the place is where one of its characters begins, or its end
pub record IsNotSpelled (xs : List (Form × List ℕ)) (i position : ℕ) : Type 0 where
  pub form : Form
  pub text : List ℕ
  pub at : slice_get xs i ≡ Some (form, text)
  pub none : (t : Tree) → ¬ Spells form text t
  pub points : IsCharBoundary text position
  pub before : (j : ℕ) (x : Form × List ℕ) → j < i → slice_get xs j ≡ Some x → (t : Tree) × Spells x.0 x.1 t

-- the forms and texts of patterns that come with their precedences
abbrev pub texts_of : List (Precedence × Form × Bor (List ℕ)) → List (Form × List ℕ)
texts_of patterns = map (λ p. (p.1, p.2.now)) patterns

-- the error is right: the first text that spells no tree; else the first tree that can't be compiled; else the clash; or memory
-- was refused
abbrev pub IsLexerError : List (Form × List ℕ) → List ℕ → LexerError → Type 0
IsLexerError xs ps (Syntax position kind) = ⊥
IsLexerError xs ps (NotParsed i position kind) = IsNotSpelled xs i position
IsLexerError xs ps (NotCompiled i e) = (ts : List Tree) × (AreSpelled xs ts × FirstFault ts i e)
IsLexerError xs ps (Clash i j w) = (ts : List Tree) × (AreSpelled xs ts × NoFault ts × IsClash ts ps w.items i j)
IsLexerError xs ps OutOfMemory = Unit {0}
