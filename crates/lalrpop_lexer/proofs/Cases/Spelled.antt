-- Cases of specs/Spelled.antt.
use Rattle.std.proofs.Common.{◌≡◌, ◌≢◌, ℕ, List, [], ◌∷◌, get_or, codes, refl, sym, ap, subst, arith}
use Rattle.std.proofs.lemmas.Option.{same_Some}
use Rattle.std.specs.Borrow.{Bor}
use Rattle.std.specs.Str.{chars}
use Rattle.lalrpop_hir.specs.Tree.{Tree, literal}
use Rattle.lalrpop_hir.specs.Parts.{of_text}
use Rattle.lalrpop_lexer.specs.Spelled.{Spells, AreSpelled, IsNotSpelled, IsLexerError, texts_of}
use Rattle.lalrpop_lexer.specs.declared.error.LexerError.TheVariants.{Syntax, OutOfMemory}
use Rattle.lalrpop_lexer.specs.declared.form.Form.{Form}
use Rattle.lalrpop_lexer.specs.declared.form.Form.TheVariants as forms
use Rattle.lalrpop_re.specs.declared.error.SyntaxKind.{SyntaxKind}

-- a literal spells its text, whatever stands in it
literal_spells_its_text : Spells forms.Literal (codes "a*") (literal (codes "a*"))
unfolding chars
literal_spells_its_text = refl

abbrev first_of : Tree → ℕ
first_of (literal cs) = get_or cs 0 0
first_of t = 0

literal_does_not_spell_another_text : ¬ Spells forms.Literal (codes "a") (literal (codes "b"))
unfolding chars
literal_does_not_spell_another_text e = let m : 98 ≡ 97 = ap first_of e in omega (arith, m)

no_texts : AreSpelled [] []
no_texts = tt

text_without_a_tree : (x : Form × List ℕ) → ¬ AreSpelled (x ∷ []) []
text_without_a_tree x are = are

tree_without_a_text : (t : Tree) → ¬ AreSpelled [] (t ∷ [])
tree_without_a_text t are = are

-- each text spells the tree at its place
second_literal_of_another_text : (t u : Tree) → u ≢ of_text (codes "b") → ¬ AreSpelled ((forms.Literal, codes "a") ∷ (forms.Literal, codes "b") ∷ []) (t ∷ u ∷ [])
second_literal_of_another_text t u other are = other are.1.0

-- a literal always spells a tree
literal_not_spelled : (text : List ℕ) (position : ℕ) → ¬ IsNotSpelled ((forms.Literal, text) ∷ []) 0 position
literal_not_spelled text position is =
    let mine : Form × List ℕ = (forms.Literal, text) in
    let theirs : Form × List ℕ = (is.form, is.text) in
    let same : mine ≡ theirs = same_Some mine theirs is.at in
    subst (λ (x : Form × List ℕ). (t : Tree) → ¬ Spells x.0 x.1 t) (sym same) is.none (of_text text) refl

none_of_no_texts : (i position : ℕ) → ¬ IsNotSpelled [] i position
none_of_no_texts i position is = let e = is.at in absurd (cc)

-- of a list it is always said which text does not parse
place_left_out : (xs : List (Form × List ℕ)) (ps : List ℕ) (position : ℕ) (kind : SyntaxKind) → ¬ IsLexerError xs ps (Syntax position kind)
place_left_out xs ps position kind is = is

refused_memory_is_right : (xs : List (Form × List ℕ)) (ps : List ℕ) → IsLexerError xs ps OutOfMemory
refused_memory_is_right xs ps = tt

texts_in_their_order : (a b : Bor (List ℕ)) → a.now ≡ codes "a" → b.now ≡ codes "b"
    → texts_of ((record { 0 = 1 }, forms.Literal, a) ∷ (record { 0 = 0 }, forms.Pattern, b) ∷ []) ≡ (forms.Literal, codes "a") ∷ (forms.Pattern, codes "b") ∷ []
texts_in_their_order a b e f = rw (e, f) refl
