-- One of several words.
use Rattle.std.proofs.Common.{◌≡◌, ◌≢◌, ℕ, ◌<◌, ◌≤◌, ◌+◌, inl, inr, refl, true, false, List, ◌++◌, length, get_or, take, take_all, drop, Contains, ap, sym, subst, ◌∙◌, Bor}
use Rattle.std.proofs.lemmas.Bool.{false≢true}
use Rattle.std.proofs.lemmas.List.{take-append-drop, take_at}
use Rattle.std.proofs.lemmas.List.Elements.{Contains-push_cases}
use lib.Pointwise.{pointwise, bytes_decides}
use lib.Dec.{eqb}
use Rattle.lalrpop_rule_file.specs.Internal.Lines.{names_in}
use Rattle.lalrpop_rule_file.proofs.ModeNumbers.{is_there, name_at, names_more}

-- ---- a word at the front

pub word_there : (text word rest : List ℕ) → pointwise eqb (take (length word) text) word ≡ true → rest ≡ drop (length word) text → text ≡ word ++ rest
word_there text word rest same behind =
    sym (take-append-drop (length word) text) ∙ ap (λ (front : List ℕ). front ++ drop (length word) text) ((bytes_decides (take (length word) text) word).0 same) ∙ ap (λ (x : List ℕ). word ++ x) (sym behind)

pub no_word_there : (text word : List ℕ) → pointwise eqb (take (length word) text) word ≡ false → (rest : List ℕ) → text ≢ word ++ rest
no_word_there text word other rest is =
    let front : take (length word) text ≡ word = ap (take (length word)) is ∙ take_at word rest (length word) refl in
    false≢true (sym other ∙ (bytes_decides (take (length word) text) word).1 front)

-- ---- words in turn

-- no word of these is such a one
abbrev pub IsNone : (List ℕ → Type 0) → List (List ℕ) → Type 0
IsNone Is words = (word : List ℕ) → Contains words word → ¬ Is word

pub none_further : (Is : List ℕ → Type 0) (words : List (Bor (List ℕ))) (i : ℕ) (d : Bor (List ℕ)) → i < length words → IsNone Is (names_in (take i words)) → ¬ Is (get_or words i d).now → IsNone Is (names_in (take (i + 1) words))
none_further Is words i d within none here word has =
    elim (Contains-push_cases (names_in (take i words)) (get_or words i d).now word (rw (names_more words i d within) at has)) [
      | inl before ↦ none word before
      | inr same ↦ subst (λ (w : List ℕ). ¬ Is w) same here
    ]

pub none_of_all : (Is : List ℕ → Type 0) (words : List (Bor (List ℕ))) (n : ℕ) → length words ≤ n → IsNone Is (names_in (take n words)) → IsNone Is (names_in words)
none_of_all Is words n all none = subst (λ (ws : List (Bor (List ℕ))). IsNone Is (names_in ws)) (take_all n words all) none

pub one_there : (words : List (Bor (List ℕ))) (i : ℕ) (d : Bor (List ℕ)) → i < length words → Contains (names_in words) (get_or words i d).now
one_there words i d within = is_there (names_in words) (get_or words i d).now i (name_at words i d within)
