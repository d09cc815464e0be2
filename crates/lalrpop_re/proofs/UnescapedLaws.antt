-- A text with escapes says one text at most, which a reader finds.
use Rattle.std.proofs.Common.{◌≡◌, ℕ, inl, inr, true, false, List, [], ◌∷◌, Some, refl, sym, ap, ◌∙◌, subst}
use Rattle.lalrpop_re.specs.Text.{Text}
use Rattle.lalrpop_re.specs.CharacterSet.{is_one_of}
use Rattle.lalrpop_re.specs.Escape.{Escaped, character}
use Rattle.lalrpop_re.specs.Escaped.{is_escaped, escaped}
use Rattle.lalrpop_re.specs.Unescaped.{Unescapes, at_end, itself, by_escape}
use Rattle.lalrpop_re.specs.Internal.Reading.{primary, escape}
use Rattle.lalrpop_re.proofs.Steps.{decided, chosen, some_is, is_one}
use Rattle.lalrpop_re.proofs.Escapes.{escape_sound, Escape-complete}
use Rattle.lalrpop_re.proofs.EscapedLemmas.{escaped_mark, mark_escape}

-- the first character that a text says, and what follows
pub record Says (t : Text) (cs : List ℕ) : Type 0 where
  pub first : ℕ
  pub others : List ℕ
  pub rest : Text
  pub is : cs ≡ first ∷ others
  pub read : primary t ≡ Some (character first, rest)
  pub later : Unescapes rest others

pub says_nothing : (cs : List ℕ) → Unescapes [] cs → cs ≡ []
says_nothing cs at_end = refl

pub says_first : (c : ℕ) (t : Text) (cs : List ℕ) → Unescapes (c ∷ t) cs → Says (c ∷ t) cs
unfolding primary
says_first c t cs (itself {cs = ds} n u) = record { first = c; others = ds; rest = t; is = refl; read = rw n refl; later = u }
says_first c t cs (by_escape {r = r} {c = d} {cs = ds} e u) = record { first = d; others = ds; rest = r; is = refl; read = Escape-complete e; later = u }

pub says_next : (t r : Text) (c : ℕ) (cs : List ℕ) → primary t ≡ Some (character c, r) → Unescapes r cs → Unescapes t (c ∷ cs)
unfolding primary
says_next [] r c cs e u = absurd cc
says_next (d ∷ t) r c cs e u = elim (chosen (is_one_of "\\" d) (escape t) (Some (character d, t)) _ e) [
  | inl h ↦ subst (λ b. Unescapes (b ∷ t) (c ∷ cs)) (is_one 92 d h.0) (by_escape (escape_sound t (character c, r) h.1) u)
  | inr h ↦
      let same = some_is {A = Escaped × Text} (character d, t) (character c, r) h.1 in
      let characters : character d ≡ character c = ap (λ (x : Escaped × Text). x.0) same in
      let one : d ≡ c = cc in
      let behind : t ≡ r = ap (λ (x : Escaped × Text). x.1) same in
      subst (λ b. Unescapes (d ∷ t) (b ∷ cs)) one (itself h.0 (subst (λ s. Unescapes s cs) (sym behind) u))
]

-- what escaping makes of a text says the text
pub escaped_says : (cs : List ℕ) → Unescapes (escaped cs) cs
unfolding escaped
escaped_says [] = at_end
escaped_says (c ∷ cs) = elim (decided (is_escaped c)) [
  | inl h ↦ rw h (by_escape (mark_escape c (escaped cs) (escaped_mark c h)) (escaped_says cs))
  | inr h ↦ rw h (itself (no_backslash c h) (escaped_says cs))
]
  where
    no_backslash : (d : ℕ) → is_escaped d ≡ false → is_one_of "\\" d ≡ false
    no_backslash d h = elim (decided (is_one_of "\\" d)) [
      | inl e ↦ absurd (let q : true ≡ false = ap is_escaped (is_one 92 d e) ∙ h in cc)
      | inr e ↦ e
    ]
