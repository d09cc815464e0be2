-- The answer for bytes and a text that is cut into tokens is unique.
use Rattle.std.proofs.Common.{◌≡◌, ℕ, suc, ◌+◌, inl, inr, List, [], ◌∷◌, ◌++◌, length, map, drop, refl, sym, ap, subst, ◌∙◌, append-nil}
use Rattle.std.specs.Prelude.{Option, Some, None, Ok, Err, flat_map}
use Rattle.lalrpop_hir.specs.Tree.{Tree}
use Rattle.lalrpop_hir.specs.Tokens.{Item, AreItems}
use Rattle.lalrpop_lexer.specs.Longest.{IsLongest, IsMatch}
use Rattle.lalrpop_lexer.proofs.Longests.{longest-unique}
use Rattle.lexdfa_lib.specs.Printed.{line_of}
use Rattle.lexdfa_lib.specs.Whole.{Token, Cuts, IsWhole, token_line, AreAnswers}
use Rattle.lexdfa_lib.specs.declared.outcome.Outcome.{Outcome}
use Rattle.lexdfa_lib.specs.declared.outcome.Outcome.TheVariants.{Match, NoMatch, All, Stopped, Refused, Ambiguous, Syntax, Line}
use Rattle.lexdfa_lib.proofs.Unique.{parts-unique, reported-unique, automaton-unique, reported_or_automaton}

-- the fault after the tokens, if any
abbrev end : Option ℕ → List Item
end None = []
end (Some at) = Err (record { at = at }) ∷ []

record Same (ks ls : List Token) (e f : Option ℕ) : Type 0 where
  faults : e ≡ f
  counts : length ks ≡ length ls
  written : flat_map token_line ks ≡ flat_map token_line ls

-- nothing matches at the end of a text
match_at_end : (ts : List Tree) (rest p : List ℕ) → rest ≡ [] → IsMatch ts rest p → ⊥
match_at_end ts rest p e m = m.1 (no_part p m.0.0 (sym e ∙ m.0.1.0))
  where
    no_part : (p q : List ℕ) → [] ≡ p ++ q → p ≡ []
    no_part [] q e = refl
    no_part (b ∷ p) q e = absurd (cc)

-- where nothing matches there is no token
end_or_token : (ts : List Tree) (ps text : List ℕ) (at : ℕ) (l : Token) (f : Option ℕ) → AreItems ts ps text at (end f) → IsLongest ts ps (drop at text) (Some (l.0, l.1.now)) → ⊥
end_or_token ts ps text at l None h g = match_at_end ts (drop at text) l.1.now h g.0
end_or_token ts ps text at l (Some a) h g = h.0.1 l.1.now g.0

items-unique : (ts : List Tree) (ps text : List ℕ) (at : ℕ) (ks ls : List Token) (e f : Option ℕ)
    → AreItems ts ps text at (map Ok ks ++ end e) → AreItems ts ps text at (map Ok ls ++ end f) → Same ks ls e f
items-unique ts ps text at [] [] None None h g = record { faults = refl; counts = refl; written = refl }
items-unique ts ps text at [] [] None (Some b) h g = absurd (g.0.0 h)
items-unique ts ps text at [] [] (Some a) None h g = absurd (h.0.0 g)
items-unique ts ps text at [] [] (Some a) (Some b) h g = record { faults = ap Some (h.0.2 ∙ sym g.0.2); counts = refl; written = refl }
items-unique ts ps text at [] (l ∷ ls) e f h g = absurd (end_or_token ts ps text at l e h g.0)
items-unique ts ps text at (k ∷ ks) [] e f h g = absurd (end_or_token ts ps text at k f g h.0)
items-unique ts ps text at (k ∷ ks) (l ∷ ls) e f h g =
    let parts = parts-unique k.0 l.0 k.1.now l.1.now (longest-unique ts ps (drop at text) _ _ h.0 g.0) in
    let there = subst (λ n. AreItems ts ps text (at + n) (map Ok ls ++ end f)) (sym parts.1) g.1 in
    let same = items-unique ts ps text (at + length k.1.now) ks ls e f h.1 there in
    record {
      faults = same.faults;
      counts = ap suc same.counts;
      written = ap (λ line. line ++ flat_map token_line ks) (same_line parts.0 parts.1) ∙ ap (λ rest. token_line l ++ rest) same.written;
    }
  where
    same_line : k.0 ≡ l.0 → length k.1.now ≡ length l.1.now → token_line k ≡ token_line l
    same_line d n = ap (λ i. line_of (Match i (length k.1.now))) d ∙ ap (λ m. line_of (Match l.0 m)) n

cuts-unique : (ts : List Tree) (ps text : List ℕ) (ks ls : List Token) (a b : Outcome) → Cuts ts ps text ks a → Cuts ts ps text ls b
    → (a ≡ b) × (flat_map token_line ks ≡ flat_map token_line ls)
cuts-unique ts ps text ks ls (All n) (All m) h g =
    let same = items-unique ts ps text 0 ks ls None None (rw append-nil h.0) (rw append-nil g.0) in
    (ap All (h.1 ∙ same.counts ∙ sym g.1), same.written)
cuts-unique ts ps text ks ls (All n) (Stopped m b) h g =
    let same = items-unique ts ps text 0 ks ls None (Some b) (rw append-nil h.0) g.0 in
    let none : None ≡ Some b = same.faults in
    absurd (cc)
cuts-unique ts ps text ks ls (Stopped n a) (All m) h g =
    let same = items-unique ts ps text 0 ks ls (Some a) None h.0 (rw append-nil g.0) in
    let none : Some a ≡ None = same.faults in
    absurd (cc)
cuts-unique ts ps text ks ls (Stopped n a) (Stopped m b) h g =
    let same = items-unique ts ps text 0 ks ls (Some a) (Some b) h.0 g.0 in
    let faults : Some a ≡ Some b = same.faults in
    let counts : n ≡ m = h.1 ∙ same.counts ∙ sym g.1 in
    (cc, same.written)
cuts-unique ts ps text ks ls (Match i n) b h g = absurd h
cuts-unique ts ps text ks ls NoMatch b h g = absurd h
cuts-unique ts ps text ks ls (Refused i e) b h g = absurd h
cuts-unique ts ps text ks ls (Ambiguous i j w) b h g = absurd h
cuts-unique ts ps text ks ls (Syntax i) b h g = absurd h
cuts-unique ts ps text ks ls (Line i) b h g = absurd h
cuts-unique ts ps text ks ls a (Match i n) h g = absurd g
cuts-unique ts ps text ks ls a NoMatch h g = absurd g
cuts-unique ts ps text ks ls a (Refused i e) h g = absurd g
cuts-unique ts ps text ks ls a (Ambiguous i j w) h g = absurd g
cuts-unique ts ps text ks ls a (Syntax i) h g = absurd g
cuts-unique ts ps text ks ls a (Line i) h g = absurd g

whole-unique : (bytes text : List ℕ) (ks ls : List Token) (a b : Outcome) → IsWhole bytes text ks a → IsWhole bytes text ls b
    → (a ≡ b) × (flat_map token_line ks ≡ flat_map token_line ls)
whole-unique bytes text ks ls a b (inl h) (inl g) = (reported-unique bytes a b h.0 g.0, ap (flat_map token_line) (h.1 ∙ sym g.1))
whole-unique bytes text ks ls a b (inl h) (inr (ts, (ps, (have, cuts)))) = absurd (reported_or_automaton bytes a ts ps h.0 have)
whole-unique bytes text ks ls a b (inr (ts, (ps, (have, cuts)))) (inl g) = absurd (reported_or_automaton bytes b ts ps g.0 have)
whole-unique bytes text ks ls a b (inr (ts, (ps, (have, cuts)))) (inr (us, (qs, (too, also)))) =
    let same = automaton-unique bytes ts us ps qs have too in
    let there = subst (λ (us : List Tree). Cuts us qs text ls b) same.0 also in
    let here = subst (λ (qs : List ℕ). Cuts ts qs text ls b) same.1 there in
    cuts-unique ts ps text ks ls a b cuts here

pub answers-unique : (bytes text : List ℕ) (a b : Outcome) (v w : List ℕ) → AreAnswers bytes text a v → AreAnswers bytes text b w → (a ≡ b) × (v ≡ w)
answers-unique bytes text a b v w h g =
    let same = whole-unique bytes text h.0 g.0 a b h.1.0 g.1.0 in
    let told : line_of a ≡ line_of b = ap line_of same.0 in
    let slices : flat_map token_line h.0 ≡ flat_map token_line g.0 = same.1 in
    (same.0, h.1.1 ∙ ap (λ (l : List ℕ). l ++ line_of a) slices ∙ ap (λ (l : List ℕ). flat_map token_line g.0 ++ l) told ∙ sym g.1.1)
