-- Marks are taken out of what is shown, token by token.
use Rattle.std.proofs.Common.{◌≡◌, ℕ, suc, true, false, inl, inr, List, [], ◌∷◌, ◌++◌, refl, sym, ap, ◌∙◌, append_assoc, append-nil, arith, Bor}
use Rattle.std.specs.Prelude.{Option, Some, None, Ok}
use Rattle.std.specs.List.{list_all, AllPass}
use Rattle.std.proofs.lemmas.Bool.{not-true}
use Rattle.std.proofs.lemmas.List.Sums.{AllPass-from_list_all}
use Rattle.lalrpop_lexer.specs.Cutting.{Cutting, rest_of, start_of, GivesItem}
use Rattle.lalrpop_lexer.specs.Dfa.{Row}
use Rattle.lalrpop_lexer.specs.Tokens.{Item}
use Rattle.lalrpop_lexer.proofs.Cuttings.{rest_behind}
use Rattle.guide.specs.Marks.{without_marks}
use Rattle.guide.specs.Internal.Shows.{Shows, is_plain_byte}

-- bytes that begin no mark are left as they are
plain-left : (xs rest : List ℕ) → AllPass is_plain_byte xs → without_marks (xs ++ rest) ≡ xs ++ without_marks rest
plain-left [] rest h = refl
plain-left (b ∷ xs) rest h =
    let first : is_plain_byte b ≡ true = h 0 0 (omega arith) in
    rw (not-true _ first) (ap (λ (l : List ℕ). b ∷ l) (plain-left xs rest (λ k d l. h (suc k) d (omega arith))))

-- a mark and a slice without marks more
pub Shows-more : (old mark slice now text : List ℕ) → Shows mark [] → list_all is_plain_byte slice ≡ true → now ≡ (old ++ mark) ++ slice
    → Shows old text → Shows now (text ++ slice)
Shows-more old mark slice now text m p e h rest =
    ap (λ (l : List ℕ). without_marks (l ++ rest)) e
    ∙ ap without_marks (append_assoc (old ++ mark) slice rest ∙ append_assoc old mark (slice ++ rest))
    ∙ h (mark ++ (slice ++ rest))
    ∙ ap (λ (l : List ℕ). text ++ l) (m (slice ++ rest) ∙ plain-left slice rest (AllPass-from_list_all is_plain_byte slice p))
    ∙ sym (append_assoc text slice (without_marks rest))

-- what is shown so far is the text up to where the rest begins
pub record ShowsFront (shown text : List ℕ) (s : Cutting) : Type 0 where
  pub front : List ℕ
  pub shows : Shows shown front
  pub parts : text ≡ front ++ rest_of s
  pub going : s.is_over ≡ false

pub front-start : (shown : List ℕ) (s r : Cutting) (d : List Row) (text : List ℕ) (spare : Option ℕ) → shown ≡ [] → r ≡ s → s ≡ start_of d text spare → ShowsFront shown text r
front-start shown s r d text spare none same e = record {
  front = [];
  shows = λ rest. ap (λ (l : List ℕ). without_marks (l ++ rest)) none;
  parts = sym (ap rest_of same ∙ ap rest_of e);
  going = ap (λ (x : Cutting). x.is_over) same ∙ ap (λ (x : Cutting). x.is_over) e;
}

pub front-more : (old new text : List ℕ) (s t : Cutting) (x : Item) (m : ℕ × Bor (List ℕ)) → ShowsFront old text s → x ≡ Ok m → GivesItem s (Some x) t
    → ((front : List ℕ) → Shows old front → Shows new (front ++ m.1.now)) → ShowsFront new text t
front-more old new text s t x m h is gives step =
    let g : GivesItem s (Some (Ok m)) t = rw is at gives in
    let split : rest_of s ≡ m.1.now ++ rest_of t = rest_behind s t m.1.now g.1 g.4 in
    record {
      front = h.front ++ m.1.now;
      shows = step h.front h.shows;
      parts = h.parts ∙ ap (λ (l : List ℕ). h.front ++ l) split ∙ sym (append_assoc h.front m.1.now (rest_of t));
      going = ap (λ (x : Cutting). x.is_over) g.4 ∙ g.0;
    }

-- where no token follows, that is the whole text
pub front-whole : (shown text : List ℕ) (s t : Cutting) → ShowsFront shown text s → GivesItem s None t → without_marks shown ≡ text
front-whole shown text s t h (same, end) = elim end [
  | inl over ↦ (let going = h.going in absurd (cc (over, going)))
  | inr none ↦ ap without_marks (sym (append-nil shown)) ∙ h.shows [] ∙ sym (ap (λ (l : List ℕ). h.front ++ l) none) ∙ sym h.parts
]
