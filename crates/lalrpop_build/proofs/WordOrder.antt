-- Laws of the shortlex order.
use Rattle.std.proofs.Common.{◌≡◌, ℕ, ◌<◌, ◌≤◌, inl, inr, ⊎_elim, List, [], ◌∷◌, ◌++◌, refl, arith, append_assoc}
use Rattle.std.proofs.lemmas.List.{length_push, append-nil}
use Rattle.std.proofs.lemmas.Bool.{cases_order}
use Rattle.lalrpop_hir.specs.Word.{FirstDifferenceLess, Shortlex}
use Rattle.lalrpop_hir.proofs.Words.{Shortlex-transitive}
use Rattle.lalrpop_build.specs.Internal.BreadthFirst.{ShortlexAtMost}

pub lex_push : (v w : List ℕ) (a b : ℕ) → FirstDifferenceLess v w → FirstDifferenceLess (v ++ a ∷ []) (w ++ b ∷ [])
lex_push [] w a b h = absurd h
lex_push (x ∷ v) [] a b h = absurd h
lex_push (x ∷ v) (y ∷ w) a b (inl h) = inl h
lex_push (x ∷ v) (y ∷ w) a b (inr h) = inr (h.0, lex_push v w a b h.1)

pub lex_last : (v : List ℕ) (a b : ℕ) → a < b → FirstDifferenceLess (v ++ a ∷ []) (v ++ b ∷ [])
lex_last [] a b h = inl h
lex_last (x ∷ v) a b h = inr (refl, lex_last v a b h)

pub less_push : (v w : List ℕ) (a b : ℕ) → Shortlex v w → Shortlex (v ++ a ∷ []) (w ++ b ∷ [])
less_push v w a b (inl h) = inl (omega (arith, length_push v a, length_push w b))
less_push v w a b (inr h) = inr (omega (arith, h.0, length_push v a, length_push w b), lex_push v w a b h.1)

pub less_last : (v : List ℕ) (a b : ℕ) → a < b → Shortlex (v ++ a ∷ []) (v ++ b ∷ [])
less_last v a b h = inr (omega (arith, length_push v a, length_push v b), lex_last v a b h)

pub less_longer : (v : List ℕ) (a : ℕ) → Shortlex v (v ++ a ∷ [])
less_longer v a = inl (omega (arith, length_push v a))

pub nil_less : (v : List ℕ) (a : ℕ) → Shortlex [] (v ++ a ∷ [])
nil_less v a = inl (omega (arith, length_push v a))

pub at_most_push : (v w : List ℕ) (a b : ℕ) → ShortlexAtMost v w → a ≤ b → ShortlexAtMost (v ++ a ∷ []) (w ++ b ∷ [])
at_most_push v w a b (inr h) l = inr (less_push v w a b h)
at_most_push v w a b (inl e) l =
    ⊎_elim (λ (same : a ≡ b). inl (cc)) (⊎_elim (λ (h : a < b). inr (rw (← e) (less_last v a b h))) (λ (h : b < a). absurd (omega arith))) (cases_order a b)

-- v at most w and w less than u
pub at_most_less : (v w u : List ℕ) → ShortlexAtMost v w → Shortlex w u → Shortlex v u
at_most_less v w u (inl e) h = rw e h
at_most_less v w u (inr k) h = Shortlex-transitive v w u k h

pub less_at_most : (v w u : List ℕ) → Shortlex v w → ShortlexAtMost w u → Shortlex v u
less_at_most v w u h (inl e) = rw (← e) h
less_at_most v w u h (inr k) = Shortlex-transitive v w u h k

-- induction on words from their end
pub from_the_end : (P : List ℕ → Type 0) → P [] → ((u : List ℕ) (c : ℕ) → P u → P (u ++ c ∷ [])) → (w : List ℕ) → P w
from_the_end P none more w = go w [] none
  where
    go : (rest done : List ℕ) → P done → P (done ++ rest)
    go [] done h = rw append-nil h
    go (c ∷ rest) done h = let k : P ((done ++ c ∷ []) ++ rest) = go rest (done ++ c ∷ []) (more done c h) in rw append_assoc at k
