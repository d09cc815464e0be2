-- Trees as lists of tokens, by which proofs tell trees apart: the parts of a tree, and then the tree's own token.
use Rattle.std.specs.Prelude.{◌≡◌, ℕ, zero, suc, List, [], ◌∷◌, Bool, Option, refl, ◌⊎◌}
use Rattle.std.specs.Coded.{Coded, code_by, coded×, coded⊎, coded_ℕ, coded_bool, coded_list, coded_option}
use Rattle.std.proofs.Common.{inl, inr, ◌∙◌, ap}
use Rattle.lalrpop_hir.specs.Range.{Range}
use Rattle.lalrpop_hir.specs.Tree.{Class, unicode, bytes, Tree, empty, literal, class, look, repetition, capture, concat, alternation, Trees, none, also}
use Rattle.lalrpop_hir.specs.Parts.{Repeated, Captured}
use Rattle.lalrpop_hir.specs.declared.look.Look.{Look}
use Rattle.lalrpop_hir.specs.Internal.Looks.{number_of_look, look_of_number, look_of_number_of_look}

-- a range is stored as the pair of its ends
abbrev pub range_code : Coded Range
range_code =
    code_by (ℕ × ℕ) (coded× coded_ℕ coded_ℕ) (λ r. (r.start, r.end)) (λ p. record { start = p.0; end = p.1 }) (λ _. refl)

-- a number for a token that carries nothing, otherwise what the token carries
abbrev pub Token : Type 0
Token = ℕ ⊎ (List ℕ ⊎ (List Range ⊎ (List Range ⊎ (ℕ ⊎ ((ℕ × (Option ℕ × Bool)) ⊎ Option (List ℕ))))))

abbrev pub token_code : Coded Token
token_code =
    coded⊎ coded_ℕ
    (coded⊎ (coded_list coded_ℕ)
    (coded⊎ (coded_list range_code)
    (coded⊎ (coded_list range_code)
    (coded⊎ coded_ℕ
    (coded⊎ (coded× coded_ℕ (coded× (coded_option coded_ℕ) coded_bool)) (coded_option (coded_list coded_ℕ)))))))

abbrev plain : ℕ → Token
plain n = inl n

abbrev of_literal : List ℕ → Token
of_literal cs = inr (inl cs)

abbrev of_class : Class → Token
of_class (unicode rs) = inr (inr (inl rs))
of_class (bytes rs) = inr (inr (inr (inl rs)))

abbrev of_look : Look → Token
of_look l = inr (inr (inr (inr (inl (number_of_look l)))))

abbrev of_repetition : ℕ → Option ℕ → Bool → Token
of_repetition min max greedy = inr (inr (inr (inr (inr (inl (min, (max, greedy)))))))

abbrev of_capture : Option (List ℕ) → Token
of_capture name = inr (inr (inr (inr (inr (inr name)))))

-- the tokens of a tree, before further tokens
abbrev mutual
  pub tokens_before : Tree → List Token → List Token
  tokens_before empty k = plain 0 ∷ k
  tokens_before (literal cs) k = of_literal cs ∷ k
  tokens_before (class c) k = of_class c ∷ k
  tokens_before (look l) k = of_look l ∷ k
  tokens_before (repetition min max greedy t) k = tokens_before t (of_repetition min max greedy ∷ k)
  tokens_before (capture name t) k = tokens_before t (of_capture name ∷ k)
  tokens_before (concat ts) k = list_before ts (plain 1 ∷ k)
  tokens_before (alternation ts) k = list_before ts (plain 2 ∷ k)

  pub list_before : Trees → List Token → List Token
  list_before none k = plain 3 ∷ k
  list_before (also t ts) k = tokens_before t (list_before ts (plain 4 ∷ k))

-- the trees and the lists of trees that were read and are not used yet, the newest first
abbrev Seen : Type 0
Seen = List Tree × List Trees

-- one token
abbrev next : Token → List Tree → List Trees → Seen
next (inl zero) xs ys = (empty ∷ xs, ys)
next (inl (suc zero)) xs [] = (xs, [])
next (inl (suc zero)) xs (b ∷ ys) = (concat b ∷ xs, ys)
next (inl (suc (suc zero))) xs [] = (xs, [])
next (inl (suc (suc zero))) xs (b ∷ ys) = (alternation b ∷ xs, ys)
next (inl (suc (suc (suc zero)))) xs ys = (xs, none ∷ ys)
next (inl (suc (suc (suc (suc n))))) xs [] = (xs, [])
next (inl (suc (suc (suc (suc n))))) [] (b ∷ ys) = ([], b ∷ ys)
next (inl (suc (suc (suc (suc n))))) (a ∷ xs) (b ∷ ys) = (xs, also a b ∷ ys)
next (inr (inl cs)) xs ys = (literal cs ∷ xs, ys)
next (inr (inr (inl rs))) xs ys = (class (unicode rs) ∷ xs, ys)
next (inr (inr (inr (inl rs)))) xs ys = (class (bytes rs) ∷ xs, ys)
next (inr (inr (inr (inr (inl n))))) xs ys = (look (look_of_number n) ∷ xs, ys)
next (inr (inr (inr (inr (inr (inl r)))))) [] ys = ([], ys)
next (inr (inr (inr (inr (inr (inl r)))))) (a ∷ xs) ys = (repetition r.0 r.1.0 r.1.1 a ∷ xs, ys)
next (inr (inr (inr (inr (inr (inr name)))))) [] ys = ([], ys)
next (inr (inr (inr (inr (inr (inr name)))))) (a ∷ xs) ys = (capture name a ∷ xs, ys)

abbrev first : List Tree → Tree
first [] = empty
first (a ∷ xs) = a

-- the tree that the tokens spell
abbrev read : List Token → List Tree → List Trees → Tree
read [] xs ys = first xs
read (t ∷ ts) xs ys = read ts (next t xs ys).0 (next t xs ys).1

class_is_read : (c : Class) (k : List Token) (xs : List Tree) (ys : List Trees) → read (of_class c ∷ k) xs ys ≡ read k (class c ∷ xs) ys
class_is_read (unicode rs) k xs ys = refl
class_is_read (bytes rs) k xs ys = refl

mutual
  tree_is_read : (t : Tree) (k : List Token) (xs : List Tree) (ys : List Trees) → read (tokens_before t k) xs ys ≡ read k (t ∷ xs) ys
  tree_is_read empty k xs ys = refl
  tree_is_read (literal cs) k xs ys = refl
  tree_is_read (class c) k xs ys = class_is_read c k xs ys
  tree_is_read (look l) k xs ys = ap (λ m. read k (look m ∷ xs) ys) (look_of_number_of_look l)
  tree_is_read (repetition min max greedy t) k xs ys = tree_is_read t (of_repetition min max greedy ∷ k) xs ys
  tree_is_read (capture name t) k xs ys = tree_is_read t (of_capture name ∷ k) xs ys
  tree_is_read (concat ts) k xs ys = list_is_read ts (plain 1 ∷ k) xs ys
  tree_is_read (alternation ts) k xs ys = list_is_read ts (plain 2 ∷ k) xs ys

  list_is_read : (ts : Trees) (k : List Token) (xs : List Tree) (ys : List Trees) → read (list_before ts k) xs ys ≡ read k xs (ts ∷ ys)
  list_is_read none k xs ys = refl
  list_is_read (also t ts) k xs ys =
      tree_is_read t (list_before ts (plain 4 ∷ k)) xs ys ∙ list_is_read ts (plain 4 ∷ k) (t ∷ xs) ys

pub tree_back : (t : Tree) → read (tokens_before t []) [] [] ≡ t
tree_back t = tree_is_read t [] [] []

abbrev pub tree_code : Coded Tree
tree_code = code_by (List Token) (coded_list token_code) (λ t. tokens_before t []) (λ ts. read ts [] []) tree_back

abbrev pub repeated_code : Coded Repeated
repeated_code =
    code_by (ℕ × (Option ℕ × (Bool × Tree))) (coded× coded_ℕ (coded× (coded_option coded_ℕ) (coded× coded_bool tree_code)))
    (λ r. (r.min, (r.max, (r.greedy, r.sub))))
    (λ p. record { min = p.0; max = p.1.0; greedy = p.1.1.0; sub = p.1.1.1 })
    (λ _. refl)

abbrev pub captured_code : Coded Captured
captured_code =
    code_by (Option (List ℕ) × Tree) (coded× (coded_option (coded_list coded_ℕ)) tree_code)
    (λ c. (c.name, c.sub))
    (λ p. record { name = p.0; sub = p.1 })
    (λ _. refl)
