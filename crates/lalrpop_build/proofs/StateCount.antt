-- How many sets of items there can be.
use Rattle.std.proofs.Common.{◌≡◌, ℕ, zero, suc, ◌+◌, ◌*◌, ◌^◌, ◌<◌, ◌≤◌, inl, inr, List, [], ◌∷◌, length, map, refl, sym, ap, subst, ◌∙◌, arith, Bool, true, false, cond, ◌&&◌, ◌==◌, eqb, get_or, Some, sum_by, length-append, eqb-true, eq-eqb, ne_eqb}
use Rattle.std.specs.List.{Contains, slice_get, list_any}
use Rattle.std.proofs.lemmas.Bool.{and_parts, and_from}
use Rattle.std.proofs.lemmas.List.{get_or-map, length-map}
use Rattle.std.proofs.lemmas.List.Sums.{sum_by-cons}
use Rattle.std.proofs.lemmas.Map.Steps.{length-le_from_distinct_below}
use Rattle.std.proofs.lemmas.Map.Keys.{IsDistinct-from_apart}
use Rattle.std.proofs.lemmas.Map.Views.{Contains-from_any}
use Rattle.lalrpop_hir.specs.Tree.{Tree}
use Rattle.lalrpop_hir.specs.Size.{size}
use Rattle.lalrpop_nfa.specs.Graph.{Graph}
use Rattle.lalrpop_nfa.specs.Compiled.{IsCompiled}
use Rattle.lalrpop_nfa.specs.Automata.{AreCompiled}
use Rattle.lalrpop_dfa.specs.Ascending.{Item, AreAscendingItems}
use Rattle.lalrpop_build.specs.Internal.Given.{IsItemOf}
use Rattle.lalrpop_build.specs.Internal.Subsets.{items_below, items_from, all_items, first_set_of}
use Rattle.lalrpop_build.specs.Internal.BreadthFirst.{IsBreadthFirst, after, word}
use Rattle.lalrpop_build.specs.Internal.Built.{subset_automaton}
use Rattle.lalrpop_hir.proofs.Members.{Has, has_from, contains_from, any_from_has, has_from_any}
use Rattle.lalrpop_build.proofs.WordOrder.{from_the_end}
use Rattle.lalrpop_build.proofs.BreadthFirst.{after_push, word_reaches}
use Rattle.lalrpop_build.proofs.Sets.{all_items_have, first_set_items, move_items, same_items}
use Rattle.lalrpop_build.proofs.ReachedItems.{after_ascends}

-- a list of tests as a number
abbrev code : List Bool → ℕ
code [] = 0
code (b ∷ bs) = cond b 1 0 + 2 * code bs

code_below : (bs : List Bool) → code bs < 2 ^ length bs
code_below [] = omega arith
code_below (true ∷ bs) = let h : code bs < 2 ^ length bs = code_below bs in let e : 2 ^ suc (length bs) ≡ 2 * 2 ^ length bs = grind arith in omega (arith, e)
code_below (false ∷ bs) = let h : code bs < 2 ^ length bs = code_below bs in let e : 2 ^ suc (length bs) ≡ 2 * 2 ^ length bs = grind arith in omega (arith, e)

code_same : (xs ys : List Bool) → length xs ≡ length ys → code xs ≡ code ys → xs ≡ ys
code_same [] [] l e = refl
code_same [] (b ∷ ys) l e = absurd (omega arith)
code_same (a ∷ xs) [] l e = absurd (omega arith)
code_same (true ∷ xs) (true ∷ ys) l e = ap (λ (bs : List Bool). true ∷ bs) (code_same xs ys (omega arith) (omega arith))
code_same (true ∷ xs) (false ∷ ys) l e = absurd (omega arith)
code_same (false ∷ xs) (true ∷ ys) l e = absurd (omega arith)
code_same (false ∷ xs) (false ∷ ys) l e = ap (λ (bs : List Bool). false ∷ bs) (code_same xs ys (omega arith) (omega arith))

-- at most 2 ^ k things differ in k tests
at_most_power : {S : Type 0} (f : S → List Bool) (sets : List S) (k : ℕ) (d : S) → ((s : S) → length (f s) ≡ k)
    → ((i j : ℕ) → i < length sets → j < length sets → f (get_or sets i d) ≡ f (get_or sets j d) → i ≡ j) → length sets ≤ 2 ^ k
at_most_power {S} f sets k d long one =
    let n : length (map g sets) ≡ length sets = length-map sets g in
    let most : length (map g sets) ≤ 2 ^ k = length-le_from_distinct_below (map g sets) (2 ^ k) (IsDistinct-from_apart eqb (map g sets) apart) below in
    omega arith
  where
    g : S → ℕ
    g s = code (f s)

    at : (i e : ℕ) → i < length sets → get_or (map g sets) i e ≡ code (f (get_or sets i d))
    at i e l = get_or-map g sets i d e l

    apart : (i j e : ℕ) → i < j → j < length (map g sets) → eqb (get_or (map g sets) i e) (get_or (map g sets) j e) ≡ false
    apart i j e a l =
        let n : length (map g sets) ≡ length sets = length-map sets g in
        ne_eqb (get_or (map g sets) i e) (get_or (map g sets) j e) (λ same.
        let il : i < length sets = omega arith in
        let jl : j < length sets = omega arith in
        let t : i ≡ j = one i j il jl (code_same (f (get_or sets i d)) (f (get_or sets j d)) (long (get_or sets i d) ∙ sym (long (get_or sets j d))) (sym (at i e il) ∙ same ∙ at j e jl)) in
        omega arith)

    below : (q : ℕ) → list_any (eqb q) (map g sets) ≡ true → q < 2 ^ k
    below q h =
        let (i, l, e) = Contains-from_any {eq = eqb} eqb-true q (map g sets) h in
        let n : length (map g sets) ≡ length sets = length-map sets g in
        let il : i < length sets = omega arith in
        let small : code (f (get_or sets i d)) < 2 ^ k = (rw (long (get_or sets i d)) at (code_below (f (get_or sets i d)))) in
        rw (← e, at i q il) small

-- which items a set holds
abbrev same_item : Item → Item → Bool
same_item x y = (y.0 == x.0) && (y.1 == x.1)

abbrev bits : List Item → List Item → List Bool
bits all s = map (λ x. list_any (same_item x) s) all

item_is : (x y : Item) → same_item x y ≡ true → y ≡ x
item_is x y t =
    let p = and_parts (y.0 == x.0) (y.1 == x.1) t in
    let a : y.0 ≡ x.0 = eqb-true y.0 x.0 p.0 in
    let b : y.1 ≡ x.1 = eqb-true y.1 x.1 p.1 in
    ap (λ (i : ℕ). (i, y.1)) a ∙ ap (λ (i : ℕ). (x.0, i)) b

held : (s : List Item) (x : Item) → list_any (same_item x) s ≡ true → Has s x
held s x t = let r = has_from_any (same_item x) s t in subst (λ (y : Item). Has s y) (item_is x r.0 r.1.1) r.1.0

holds : (s : List Item) (x : Item) → Has s x → list_any (same_item x) s ≡ true
holds s x h = any_from_has (same_item x) s x h (and_from (x.0 == x.0) (x.1 == x.1) (eq-eqb x.0 x.0 refl) (eq-eqb x.1 x.1 refl))

map_same : {X Y : Type 0} (f g : X → Y) (xs : List X) (x : X) → map f xs ≡ map g xs → Has xs x → f x ≡ g x
map_same f g [] x e h = absurd h
map_same f g (y ∷ ys) x e (inl same) = let k : f y ≡ g y = cc in rw same at k
map_same f g (y ∷ ys) x e (inr h) = map_same f g ys x (cc) h

bits_have : (all s t : List Item) → ((x : Item) → Contains s x → Has all x) → bits all s ≡ bits all t → (x : Item) → Contains s x → Contains t x
bits_have all s t inside e x h =
    contains_from t x (held t x (sym (map_same (λ x. list_any (same_item x) s) (λ x. list_any (same_item x) t) all x e (inside x h)) ∙ holds s x (has_from s x h)))

module _ (ns : List Graph) where
  after_items : (w : List ℕ) (x : Item) → Contains (after (subset_automaton ns) (first_set_of ns) w) x → IsItemOf ns x
  after_items = from_the_end (λ (w : List ℕ). (x : Item) → Contains (after (subset_automaton ns) (first_set_of ns) w) x → IsItemOf ns x) (first_set_items ns)
      (λ w c _. rw (after_push (subset_automaton ns) (first_set_of ns) w c) (move_items ns (after (subset_automaton ns) (first_set_of ns) w) c))

  -- a numbering has at most as many sets as there are sets of items
  pub states_bound : (sets : List (List Item)) (origins : List (ℕ × ℕ)) (n v : ℕ) → IsBreadthFirst (subset_automaton ns) sets origins n v → length sets ≤ 2 ^ length (all_items ns)
  states_bound sets origins n v num = at_most_power (bits (all_items ns)) sets (length (all_items ns)) (first_set_of ns) (λ s. length-map (all_items ns) (λ x. list_any (same_item x) s)) one
    where
      one : (i j : ℕ) → i < length sets → j < length sets → bits (all_items ns) (get_or sets i (first_set_of ns)) ≡ bits (all_items ns) (get_or sets j (first_set_of ns)) → i ≡ j
      one i j il jl e =
          let s : List Item = get_or sets i (first_set_of ns) in
          let t : List Item = get_or sets j (first_set_of ns) in
          let a : after (subset_automaton ns) (first_set_of ns) (word origins i) ≡ s = word_reaches (subset_automaton ns) sets origins n v num i il in
          let b : after (subset_automaton ns) (first_set_of ns) (word origins j) ≡ t = word_reaches (subset_automaton ns) sets origins n v num j jl in
          let up_a : AreAscendingItems s = subst (λ (u : List Item). AreAscendingItems u) a (after_ascends ns (word origins i)) in
          let up_b : AreAscendingItems t = subst (λ (u : List Item). AreAscendingItems u) b (after_ascends ns (word origins j)) in
          let in_a : (x : Item) → Contains s x → IsItemOf ns x = subst (λ (u : List Item). (x : Item) → Contains u x → IsItemOf ns x) a (after_items (word origins i)) in
          let in_b : (x : Item) → Contains t x → IsItemOf ns x = subst (λ (u : List Item). (x : Item) → Contains u x → IsItemOf ns x) b (after_items (word origins j)) in
          num.distinct i j il jl (same_items s t up_a up_b (λ x. (
            bits_have (all_items ns) s t (λ x h. all_items_have ns x (in_a x h)) e x,
            bits_have (all_items ns) t s (λ x h. all_items_have ns x (in_b x h)) (sym e) x,
          )))

length_below : (i n : ℕ) → length (items_below i n) ≡ n
length_below i zero = refl
length_below i (suc n) = let h : length (items_below i n) ≡ n = length_below i n in omega (arith, length-append (items_below i n) ((i, n) ∷ []))

length_from : (ts : List Tree) (gs : List Graph) (i : ℕ) → length gs ≡ length ts → ((k : ℕ) (t : Tree) (g : Graph) → slice_get ts k ≡ Some t → slice_get gs k ≡ Some g → IsCompiled t g)
    → length (items_from i gs) ≤ sum_by (λ t. 3 + size t) ts
length_from [] [] i l f = omega arith
length_from [] (g ∷ gs) i l f = absurd (omega arith)
length_from (t ∷ ts) [] i l f = absurd (omega arith)
length_from (t ∷ ts) (g ∷ gs) i l f =
    let ih : length (items_from (i + 1) gs) ≤ sum_by (λ t. 3 + size t) ts = length_from ts gs (i + 1) (omega arith) (λ k u e a b. f (suc k) u e a b) in
    let few : length g.kinds ≤ 3 + size t = (f 0 t g refl refl).few in
    let a : sum_by (λ t. 3 + size t) (t ∷ ts) ≡ (3 + size t) + sum_by (λ t. 3 + size t) ts = sum_by-cons (λ t. 3 + size t) t ts in
    omega (arith, length_below i (length g.kinds), length-append (items_below i (length g.kinds)) (items_from (i + 1) gs))

-- the trees' sizes bound the number of items
pub items_bound : (ts : List Tree) (ns : List Graph) → AreCompiled ts ns → length (all_items ns) ≤ sum_by (λ t. 3 + size t) ts
unfolding all_items
items_bound ts ns h = length_from ts ns 0 h.same_length h.each
