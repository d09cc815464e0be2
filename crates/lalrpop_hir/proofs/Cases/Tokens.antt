-- Cases of specs/Tokens.antt.
use Rattle.std.proofs.Common.{◌≡◌, ◌≢◌, ℕ, zero, suc, ◌+◌, ◌≤◌, List, [], ◌∷◌, ◌++◌, length, length-append, get_or, codes, drop, refl, sym, ap, subst, ◌∙◌, arith}
use Rattle.std.specs.Prelude.{Some, None, Ok, Err, slice_index}
use Rattle.std.specs.Borrow.{Bor}
use Rattle.std.specs.Str.{chars}
use Rattle.lalrpop_hir.specs.Tree.{Tree, literal}
use Rattle.lalrpop_hir.specs.Winners.{TreeMatches, IsStrongest, IsOnlyStrongest}
use Rattle.lalrpop_hir.specs.Longest.{IsLongest, IsMatch}
use Rattle.lalrpop_hir.specs.Tokens.{Item, item_size, IsFaultAt, IsItem, AreItems, slices, bare, IsToken, IsTokenOrFault, AreTokens}
use Rattle.lalrpop_hir.specs.declared.token.Token.{Token}
use Rattle.lalrpop_hir.specs.declared.token.TokenFault.{TokenFault}
use Rattle.lalrpop_hir.proofs.LastFaults.{no_items_behind, no_tokens_behind}

-- ---- items: a token of tree 0, and a fault

abbrev item : Bor (List ℕ) → Item
item slice = Ok (0, slice)

abbrev fault : ℕ → Item
fault at = Err (record { at = at })

token_takes_its_slice : (text : List ℕ) (slice : Bor (List ℕ)) → item_size text (item slice) ≡ length slice.now
token_takes_its_slice text slice = refl

-- of `abc` from `b` on
fault_takes_all_that_is_left : item_size (codes "abc") (fault 1) ≡ 2
fault_takes_all_that_is_left = refl

fault_takes_one_byte : item_size (codes "abc") (fault 1) ≢ 1
fault_takes_one_byte e = let n : 2 ≡ 1 = e in omega (arith, n)

fault_at_b : (ts : List Tree) (ps : List ℕ) → IsLongest ts ps (codes "b") None → IsFaultAt ts ps (codes "ab") 1 (record { at = 1 })
fault_at_b ts ps none = ((λ e. absurd (cc)), none, refl)

fault_at_the_end : (ts : List Tree) (ps : List ℕ) (fault : TokenFault) → ¬ IsFaultAt ts ps (codes "ab") 2 fault
fault_at_the_end ts ps fault is = is.0 refl

fault_told_elsewhere : (ts : List Tree) (ps text : List ℕ) → ¬ IsFaultAt ts ps text 1 (record { at = 0 })
fault_told_elsewhere ts ps text is = let n : 0 ≡ 1 = is.2 in omega (arith, n)

longest_match_is_an_item : (ts : List Tree) (ps : List ℕ) (a : Bor (List ℕ)) → IsLongest ts ps (codes "ab") (Some (0, a.now)) → IsItem ts ps (codes "ab") 0 (item a)
longest_match_is_an_item ts ps a longest = longest

-- a fault isn't an item where something matches
fault_in_place_of_a_match : (ts : List Tree) (ps text p : List ℕ) (at : ℕ) → IsMatch ts (drop at text) p → ¬ IsItem ts ps text at (fault at)
fault_in_place_of_a_match ts ps text p at m is = is.1 p m

no_items_of_the_empty_text : (ts : List Tree) (ps : List ℕ) → AreItems ts ps [] 0 []
no_items_of_the_empty_text ts ps = refl

text_left_over_by_items : (ts : List Tree) (ps : List ℕ) → ¬ AreItems ts ps (codes "a") 0 []
text_left_over_by_items ts ps h = let e = h in absurd (cc)

-- `a` matches, and nothing matches at `b`
token_and_fault : (ts : List Tree) (ps : List ℕ) (a : Bor (List ℕ)) → a.now ≡ codes "a" → IsLongest ts ps (codes "ab") (Some (0, a.now))
    → IsLongest ts ps (codes "b") None → AreItems ts ps (codes "ab") 0 (item a ∷ fault 1 ∷ [])
token_and_fault ts ps a one longest none = (longest, subst (λ p. AreItems ts ps (codes "ab") (0 + length p) (fault 1 ∷ [])) (sym one) (((λ e. absurd (cc)), none, refl), refl))

-- a fault gives its place in bytes: after the two bytes of é it isn't 1
fault_counted_in_characters : (ts : List Tree) (ps text : List ℕ) (é : Bor (List ℕ)) → é.now ≡ 195 ∷ 169 ∷ []
    → ¬ AreItems ts ps text 0 (item é ∷ fault 1 ∷ [])
fault_counted_in_characters ts ps text é two are =
    let at : 1 ≡ 0 + length é.now = are.1.0.2 in
    omega (arith, at, ap length two)

fault_of_the_empty_text : (ts : List Tree) (ps : List ℕ) (xs : List Item) → ¬ AreItems ts ps [] 0 (fault 0 ∷ xs)
fault_of_the_empty_text ts ps xs are = are.0.0 refl

fault_told_twice : (ts : List Tree) (ps text : List ℕ) → ¬ AreItems ts ps text 0 (fault 0 ∷ fault 0 ∷ [])
fault_told_twice ts ps text are = let e = no_items_behind ts ps text 0 _ (fault 0 ∷ []) are in absurd (cc)

-- a character that nothing matches isn't skipped
character_skipped : (ts : List Tree) (ps : List ℕ) (b : Bor (List ℕ)) (xs : List Item) → b.now ≡ codes "b"
    → ¬ AreItems ts ps (codes "ab") 0 (item b ∷ xs)
character_skipped ts ps b xs one are =
    let begins = are.0.0.0 in
    let text : codes "ab" ≡ codes "b" ++ begins.0 = begins.1.0 ∙ ap (λ p. p ++ begins.0) one in
    let n : 97 ≡ 98 = ap (λ v. get_or v 0 0) text in
    omega (arith, n)

-- ---- the slices

slices_of_two : (a b : Bor (List ℕ)) → a.now ≡ codes "a" → b.now ≡ codes "b" → slices (item a ∷ item b ∷ fault 2 ∷ []) ≡ codes "ab"
slices_of_two a b e f = ap (λ p. p ++ (b.now ++ [])) e ∙ ap (λ p. codes "a" ++ (p ++ [])) f

slice_of_the_first_alone : (a b : Bor (List ℕ)) → a.now ≡ codes "a" → b.now ≡ codes "b" → slices (item a ∷ item b ∷ fault 2 ∷ []) ≢ codes "a"
slice_of_the_first_alone a b e f g = let n : 2 ≡ 1 = ap length (sym (slices_of_two a b e f)) ∙ ap length g in omega (arith, n)

-- ---- the literal `a`, and a text of that letter

abbrev a : Tree
a = literal (codes "a")

chars_a : chars (codes "a") ≡ codes "a"
unfolding chars
chars_a = refl

no_precedence : (j : ℕ) → slice_index (0 ∷ []) j ≡ 0
no_precedence zero = refl
no_precedence (suc j) = refl

only_the_literal : (w : List ℕ) (i : ℕ) → TreeMatches (a ∷ []) w i → i ≡ 0
only_the_literal w zero h = refl
only_the_literal w (suc n) h = let e : None ≡ Some h.0 = h.1.0 in absurd (cc)

strongest : IsStrongest (a ∷ []) (0 ∷ []) (chars (codes "a")) 0
strongest = ((a, (refl, chars_a)), λ j h. omega (arith, no_precedence j))

only_strongest : IsOnlyStrongest (a ∷ []) (0 ∷ []) (chars (codes "a")) 0
only_strongest = (strongest, λ j t. only_the_literal (chars (codes "a")) j t.0)

longest : IsLongest (a ∷ []) (0 ∷ []) (codes "a") (Some (0, codes "a"))
unfolding lib.Utf8.encode
longest = (
  (([], (refl, (codes "a", (refl, refl)))), (λ e. cc), (0, (a, (refl, chars_a)))),
  (λ p m. one p m),
  (strongest, λ j t. omega (arith, only_the_literal (chars (codes "a")) j t.0)),
)
  where
    one : (p : List ℕ) → IsMatch (a ∷ []) (codes "a") p → length p ≤ 1
    one p m = let whole : 1 ≡ length (p ++ m.0.0) = ap length m.0.1.0 in omega (arith, whole, length-append p m.0.0)

-- ---- one token

token_of_the_text : (token : Token) → token.index ≡ 0 → token.slice.now ≡ codes "a" → token.start ≡ 0 → IsToken (a ∷ []) (0 ∷ []) (codes "a") 0 token
token_of_the_text token first slice start = (
  start,
  subst (λ i. IsLongest (a ∷ []) (0 ∷ []) (codes "a") (Some (i, token.slice.now))) (sym first)
      (subst (λ p. IsLongest (a ∷ []) (0 ∷ []) (codes "a") (Some (0, p))) (sym slice) longest),
  subst (λ i. IsOnlyStrongest (a ∷ []) (0 ∷ []) (chars token.slice.now) i) (sym first)
      (subst (λ p. IsOnlyStrongest (a ∷ []) (0 ∷ []) (chars p) 0) (sym slice) only_strongest),
)

token_of_another_pattern : (token : Token) → token.index ≡ 1 → ¬ IsToken (a ∷ []) (0 ∷ []) (codes "a") 0 token
token_of_another_pattern token second is = omega (arith, second, only_the_literal (chars token.slice.now) token.index is.2.0.0)

token_of_no_byte : (ts : List Tree) (ps text : List ℕ) (at : ℕ) (token : Token) → token.slice.now ≡ [] → ¬ IsToken ts ps text at token
token_of_no_byte ts ps text at token empty is = is.1.0.1 empty

start_one_late : (ts : List Tree) (ps text : List ℕ) (token : Token) → token.start ≡ 1 → ¬ IsToken ts ps text 0 token
start_one_late ts ps text token late is = omega (arith, late, is.0)

one_of_two_strongest : (ts : List Tree) (ps text : List ℕ) (at other : ℕ) (token : Token) → other ≢ token.index
    → IsOnlyStrongest ts ps (chars token.slice.now) other → ¬ IsToken ts ps text at token
one_of_two_strongest ts ps text at other token differs only is = differs (is.2.1 other only.0)

-- ---- a token or a fault

token_or_fault : (ts : List Tree) (ps text : List ℕ) (at : ℕ) (token : Token) → IsToken ts ps text at token → IsTokenOrFault ts ps text at (Ok token)
token_or_fault ts ps text at token is = is

fault_before_a_token : (ts : List Tree) (ps text : List ℕ) (at : ℕ) (token : Token) (fault : TokenFault) → IsToken ts ps text at token
    → ¬ IsTokenOrFault ts ps text at (Err fault)
fault_before_a_token ts ps text at token fault is or = or.1 token.slice.now is.1.0

-- ---- all tokens

no_tokens_of_the_empty_text : (ts : List Tree) (ps : List ℕ) → AreTokens ts ps [] 0 []
no_tokens_of_the_empty_text ts ps = refl

text_of_one_token : (token : Token) → token.index ≡ 0 → token.slice.now ≡ codes "a" → token.start ≡ 0
    → AreTokens (a ∷ []) (0 ∷ []) (codes "a") 0 (Ok token ∷ [])
text_of_one_token token first slice start =
    (token_of_the_text token first slice start, ap (λ (p : List ℕ). drop (0 + length p) (codes "a")) slice)

token_told_twice : (token : Token) → token.slice.now ≡ codes "a" → ¬ AreTokens (a ∷ []) (0 ∷ []) (codes "a") 0 (Ok token ∷ Ok token ∷ [])
token_told_twice token slice are =
    let start : token.start ≡ 0 + length token.slice.now = are.1.0.0 in
    omega (arith, start, are.0.0, ap length slice)

text_left_over : (ts : List Tree) (ps : List ℕ) → ¬ AreTokens ts ps (codes "a") 0 []
text_left_over ts ps h = let e = h in absurd (cc)

-- the second token begins where the first ends
second_begins_at_0 : (ts : List Tree) (ps text : List ℕ) (a b : Token) → a.slice.now ≡ codes "a" → b.start ≡ 0 → ¬ AreTokens ts ps text 0 (Ok a ∷ Ok b ∷ [])
second_begins_at_0 ts ps text a b one again are =
    let start : b.start ≡ 0 + length a.slice.now = are.1.0.0 in
    omega (arith, start, again, ap length one)

token_behind_a_fault : (ts : List Tree) (ps text : List ℕ) (fault : TokenFault) (token : Token) → ¬ AreTokens ts ps text 0 (Err fault ∷ Ok token ∷ [])
token_behind_a_fault ts ps text fault token are = let e = no_tokens_behind ts ps text 0 fault (Ok token ∷ []) are in absurd (cc)

-- ---- items without places

bare_has_the_pattern_and_the_slice : (token : Token) → bare (Ok token) ≡ Ok (token.index, token.slice)
bare_has_the_pattern_and_the_slice token = refl
