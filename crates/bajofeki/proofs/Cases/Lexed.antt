-- Cases of specs/Lexed.antt.
use Rattle.std.proofs.Common.{◌≡◌, ◌≢◌, ℕ, zero, suc, ◌+◌, ◌-◌, ◌<◌, ◌≤◌, ◌⊎◌, true, inl, inr, List, [], ◌∷◌, ◌++◌, length, take, drop, get_or, codes, refl, sym, ap, subst, ◌∙◌, arith}
use Rattle.std.specs.Prelude.{max, min}
use Rattle.std.specs.Borrow.{Bor}
use Rattle.std.specs.Str.{chars}
use Rattle.std.proofs.lemmas.Bool.{lt-ltb, ltb-true}
use Rattle.std.proofs.lemmas.Str.{chars-nil}
use Rattle.lalrpop_hir.specs.Tree.{Tree, literal}
use Rattle.lalrpop_hir.specs.Winners.{Matched}
use Rattle.lalrpop_rules.specs.Pieces.{slice_of, start_of}
use Rattle.lalrpop_rules.specs.declared.piece.Piece.{Piece}
use Rattle.lalrpop_rules.specs.declared.piece.Piece.TheVariants.{Token, Skipped, Fault}
use Rattle.lalrpop_rules.proofs.UniquePieces.{no_piece_left}
use Rattle.bajofeki_rules.specs.declared.action.Action.TheVariants.{Push}
use Rattle.bajofeki_rules.specs.Stack.{Stack, start}
use Rattle.lalrpop_rules.specs.Modes.{ModeRules, trees_in}
use Rattle.bajofeki.specs.Lexed.{Lexed, ArePiecesOf, replaced, IsRange, IsEditError, placed, placed_from, IsChangeOf, MeetAt, IsEarliest, ReadsTo, Reaches, FirstReaches, ArePiecesIn, holding, holds_byte}
use Rattle.bajofeki.specs.declared.change.Change.{Change}
use Rattle.bajofeki.specs.declared.error.EditError.TheVariants.{NoBoundary, TooLarge, OutOfMemory}
use Rattle.bajofeki.proofs.Cases.Reach.{a, ab, one_of_two}

abbrev no_rules : ModeRules
no_rules = record { names = []; trees = []; precedences = []; skips = []; actions = []; members = []; kinds = []; modes = 1; mode_names = []; automata = [] }

-- ---- the new text

replaced_in_the_middle : replaced (codes "abcd") 1 3 (codes "xyz") ≡ codes "axyzd"
replaced_in_the_middle = refl

inserted_at_the_end : replaced (codes "ab") 2 2 (codes "c") ≡ codes "abc"
inserted_at_the_end = refl

all_of_it_gone : replaced (codes "ab") 0 2 [] ≡ []
all_of_it_gone = refl

-- ---- ranges

range_of_one_character : IsRange (codes "abc") 1 2
range_of_one_character = record { order = omega arith; begins = (omega arith, λ within high. omega (arith, high)); ends = (omega arith, λ within high. omega (arith, high)) }

range_that_ends_before_it_begins : (text : List ℕ) → ¬ IsRange text 2 1
range_that_ends_before_it_begins text r = omega (arith, r.order)

range_past_the_end : ¬ IsRange (codes "ab") 0 3
range_past_the_end r = omega (arith, r.ends.0)

-- é has two bytes
range_within_a_character : ¬ IsRange (195 ∷ 169 ∷ []) 1 2
range_within_a_character r = omega (arith, r.begins.1 (omega arith) (omega arith))

-- ---- errors

no_boundary_of_a_range_that_is_none : (l : Lexed) (new : List ℕ) → IsEditError l 2 1 new NoBoundary
no_boundary_of_a_range_that_is_none l new r = omega (arith, r.order)

no_boundary_of_a_range : (l : Lexed) (from to : ℕ) (new : List ℕ) → IsRange l.text from to → ¬ IsEditError l from to new NoBoundary
no_boundary_of_a_range l from to new r error = error r

small_text_too_large : (new : List ℕ) → length (replaced (codes "ab") 0 1 new) < 9 → ¬ IsEditError (record { rules = no_rules; text = codes "ab" }) 0 1 new TooLarge
small_text_too_large new few error = elim error.1 [ inl many ↦ omega (arith, few, many) | inr many ↦ omega (arith, many) ]

-- a range that is none is told first
out_of_memory_without_a_range : (l : Lexed) (new : List ℕ) → ¬ IsEditError l 2 1 new OutOfMemory
out_of_memory_without_a_range l new error = omega (arith, error.order)

-- ---- pieces at other places

placed_token : (slice : Bor (List ℕ)) → placed 7 (Token (record { index = 3; slice = slice; start = 1 })) ≡ Token (record { index = 3; slice = slice; start = 7 })
placed_token slice = refl

placed_fault : (slice : Bor (List ℕ)) → placed 7 (Fault 1 slice) ≡ Fault 7 slice
placed_fault slice = refl

-- the second begins where the first ends
placed_two : (p q : Bor (List ℕ)) → p.now ≡ codes "ab" → placed_from 5 (Fault 0 p ∷ Fault 2 q ∷ []) ≡ Fault 5 p ∷ Fault 7 q ∷ []
placed_two p q e = ap (λ (n : ℕ). Fault 5 p ∷ Fault (5 + n) q ∷ []) (ap length e)

-- ---- changes

abbrev first_replaced : Change
first_replaced = record { first = 0; removed = 1; inserted = 1; start = 0; old_end = 2; new_end = 3 }

-- `ab` became `abc`, and the space after it stayed
one_of_two_changed : (p q p2 q2 : Bor (List ℕ)) → p.now ≡ codes "ab" → q.now ≡ codes " " → p2.now ≡ codes "abc" → q2.now ≡ codes " "
    → IsChangeOf (Token (record { index = 0; slice = p; start = 0 }) ∷ Skipped (record { index = 1; slice = q; start = 2 }) ∷ [])
    (Token (record { index = 0; slice = p2; start = 0 }) ∷ Skipped (record { index = 1; slice = q2; start = 3 }) ∷ []) first_replaced
one_of_two_changed p q p2 q2 e f e2 f2 = record {
  removed = omega arith;
  inserted = omega arith;
  front = tt;
  behind = ((refl, refl, f ∙ sym f2), tt);
  start_is = refl;
  old_end_is = rw e refl;
  new_end_is = rw e2 refl;
}

-- the same pieces with their ends told wrong
end_told_wrong : (p p2 : Bor (List ℕ)) → p.now ≡ codes "ab" → p2.now ≡ codes "abcd" → ¬ IsChangeOf (Fault 0 p ∷ []) (Fault 0 p2 ∷ []) first_replaced
end_told_wrong p p2 e f c = let n : 3 ≡ 4 = rw f at c.new_end_is in omega (arith, n)

-- a piece whose bytes changed isn't one that stays in front
changed_bytes_told_as_kept : (p p2 : Bor (List ℕ)) → p.now ≡ codes "a" → p2.now ≡ codes "b"
    → ¬ IsChangeOf (Fault 0 p ∷ []) (Fault 0 p2 ∷ []) (record { first = 1; removed = 0; inserted = 0; start = 1; old_end = 1; new_end = 1 })
changed_bytes_told_as_kept p p2 e f c =
    let n : 97 ≡ 98 = ap (λ (bytes : List ℕ). get_or bytes 0 0) (sym e ∙ c.front.0.1 ∙ f) in omega (arith, n)

-- nor is one more piece after
one_more_told_as_none : (p q : Bor (List ℕ))
    → ¬ IsChangeOf (Fault 0 p ∷ []) (Fault 0 p ∷ Fault 1 q ∷ []) (record { first = 1; removed = 0; inserted = 0; start = 1; old_end = 1; new_end = 1 })
one_more_told_as_none p q c = c.behind

-- more pieces gone than there are
more_gone_than_there_are : (xs ys : List Piece) → length xs ≡ 0 → ¬ IsChangeOf xs ys first_replaced
more_gone_than_there_are xs ys none c = omega (arith, c.removed, none)

-- ---- all pieces

no_piece_of_the_empty_text : (r : ModeRules) → ArePiecesOf (record { rules = r; text = [] }) []
no_piece_of_the_empty_text r = (start, (refl, refl))

text_left_over : (r : ModeRules) → ¬ ArePiecesOf (record { rules = r; text = codes "a" }) []
text_left_over r are = absurd (cc (are.1.0))

-- ---- no further than needed

-- `c` was put after `ab`
met_behind : (p p2 : Bor (List ℕ)) → p.now ≡ codes "ab" → p2.now ≡ codes "abc" → MeetAt [] 2 2 1 (Fault 0 p ∷ []) (Fault 0 p2 ∷ []) 1 1
met_behind p p2 e f = record { behind = rw e (omega arith); same = rw e (rw f refl); stack = refl }

-- not in front of what was replaced
met_in_front : (xs ys : List Piece) → ¬ MeetAt [] 2 2 1 xs ys 0 0
met_in_front xs ys m = omega (arith, m.behind)

-- nor in other modes
met_in_other_modes : (p : Bor (List ℕ)) → ¬ MeetAt ((Push 1 ∷ []) ∷ []) 0 0 0 (Token (record { index = 0; slice = p; start = 0 }) ∷ []) (Fault 0 p ∷ []) 1 1
met_in_other_modes p m = let n : 1 ≡ 0 = ap (λ (s : Stack). s.mode) m.stack in omega (arith, n)

-- old and new pieces meet at once, so none had to be cut
cut_further_than_needed : (r : ModeRules) → ¬ IsEarliest (record { rules = r; text = [] }) (record { rules = r; text = [] }) 0 0 0 first_replaced
cut_further_than_needed r earliest =
    let ends = earliest [] [] (no_piece_of_the_empty_text r) (no_piece_of_the_empty_text r) 0 0 (omega arith) (omega arith) (omega arith) (omega arith)
    (record { behind = omega arith; same = refl; stack = refl }) in
    omega (arith, ends.0)

-- ---- as far back as needed

-- `a` begins `ab`
word_begun : ReadsTo (a ∷ ab ∷ []) (codes "xab") 1 2
unfolding chars
word_begun = (omega arith, (98 ∷ [], (1, (ab, (refl, refl)))))

-- nothing begins each word
nothing_read : (text : List ℕ) (at : ℕ) → ReadsTo (a ∷ ab ∷ []) text at at
nothing_read text at =
    let none : 0 ≡ at - at = omega arith in
    (omega arith, (97 ∷ [], (0, (a, (refl, subst (λ (n : ℕ). chars (take n (drop at text)) ++ 97 ∷ [] ≡ 97 ∷ []) none (ap (λ (w : List ℕ). w ++ 97 ∷ []) chars-nil))))))

begins_with_b : (v : List ℕ) → ¬ Matched (a ∷ ab ∷ []) (98 ∷ v)
begins_with_b v m = by_tree (one_of_two a ab (98 ∷ v) m)
  where
    by_tree : (98 ∷ v ≡ 97 ∷ []) ⊎ (98 ∷ v ≡ 97 ∷ 98 ∷ []) → ⊥
    by_tree (inl e) = let n : 98 ≡ 97 = ap (λ (w : List ℕ). get_or w 0 0) e in omega (arith, n)
    by_tree (inr e) = let n : 98 ≡ 97 = ap (λ (w : List ℕ). get_or w 0 0) e in omega (arith, n)

begins_with_aa : (v : List ℕ) → ¬ Matched (a ∷ ab ∷ []) (97 ∷ 97 ∷ v)
begins_with_aa v m = by_tree (one_of_two a ab (97 ∷ 97 ∷ v) m)
  where
    by_tree : (97 ∷ 97 ∷ v ≡ 97 ∷ []) ⊎ (97 ∷ 97 ∷ v ≡ 97 ∷ 98 ∷ []) → ⊥
    by_tree (inl e) = let n : suc (suc (length v)) ≡ 1 = ap length e in omega (arith, n)
    by_tree (inr e) = let n : 97 ≡ 98 = ap (λ (w : List ℕ). get_or w 1 0) e in omega (arith, n)

no_word_begun : ¬ ReadsTo (a ∷ ab ∷ []) (codes "xaab") 1 3
unfolding chars
no_word_begun r = begins_with_aa r.1.0 r.1.1

read_backwards : (ts : List Tree) (text : List ℕ) → ¬ ReadsTo ts text 2 1
read_backwards ts text r = omega (arith, r.0)

-- a token reaches each place up to its end
end_of_a_token : (ts : List Tree) (text : List ℕ) (p : Bor (List ℕ)) → p.now ≡ codes "a" → Reaches ts text 2 (Token (record { index = 0; slice = p; start = 1 }))
end_of_a_token ts text p e = inl (omega (arith, ap length e))

abbrev abc : Tree
abc = literal (97 ∷ 98 ∷ 99 ∷ [])

-- and those after it, as long as a longer word may come
longer_word_may_come : (p : Bor (List ℕ)) → Reaches (a ∷ abc ∷ []) (codes "xabd") 3 (Token (record { index = 0; slice = p; start = 1 }))
unfolding chars
longer_word_may_come p = inr (omega arith, (99 ∷ [], (1, (abc, (refl, refl)))))

no_longer_word : (p : Bor (List ℕ)) → p.now ≡ codes "a" → ¬ Reaches (a ∷ ab ∷ []) (codes "xaab") 3 (Skipped (record { index = 0; slice = p; start = 1 }))
no_longer_word p e (inl within) = omega (arith, within, ap length e)
no_longer_word p e (inr r) = no_word_begun r

-- a word may come right after the fault `x`
word_behind_a_fault : (p : Bor (List ℕ)) → p.now ≡ codes "x" → Reaches (a ∷ abc ∷ []) (codes "xabd") 3 (Fault 0 p)
unfolding chars
word_behind_a_fault p e =
    inr (1, (omega arith, omega (arith, ap length e), (omega arith, λ within high. omega (arith, high)), (omega arith, (99 ∷ [], (1, (abc, (refl, refl)))))))

no_word_behind_a_fault : (p : Bor (List ℕ)) → p.now ≡ codes "b" → ¬ Reaches (a ∷ ab ∷ []) (codes "bbba") 3 (Fault 0 p)
unfolding chars
no_word_behind_a_fault p e (inl within) = omega (arith, within, ap length e)
no_word_behind_a_fault p e (inr (zero, r)) = begins_with_b (98 ∷ 98 ∷ r.3.1.0) r.3.1.1
no_word_behind_a_fault p e (inr (suc zero, r)) = begins_with_b (98 ∷ r.3.1.0) r.3.1.1
no_word_behind_a_fault p e (inr (suc (suc k), r)) = omega (arith, r.1, ap length e)

-- each piece reaches the beginning of the text
all_cut_anew : (l : Lexed) (c : Change) → FirstReaches l 0 c
all_cut_anew l c xs are (Token token) got = inl (omega arith)
all_cut_anew l c xs are (Skipped token) got = inl (omega arith)
all_cut_anew l c xs are (Fault at slice) got = inl (omega arith)

-- where there is no piece, none has to reach anything
text_put_in : (r : ModeRules) (from : ℕ) → FirstReaches (record { rules = r; text = [] }) from first_replaced
text_put_in r from [] are x got = absurd (cc)
text_put_in r from (y ∷ xs) are x got = absurd (no_piece_left (trees_in r 0) r.precedences r.skips [] 0 y are.1.0 refl)

abbrev two_rules : ModeRules
two_rules = record {
  names = [];
  trees = a ∷ ab ∷ [];
  precedences = 0 ∷ 0 ∷ [];
  skips = [];
  actions = [];
  members = (0 ∷ []) ∷ (0 ∷ []) ∷ [];
  kinds = 0 ∷ 1 ∷ [];
  modes = 1;
  mode_names = [];
  automata = [];
}

-- the first `a` of `aab` ends before the last byte, and no word begins with `aa`: so it may not be cut anew for that byte
cut_further_back_than_needed : (p : Bor (List ℕ)) (xs : List Piece) → p.now ≡ codes "a"
    → ArePiecesOf (record { rules = two_rules; text = codes "aab" }) (Token (record { index = 0; slice = p; start = 0 }) ∷ xs)
    → ¬ FirstReaches (record { rules = two_rules; text = codes "aab" }) 2 first_replaced
unfolding chars
cut_further_back_than_needed p xs e are first =
    no_word (first (Token (record { index = 0; slice = p; start = 0 }) ∷ xs) are (Token (record { index = 0; slice = p; start = 0 })) refl)
  where
    no_word : ¬ Reaches (a ∷ ab ∷ []) (codes "aab") 2 (Token (record { index = 0; slice = p; start = 0 }))
    no_word (inl within) = omega (arith, within, ap length e)
    no_word (inr r) = begins_with_aa r.1.0 r.1.1

-- ---- pieces that hold a byte of a range

-- some byte of the range is one of the piece
byte_held : (from to : ℕ) (x : Piece) → holds_byte from to x ≡ true
    → (n : ℕ) × ((from ≤ n) × (n < to) × (start_of x ≤ n) × (n < start_of x + length (slice_of x)))
byte_held from to x holds =
    let lt = ltb-true (max from (start_of x)) (min to (start_of x + length (slice_of x))) holds in
    (max from (start_of x), (omega arith, omega (arith, lt), omega arith, omega (arith, lt)))

held_by_a_byte : (from to n : ℕ) (x : Piece) → from ≤ n → n < to → start_of x ≤ n → n < start_of x + length (slice_of x) → holds_byte from to x ≡ true
held_by_a_byte from to n x above below behind before = lt-ltb (max from (start_of x)) (min to (start_of x + length (slice_of x))) (omega arith)

-- of `ab` and `c`
module _ (p q : Bor (List ℕ)) (ab_is : p.now ≡ codes "ab") (c_is : q.now ≡ codes "c") where
  cut_one_given_whole : holding 1 2 (Fault 0 p ∷ Fault 2 q ∷ []) ≡ Fault 0 p ∷ []
  cut_one_given_whole = rw (ab_is, c_is) refl

  both_held : holding 1 9 (Fault 0 p ∷ Fault 2 q ∷ []) ≡ Fault 0 p ∷ Fault 2 q ∷ []
  both_held = rw (ab_is, c_is) refl

  cut_one_left_out : holding 1 3 (Fault 0 p ∷ Fault 2 q ∷ []) ≢ Fault 2 q ∷ []
  cut_one_left_out e = let n : 2 ≡ 1 = rw (ab_is, c_is) at (ap length e) in omega (arith, n)

  none_in_an_empty_range : holding 1 1 (Fault 0 p ∷ Fault 2 q ∷ []) ≡ []
  none_in_an_empty_range = rw (ab_is, c_is) refl

  none_behind_the_text : holding 3 9 (Fault 0 p ∷ Fault 2 q ∷ []) ≡ []
  none_behind_the_text = rw (ab_is, c_is) refl

none_in_the_empty_text : (r : ModeRules) (from to : ℕ) → ArePiecesIn (record { rules = r; text = [] }) from to []
none_in_the_empty_text r from to = ([], (no_piece_of_the_empty_text r, refl))

some_in_the_empty_text : (r : ModeRules) (from to : ℕ) (y : Piece) (ys : List Piece) → ¬ ArePiecesIn (record { rules = r; text = [] }) from to (y ∷ ys)
some_in_the_empty_text r from to y ys ([], are) = absurd (cc (are.1))
some_in_the_empty_text r from to y ys (x ∷ xs, are) = no_piece_left (trees_in r 0) r.precedences r.skips [] 0 x are.0.1.0 refl
