-- Cases of specs/Kept.antt.
use Rattle.std.proofs.Common.{◌≡◌, ℕ, zero, suc, ◌+◌, ◌⊎◌, inl, inr, List, [], ◌∷◌, length, take, drop, get_or, codes, refl, sym, ap, subst, arith}
use Rattle.std.specs.Prelude.{Some, None}
use Rattle.std.specs.Str.{chars, IsUtf8}
use Rattle.lalrpop_hir.specs.Tree.{Tree, literal, alternation, none}
use Rattle.lalrpop_hir.specs.Language.{Matches}
use Rattle.lalrpop_hir.specs.Winners.{TreeMatches, Matched}
use Rattle.lalrpop_hir.specs.Longest.{IsMatch}
use Rattle.lalrpop_rules.specs.Found.{MatchesAt}
use Rattle.bajofeki_rules.specs.declared.action.Action.TheVariants.{Push, Pop}
use Rattle.bajofeki_rules.specs.Stack.{Stack, start}
use Rattle.lalrpop_rules.specs.Modes.{ModeRules}
use Rattle.bajofeki.specs.Internal.Kept.{rule_of, reach_of, after_rule, after_kept, IsFront, IsKept, IsReadFor, KeptUpTo, ReadsOn, AreWithin}
use Rattle.bajofeki.specs.declared.kept.Kept.{Kept}
use Rattle.bajofeki.proofs.KeptLaws.{kept_some, kept_within}
use Rattle.bajofeki.proofs.Alike.{alike_whole}
use Rattle.bajofeki.proofs.Settling.{token_settled}
use Rattle.bajofeki.proofs.Cases.Reach.{a, ab, b, first_byte_settles, one_of_two}

-- two rules: the first belongs to mode 0 and leads into mode 1, the second belongs to both and pops
abbrev two : Tree → Tree → ModeRules
two t u = record {
  names = [];
  trees = t ∷ u ∷ [];
  precedences = 0 ∷ 0 ∷ [];
  skips = [];
  actions = (Push 1 ∷ []) ∷ (Pop ∷ []) ∷ [];
  members = (0 ∷ []) ∷ (0 ∷ 1 ∷ []) ∷ [];
  kinds = 0 ∷ 1 ∷ [];
  modes = 2;
  mode_names = [];
  automata = [];
}

abbrev piece : ℕ → ℕ → ℕ → Kept
piece rule size past = record { rule = rule; size = size; past = past }

abbrev fault : ℕ → ℕ → Kept
fault size past = record { rule = 4294967295; size = size; past = past }

-- ---- one piece

fault_has_no_rule : rule_of (fault 1 0) ≡ None
fault_has_no_rule = refl

first_rule : rule_of (piece 0 1 0) ≡ Some 0
first_rule = refl

greatest_rule : rule_of (piece 4294967294 1 0) ≡ Some 4294967294
greatest_rule = refl

reach_counts_the_piece : reach_of (piece 0 3 2) ≡ 5
reach_counts_the_piece = refl

fault_keeps_the_stack : (t u : Tree) (s : Stack) → after_kept (two t u) (fault 1 0) s ≡ s
fault_keeps_the_stack t u s = refl

first_rule_pushes : (t u : Tree) → after_kept (two t u) (piece 0 1 0) start ≡ record { mode = 1; below = 0 ∷ [] }
first_rule_pushes t u = refl

no_rule_no_action : (s : Stack) → after_rule [] (Some 0) s ≡ s
no_rule_no_action s = refl

-- a token where something longer matches
shorter_match : (ts : List Tree) (ps text p : List ℕ) (i : ℕ) → IsMatch ts text p → length p ≡ 2 → ¬ IsFront ts ps text (Some i) (codes "a")
shorter_match ts ps text p i longer size is = let le = is.0.1 p longer in omega (arith, size, le)

fault_where_something_matches : (ts : List Tree) (ps : List ℕ) → MatchesAt ts (codes "ab") 0 → ¬ IsFront ts ps (codes "ab") None (codes "a")
fault_where_something_matches ts ps m is = is.nothing 0 (omega arith) m

-- ---- what was seen

abbrev abc : Tree
abc = literal (97 ∷ 98 ∷ 99 ∷ [])

ab_whole : IsUtf8 (codes "ab")
unfolding lib.Utf8.encode
ab_whole = (97 ∷ 98 ∷ [], (refl, refl))

-- after the token `a` the byte was read that begins `abc`
token_read_on : ReadsOn (a ∷ abc ∷ []) (codes "ab") (Some 0) 1
unfolding chars
token_read_on = (99 ∷ [], (1, (abc, (refl, refl))))

begins_no_longer_word : (v : List ℕ) → ¬ Matched (a ∷ b ∷ []) (97 ∷ 98 ∷ v)
begins_no_longer_word v m = by_tree (one_of_two a b (97 ∷ 98 ∷ v) m)
  where
    by_tree : (97 ∷ 98 ∷ v ≡ 97 ∷ []) ⊎ (97 ∷ 98 ∷ v ≡ 98 ∷ []) → ⊥
    by_tree (inl e) = let n : suc (suc (length v)) ≡ 1 = ap length e in omega (arith, n)
    by_tree (inr e) = let n : suc (suc (length v)) ≡ 1 = ap length e in omega (arith, n)

no_longer_token : ¬ ReadsOn (a ∷ b ∷ []) (codes "ab") (Some 0) 1
unfolding chars
no_longer_token on = begins_no_longer_word on.0 on.1

-- right after the fault `c`
fault_read_on : ReadsOn (b ∷ abc ∷ []) (codes "cab") None 1
unfolding chars
fault_read_on = (1, (omega arith, (omega arith, λ within high. omega (arith, high)), (99 ∷ [], (1, (abc, (refl, refl))))))

begins_with_c : (v : List ℕ) → ¬ Matched (b ∷ abc ∷ []) (99 ∷ v)
begins_with_c v m = by_tree (one_of_two b abc (99 ∷ v) m)
  where
    by_tree : (99 ∷ v ≡ 98 ∷ []) ⊎ (99 ∷ v ≡ 97 ∷ 98 ∷ 99 ∷ []) → ⊥
    by_tree (inl e) = let n : 99 ≡ 98 = ap (λ (w : List ℕ). get_or w 0 0) e in omega (arith, n)
    by_tree (inr e) = let n : 99 ≡ 97 = ap (λ (w : List ℕ). get_or w 0 0) e in omega (arith, n)

-- not further on, where another piece would begin
fault_read_too_far_on : ¬ ReadsOn (b ∷ abc ∷ []) (codes "cca") None 1
unfolding chars
fault_read_too_far_on (zero, on) = begins_with_c (99 ∷ 97 ∷ on.2.0) on.2.1
fault_read_too_far_on (suc zero, on) = begins_with_c (97 ∷ on.2.0) on.2.1
fault_read_too_far_on (suc (suc k), on) = omega (arith, on.0)

-- the last character that was read needn't go on
one_byte_more : (ts : List Tree) (text : List ℕ) (rule size : ℕ) → IsReadFor ts text (Some rule) size (size + 1)
one_byte_more ts text rule size n behind before fits whole = absurd (omega (arith, behind, before))

-- `ab` begins `abc`, and the third byte of `abd` settles that it isn't that
third_byte_settles : IsReadFor (a ∷ abc ∷ []) (codes "abd") (Some 0) 1 3
third_byte_settles n behind before fits whole =
    let two_bytes : 2 ≡ n = omega (arith, behind, before) in
    subst (λ (m : ℕ). ReadsOn (a ∷ abc ∷ []) (take m (codes "abd")) (Some 0) 1) two_bytes token_read_on

abd_whole : IsUtf8 (codes "abd")
unfolding lib.Utf8.encode
abd_whole = (97 ∷ 98 ∷ 100 ∷ [], (refl, refl))

begins_no_abc : (v : List ℕ) → ¬ Matched (a ∷ abc ∷ []) (97 ∷ 98 ∷ 100 ∷ v)
begins_no_abc v m = by_tree (one_of_two a abc (97 ∷ 98 ∷ 100 ∷ v) m)
  where
    by_tree : (97 ∷ 98 ∷ 100 ∷ v ≡ 97 ∷ []) ⊎ (97 ∷ 98 ∷ 100 ∷ v ≡ 97 ∷ 98 ∷ 99 ∷ []) → ⊥
    by_tree (inl e) = let n : suc (suc (suc (length v))) ≡ 1 = ap length e in omega (arith, n)
    by_tree (inr e) = let n : 100 ≡ 99 = ap (λ (w : List ℕ). get_or w 2 0) e in omega (arith, n)

-- nothing begins with all three, so no byte after them may be read
fourth_byte_read_in_vain : ¬ IsReadFor (a ∷ abc ∷ []) (codes "abde") (Some 0) 1 4
unfolding chars
fourth_byte_read_in_vain reads = let on = reads 3 (omega arith) (omega arith) (omega arith) abd_whole in begins_no_abc on.0 on.1

-- ---- what is kept of it

ab_matches : IsMatch (a ∷ ab ∷ []) (codes "ab") (codes "ab")
unfolding chars lib.Utf8.encode
ab_matches = (([], (refl, (codes "ab", (refl, refl)))), (λ e. let n : 2 ≡ 0 = ap length e in omega (arith, n)), (1, (ab, (refl, refl))))

-- where nothing longer matches than `a`, it depends on itself alone
token_and_nothing_behind : IsFront (a ∷ b ∷ []) (0 ∷ 0 ∷ []) (codes "ab") (Some 0) (codes "a") → IsKept (two a b) 0 (codes "ab") (piece 0 1 0)
token_and_nothing_behind is = record {
  front = λ other alike. (codes "a", (refl, token_settled (a ∷ b ∷ []) (0 ∷ 0 ∷ []) (codes "ab") other 0 (codes "a") 1 is first_byte_settles alike));
  reads = λ n behind before fits whole. absurd (omega (arith, behind, before));
}

-- not on two bytes more: no word begins with `ab`
byte_too_many : ¬ IsKept (two a b) 0 (codes "abb") (piece 0 1 2)
byte_too_many kept = no_longer_token (kept.reads 2 (omega arith) (omega arith) (omega arith) ab_whole)

-- where `ab` matches too, it depends on the byte after it: `ac` may become `ab`
byte_behind_is_missing : ¬ IsKept (two a ab) 0 (codes "ac") (piece 0 1 0)
byte_behind_is_missing kept = let is = kept.front (codes "ab") refl in let le = is.1.1.0.1 (codes "ab") ab_matches in omega (arith, is.1.0, le)

-- at the end of the text it depends on the end
end_is_seen : IsFront (a ∷ ab ∷ []) (0 ∷ 0 ∷ []) (codes "a") (Some 0) (codes "a") → IsKept (two a ab) 0 (codes "a") (piece 0 1 1)
end_is_seen is = record {
  front = λ other alike.
      (codes "a", (refl, subst (λ (t : List ℕ). IsFront (a ∷ ab ∷ []) (0 ∷ 0 ∷ []) t (Some 0) (codes "a")) (sym (alike_whole 2 (codes "a") other (omega arith) alike)) is));
  reads = λ n behind before fits whole. absurd (omega (arith, behind, before));
}

end_is_missing : ¬ IsKept (two a ab) 0 (codes "a") (piece 0 1 0)
end_is_missing kept = let is = kept.front (codes "ab") refl in let le = is.1.1.0.1 (codes "ab") ab_matches in omega (arith, is.1.0, le)

-- the first rule doesn't belong to mode 1
piece_of_another_mode : (t u : Tree) (text : List ℕ) (size past : ℕ) → ¬ IsKept (two t u) 1 text (piece 0 size past)
piece_of_another_mode t u text size past kept = let is = kept.front text refl in nothing (chars is.0) is.1.1.1.0.0
  where
    nothing : (w : List ℕ) → ¬ TreeMatches (alternation none ∷ u ∷ []) w 0
    nothing w m = let same : m.0 ≡ alternation none = cc (m.1.0) in subst (λ (v : Tree). Matches v w) same m.1.1

piece_of_no_byte : (r : ModeRules) (mode rule past : ℕ) (text : List ℕ) → ¬ IsKept r mode text (piece rule 0 past)
piece_of_no_byte r mode rule past text kept = omega (arith, kept_some r mode text (piece rule 0 past) kept)

-- ---- one piece after another

-- the second piece is read in the mode that the first leads into
in_the_mode_behind : (t u : Tree) (text : List ℕ) → IsKept (two t u) 0 text (piece 0 2 1) → IsKept (two t u) 1 (drop 2 text) (piece 1 3 0)
    → KeptUpTo (two t u) text 0 start (piece 0 2 1 ∷ piece 1 3 0 ∷ []) 5 start
in_the_mode_behind t u text first second = (first, (second, (refl, refl)))

-- so a rule that doesn't belong to that mode has no piece there
in_the_mode_before : (t u : Tree) (text : List ℕ) (to : ℕ) (s : Stack) → ¬ KeptUpTo (two t u) text 0 start (piece 0 2 1 ∷ piece 0 3 0 ∷ []) to s
in_the_mode_before t u text to s are = piece_of_another_mode t u (drop 2 text) 3 0 are.1.0

no_piece : (r : ModeRules) (text : List ℕ) (at : ℕ) (s : Stack) → KeptUpTo r text at s [] at s
no_piece r text at s = (refl, refl)

no_piece_goes_nowhere : (r : ModeRules) (text : List ℕ) (s : Stack) → ¬ KeptUpTo r text 0 s [] 1 s
no_piece_goes_nowhere r text s are = omega (arith, are.0)

another_stack_at_the_end : (r : ModeRules) (text : List ℕ) → ¬ KeptUpTo r text 0 start [] 0 (record { mode = 1; below = [] })
another_stack_at_the_end r text are = let n : 0 ≡ 1 = ap (λ (s : Stack). s.mode) are.1 in omega (arith, n)

past_the_end : (r : ModeRules) (s t : Stack) (ks : List Kept) → ¬ KeptUpTo r (codes "ab") 0 s ks 3 t
past_the_end r s t ks are = omega (arith, kept_within r (codes "ab") 0 s ks 3 t (omega arith) are)

-- ---- how far they depend on the text

-- from place 3 on: the first up to 5, the second, which begins at 4, up to 6
both_within_six : AreWithin 6 3 (piece 0 1 1 ∷ fault 2 0 ∷ [])
both_within_six = (omega arith, (omega arith, tt))

second_beyond_five : ¬ AreWithin 5 3 (piece 0 1 1 ∷ fault 2 0 ∷ [])
second_beyond_five within = omega (arith, within.1.0)

-- the first may reach further than all that follow
first_beyond_five : ¬ AreWithin 5 0 (piece 0 1 9 ∷ fault 2 0 ∷ [])
first_beyond_five within = omega (arith, within.0)
