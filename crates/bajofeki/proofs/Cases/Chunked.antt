-- Cases of specs/Chunked.antt.
use Rattle.std.proofs.Common.{◌≡◌, ◌≢◌, ℕ, zero, suc, ◌+◌, true, inl, inr, List, [], ◌∷◌, ◌++◌, length, codes, refl, ap, subst, sym, ◌∙◌, arith, length-append}
use Rattle.std.specs.Prelude.{Some, None, Err}
use Rattle.std.specs.Borrow.{Bor}
use Rattle.std.specs.Str.{chars}
use Rattle.lalrpop_hir.specs.Tree.{Tree}
use Rattle.lalrpop_hir.specs.Winners.{Matched}
use Rattle.lalrpop_rules.specs.Found.{MatchesAt, NoMatchBefore}
use Rattle.lalrpop_rules.specs.Pieces.{IsFault, IsPiece, slice_of}
use Rattle.lalrpop_rules.specs.declared.piece.Piece.{Piece}
use Rattle.lalrpop_rules.specs.declared.piece.Piece.TheVariants.{Fault}
use Rattle.lalrpop_rules.specs.Modes.{ModeRules, trees_in}
use Rattle.bajofeki.specs.Internal.Reach.{IsSettledBy}
use Rattle.bajofeki.specs.Lexed.{placed}
use Rattle.bajofeki.specs.declared.error.EditError.{EditError}
use Rattle.bajofeki.specs.declared.error.EditError.TheVariants.{NoBoundary, TooLarge, OutOfMemory}
use Rattle.bajofeki.specs.Chunked.{Chunked, nothing_come, IsFinal, IsOpen, IsHeldBack, GivesFinal, GivesOrRefuses, IsChunkError, BeginsFault, MayMatch, Came, nothing, fed, ended}
use Rattle.bajofeki.proofs.BytesLaws.{matches_more, none_at, none_at_front}
use Rattle.bajofeki.proofs.Cases.Begun.{a_first_byte_begins, letter, of_no_character}
use Rattle.bajofeki.proofs.BegunLaws.{nothing_begun}
use Rattle.bajofeki.proofs.Settling.{settled_match}
use Rattle.bajofeki.proofs.ChunkLaws.{came_rest}

-- this has come, and nothing was given
abbrev come : ModeRules → List ℕ → Chunked
come r rest = record (nothing_come r) { rest = rest }

-- and nothing more comes
abbrev whole : ModeRules → List ℕ → Chunked
whole r rest = record (come r rest) { is_ended = true }

-- ---- pieces that are final, or held back

nothing_yet_to_give : (r : ModeRules) → IsHeldBack (nothing_come r)
nothing_yet_to_give r = ((λ over. absurd (cc)), (λ goes. ([], ([], (refl, (nothing_begun, inl (λ n below m. omega arith)))))))

-- `a` matches, and `ab` does too
match_may_go_on : (ts : List Tree) → Matched ts (codes "ab") → IsOpen ts (codes "a")
unfolding chars
match_may_go_on ts longer = inr (0, (letter, inl refl, (98 ∷ [], ((λ none. cc), longer))))

-- `a` matches, and nothing longer that begins with it
match_goes_no_further : (ts : List Tree) → MatchesAt ts (codes "a") 0 → ((v : List ℕ) → v ≢ [] → ¬ Matched ts (codes "a" ++ v)) → ¬ IsOpen ts (codes "a")
unfolding chars
match_goes_no_further ts m closed (inl none) = none 0 (omega arith) m
match_goes_no_further ts m closed (inr (zero, (begins, before, (v, (some, longer))))) = closed v some longer
match_goes_no_further ts m closed (inr (suc k, (begins, inl e, more))) = absurd (omega (arith, e))
match_goes_no_further ts m closed (inr (suc k, (begins, inr before, more))) = before 0 (omega arith) m

-- nothing matches at `b`, and `a` matches after it, however it goes on
fault_ends_at_a_match : (ts : List Tree) → MatchesAt ts (codes "ba") 1 → ((v : List ℕ) → ¬ Matched ts (codes "ba" ++ v)) → ¬ IsOpen ts (codes "ba")
unfolding chars
fault_ends_at_a_match ts m closed (inl none) = none 1 (omega arith) m
fault_ends_at_a_match ts m closed (inr (zero, (begins, before, (v, (some, longer))))) = closed v longer
fault_ends_at_a_match ts m closed (inr (suc k, (begins, inl e, more))) = absurd (omega (arith, e))
fault_ends_at_a_match ts m closed (inr (suc k, (begins, inr before, more))) = before 1 (omega arith) m

-- a character at which nothing matches, and one more like it may come
fault_may_go_on : (r : ModeRules) (slice : Bor (List ℕ)) → slice.now ≡ codes "b" → ¬ MatchesAt (trees_in r 0) (codes "bb") 1
    → ¬ IsFinal (come r (codes "b")) (Fault 0 slice)
fault_may_go_on r slice one none final =
    let fault = (final (codes "b") (λ over. absurd (cc))).1 in
    elim fault.ends [
      | inl all ↦ (let n : 1 ≡ 2 = sym (ap length one) ∙ ap length all in omega (arith, n))
      | inr m ↦ none (subst (λ (p : List ℕ). MatchesAt (trees_in r 0) (codes "bb") (length p)) one m)
    ]

-- where nothing more comes, the piece of what has come is final
last_piece_is_final : (r : ModeRules) (rest : List ℕ) (x : Piece) → IsPiece (trees_in r 0) r.precedences r.skips (rest ++ []) 0 (placed 0 x)
    → IsFinal (whole r rest) x
last_piece_is_final r rest x is more none = subst (λ (t : List ℕ). IsPiece (trees_in r 0) r.precedences r.skips (rest ++ t) 0 (placed 0 x)) (sym (none refl)) is

-- ---- where a fault begins

-- nothing matches `?`, or begins with it
nothing_begins_so : (r : ModeRules) → ¬ MatchesAt (trees_in r 0) (codes "?") 0 → ((v : List ℕ) → v ≢ [] → ¬ Matched (trees_in r 0) (codes "?" ++ v))
    → BeginsFault (come r (codes "?"))
unfolding chars lib.Utf8.encode
nothing_begins_so r none closed = (
  (λ empty. cc),
  (λ more may n below m.
      let ts = trees_in r 0 in
      let front : n ≡ 0 = omega (arith, below) in
      let there : MatchesAt ts (codes "?" ++ more) 0 = subst (λ (k : ℕ). MatchesAt ts (codes "?" ++ more) k) front m in
      let settled : IsSettledBy ts (codes "?") 1 = inr (codes "?", (([], (refl, (codes "?", (refl, refl)))), omega arith, λ v below. closed v)) in
      none (there.0, settled_match ts (codes "?") (codes "?" ++ more) there.0 1 settled refl there.1)),
)

-- `ab` has come, `abc` matches, and `c` may come
match_may_come : (r : ModeRules) → Matched (trees_in r 0) (codes "abc") → ¬ BeginsFault (come r (codes "ab"))
unfolding chars lib.Utf8.encode
match_may_come r longer begins =
    begins.1 (codes "c") (λ over. absurd (cc)) 0 (omega arith) (codes "abc", (([], (refl, (codes "abc", (refl, refl)))), (λ none. cc), longer))

-- once the text has ended it doesn't
match_never_comes : (r : ModeRules) → ¬ MatchesAt (trees_in r 0) (codes "ab") 0 → BeginsFault (whole r (codes "ab"))
match_never_comes r none = (
  (λ empty. cc),
  (λ more may n below m.
      let front : n ≡ 0 = omega (arith, below) in
      let over = subst (λ (t : List ℕ). MatchesAt (trees_in r 0) (codes "ab" ++ t) n) (may refl) m in
      none (subst (λ (k : ℕ). MatchesAt (trees_in r 0) (codes "ab") k) front over)),
)

no_fault_of_nothing : (r : ModeRules) → ¬ BeginsFault (nothing_come r)
no_fault_of_nothing r begins = begins.0 refl

match_has_come : (r : ModeRules) → MatchesAt (trees_in r 0) (codes "ab") 0 → MayMatch (come r (codes "ab"))
match_has_come r m = inl m

match_is_to_come : (r : ModeRules) → Matched (trees_in r 0) (codes "abc") → MayMatch (come r (codes "ab"))
unfolding chars lib.Utf8.encode
match_is_to_come r longer = inr (refl, (codes "ab", ([], (refl, ((codes "ab", (refl, refl)), (nothing_begun, (codes "c", ((λ none. cc), longer))))))))

no_match_after_the_end : (r : ModeRules) → ¬ MatchesAt (trees_in r 0) (codes "ab") 0 → ¬ MayMatch (whole r (codes "ab"))
no_match_after_the_end r none (inl m) = none m
no_match_after_the_end r none (inr (goes, longer)) = absurd (cc)

-- ---- bytes that are of no character

none_in_front : (ts : List Tree) (more : List ℕ) → NoMatchBefore ts (255 ∷ more) 1
none_in_front ts more = none_at ts (255 ∷ more) (none_at_front ts (255 ∷ more) (of_no_character.1 more))

-- FF is a fault once something comes that matches
fault_of_one_byte : (r : ModeRules) (slice : Bor (List ℕ)) → slice.now ≡ 255 ∷ [] → MatchesAt (trees_in r 0) (codes "a") 0
    → IsFinal (come r (255 ∷ codes "a")) (Fault 0 slice)
fault_of_one_byte r slice one m more may = (
  refl,
  subst (λ (p : List ℕ). IsFault (trees_in r 0) (255 ∷ 97 ∷ more) p) (sym one) (record {
    front = (97 ∷ more, refl);
    some = λ none. cc;
    nothing = none_in_front (trees_in r 0) (97 ∷ more);
    ends = inr (matches_more (trees_in r 0) (255 ∷ 97 ∷ []) more 1 m);
  }),
)

-- or once the text has ended
fault_at_the_end : (r : ModeRules) (slice : Bor (List ℕ)) → slice.now ≡ 255 ∷ [] → IsFinal (whole r (255 ∷ [])) (Fault 0 slice)
fault_at_the_end r slice one more may = (
  refl,
  subst (λ (t : List ℕ). IsFault (trees_in r 0) (255 ∷ t) slice.now) (sym (may refl))
      (subst (λ (p : List ℕ). IsFault (trees_in r 0) (255 ∷ []) p) (sym one) (record {
        front = ([], refl);
        some = λ none. cc;
        nothing = none_in_front (trees_in r 0) [];
        ends = inl refl;
      })),
)

-- before that one more such byte may come
fault_may_have_another : (r : ModeRules) (slice : Bor (List ℕ)) → slice.now ≡ 255 ∷ [] → ¬ IsFinal (come r (255 ∷ [])) (Fault 0 slice)
fault_may_have_another r slice one final =
    let fault = (final (255 ∷ []) (λ over. absurd (cc))).1 in
    elim fault.ends [
      | inl all ↦ (let n : 1 ≡ 2 = sym (ap length one) ∙ ap length all in omega (arith, n))
      | inr m ↦ none_at_front (trees_in r 0) (255 ∷ []) (of_no_character.1 []) (subst (λ (p : List ℕ). MatchesAt (trees_in r 0) (255 ∷ 255 ∷ []) (length p)) one m)
    ]

fault_held_back : (r : ModeRules) → IsHeldBack (come r (255 ∷ []))
fault_held_back r = ((λ over. absurd (cc)), (λ goes. (255 ∷ [], ([], (refl, (nothing_begun, inl (none_in_front (trees_in r 0) [])))))))

-- after it a word may have begun: then how long the fault is isn't known
word_begun_after_a_byte : (r : ModeRules) → NoMatchBefore (trees_in r 0) (255 ∷ codes "a") 2 → Matched (trees_in r 0) (codes "ab")
    → IsHeldBack (come r (255 ∷ codes "a"))
unfolding chars
word_begun_after_a_byte r none longer = (
  (λ over. absurd (cc)),
  (λ goes. (255 ∷ codes "a", ([], (refl, (nothing_begun, inr (1, (letter, inr none, (98 ∷ [], ((λ none. cc), longer))))))))),
)

-- if the word matches as it is, the fault ends before it
fault_not_held_back : (ts : List Tree) → MatchesAt ts (codes "a") 0 → ¬ IsOpen ts (255 ∷ codes "a")
fault_not_held_back ts m (inl none) = none 1 (omega arith) m
fault_not_held_back ts m (inr (zero, (utf8, before, more))) = of_no_character.1 (codes "a") 2 (omega arith) (omega arith) utf8
fault_not_held_back ts m (inr (suc k, (utf8, inl e, more))) = absurd (omega (arith, e))
fault_not_held_back ts m (inr (suc k, (utf8, inr before, more))) = before 1 (omega arith) m

-- half of `ä` is held back
half_a_character : (r : ModeRules) → IsHeldBack (come r (195 ∷ []))
half_a_character r = ((λ over. absurd (cc)), (λ goes. ([], (195 ∷ [], (refl, (a_first_byte_begins, inl (λ n below m. omega arith)))))))

-- so is `a`, if more of it may match
half_after_a_letter : (r : ModeRules) → Matched (trees_in r 0) (codes "ab") → IsHeldBack (come r (97 ∷ 195 ∷ []))
half_after_a_letter r longer = ((λ over. absurd (cc)), (λ goes. (codes "a", (195 ∷ [], (refl, (a_first_byte_begins, match_may_go_on (trees_in r 0) longer))))))

-- it is a fault at the end of the text
half_at_the_end : (r : ModeRules) (new : Chunked) → ¬ GivesFinal (whole r (195 ∷ [])) None new
half_at_the_end r new gives = absurd (cc (gives.1.0 refl))

fault_begins_at_a_byte : (r : ModeRules) → BeginsFault (come r (255 ∷ []))
fault_begins_at_a_byte r = ((λ empty. cc), (λ more may. none_in_front (trees_in r 0) more))

-- ---- what a call gives

nothing_is_left : (r : ModeRules) → GivesFinal (whole r []) None (whole r [])
nothing_is_left r = (refl, ((λ over. refl), (λ goes. absurd (cc))))

held_back_at_the_end : (r : ModeRules) (new : Chunked) → ¬ GivesFinal (whole r (codes "a")) None new
held_back_at_the_end r new gives = absurd (cc (gives.1.0 refl))

piece_of_another_place : (r : ModeRules) (rest : List ℕ) (slice : Bor (List ℕ)) (new : Chunked) → ¬ GivesFinal (come r rest) (Some (Fault 1 slice)) new
piece_of_another_place r rest slice new gives = omega (arith, gives.1)

piece_given_again : (c : Chunked) (slice : Bor (List ℕ)) (at : ℕ) → slice.now ≡ codes "a" → ¬ GivesFinal c (Some (Fault at slice)) c
piece_given_again c slice at one gives =
    let place : c.at ≡ c.at + length slice.now = ap (λ (d : Chunked). d.at) gives.2 in
    omega (arith, place, ap length one)

-- the slice of the piece is told
slice_forgotten : (r : ModeRules) (rest : List ℕ) (slice : Bor (List ℕ)) → slice.now ≡ codes "a" → ¬ GivesFinal (come r rest) (Some (Fault 0 slice)) (nothing_come r)
slice_forgotten r rest slice one gives =
    let told : [] ≡ slice.now = ap (λ (c : Chunked). c.last) gives.2 in
    omega (arith, ap length told, ap length one)

-- ---- errors

refused_with_a_step : (c : Chunked) (error : EditError) → ¬ GivesOrRefuses c (Err error) (record c { at = c.at + 1 })
refused_with_a_step c error gives =
    let place : c.at + 1 ≡ c.at = ap (λ (d : Chunked). d.at) gives.0 in
    omega (arith, place)

memory_refused : (c : Chunked) → GivesOrRefuses c (Err OutOfMemory) c
memory_refused c = (refl, tt)

no_range_to_refuse : (c : Chunked) → ¬ IsChunkError c NoBoundary
no_range_to_refuse c error = error

three_bytes_too_many : (r : ModeRules) → ¬ IsChunkError (come r (codes "abc")) TooLarge
three_bytes_too_many r large = omega (arith, large)

-- ---- what has come

came_in_two_chunks : (r : ModeRules) → Came r (codes "ab") [] (whole r (codes "ab"))
came_in_two_chunks r = ended (fed (codes "b") refl (fed (codes "a") refl nothing))

chunk_lost : (r : ModeRules) → ¬ Came r (codes "a") [] (nothing_come r)
chunk_lost r came = absurd (cc ((came_rest r (codes "a") [] (nothing_come r) came).0))

piece_of_what_never_came : (r : ModeRules) (c : Chunked) (x : Piece) → slice_of x ≡ codes "a" → ¬ Came r [] (x ∷ []) c
piece_of_what_never_came r c x one came =
    let split = (came_rest r [] (x ∷ []) c came).0 in
    omega (arith, ap length split, ap length one, length-append (slice_of x ++ []) c.rest, length-append (slice_of x) [])
