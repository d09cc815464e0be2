-- The walk along a text that keeps the last accepting place: what holds after each character.
use Rattle.std.proofs.Common.{◌≡◌, ◌≢◌, ℕ, ◌+◌, ◌<◌, ◌≤◌, ⊎_elim, List, [], ◌∷◌, ◌++◌, length, take, sym, ap, subst, ◌∙◌, arith, length-append}
use Rattle.std.specs.Prelude.{slice_get, Option, Some, None, IsSomeAnd}
use Rattle.std.specs.Char.{encode_utf8}
use Rattle.std.specs.Str.{chars}
use Rattle.std.proofs.lemmas.Bool.{cases_lt}
use Rattle.std.proofs.lemmas.List.{nil_from_length}
use Rattle.std.proofs.lemmas.Str.{chars-nil, chars-append}
use Rattle.lalrpop_hir.specs.Tree.{Tree}
use Rattle.lalrpop_hir.specs.Prefix.{IsPrefix}
use Rattle.lalrpop_hir.proofs.Cuts.{IsCut, cut_within, word_after, goes_on, ends_there}
use Rattle.lalrpop_dfa.specs.Dfa.{Row, step, run, after, Recognizes, IsRightKind, IsReject}
use Rattle.lalrpop_hir.specs.Longest.{IsMatch, IsLongest}
use Rattle.lalrpop_hir.specs.Word.{IsWord}
use Rattle.lalrpop_hir.specs.Winners.{Matched, IsOnlyStrongest, IsHighestStrongest}
use Rattle.lalrpop_dfa.specs.declared.Kind.{Kind}
use Rattle.lalrpop_dfa.specs.declared.Kind.TheVariants.{Reject}
use Rattle.lalrpop_dfa.proofs.AfterLaws.{run_append, after_push}
use Rattle.lalrpop_hir.proofs.TextWords.{IsWord-append, text_word}

-- the state is the one after what was read
pub record IsAfter (d : List Row) (text : List ℕ) (at : ℕ) (state : ℕ) : Type 0 where
  pub reached : state ≡ after d (chars (take at text))
  pub within : state < length d

-- the longest prefix of at most n bytes that some tree matches
abbrev pub IsLongestUpTo : List Tree → List ℕ → List ℕ → ℕ → Option (ℕ × List ℕ) → Type 0
IsLongestUpTo ts ps text n None = (p : List ℕ) → IsMatch ts text p → length p ≤ n → ⊥
IsLongestUpTo ts ps text n (Some m) =
    IsMatch ts text m.1 × ((p : List ℕ) → IsMatch ts text p → length p ≤ n → length p ≤ length m.1) × IsHighestStrongest ts ps (chars m.1) m.0

-- ---- states

pub after_start : (d : List Row) (text : List ℕ) → 0 < length d → IsAfter d text 0 0
after_start d text l = record { reached = ap (λ w. after d w) (sym chars-nil); within = l }

pub after_more : (d : List Row) (text rest rest2 : List ℕ) (at at2 c state state2 : ℕ) → IsCut text at rest → rest ≡ encode_utf8 c ++ rest2
    → at2 ≡ at + length (encode_utf8 c) → IsAfter d text at state → state2 ≡ step d state c → state2 < length d → IsAfter d text at2 state2
after_more d text rest rest2 at at2 c state state2 h e l a s w = record {
  reached = s ∙ ap (λ p. step d p c) a.reached
      ∙ sym (ap (after d) (word_after text rest rest2 at at2 c h e l) ∙ after_push d (chars (take at text)) c);
  within = w;
}

-- what a state's kind says of the word that leads to it
pub says_of : (d : List Row) (ts : List Tree) (ps w : List ℕ) (state : ℕ) (r : Row) (seen k : Kind) → IsWord w → Recognizes d ts ps → state ≡ after d w
    → slice_get d state ≡ Some r → seen ≡ r.kind → seen ≡ k → IsRightKind ts ps w k
says_of d ts ps w state r seen k word h reached at is kind =
    subst (IsRightKind ts ps w) (sym is ∙ kind)
    (subst (λ o. IsSomeAnd o (λ x. IsRightKind ts ps w x.kind)) (ap (slice_get d) (sym reached) ∙ at) (h.kinds w word))

pub reject_at : (d : List Row) (state : ℕ) (r : Row) (seen : Kind) → slice_get d state ≡ Some r → seen ≡ r.kind → seen ≡ Reject → IsReject d state
reject_at d state r seen at is kind = subst (λ o. IsSomeAnd o (λ x. x.kind ≡ Reject)) (sym at) (sym is ∙ kind)

pub stays_reject : (d : List Row) (ts : List Tree) (ps : List ℕ) (p : ℕ) (w : List ℕ) → IsWord w → Recognizes d ts ps → IsReject d p → IsReject d (run d p w)
stays_reject d ts ps p [] word h r = r
stays_reject d ts ps p (c ∷ w) word h r = stays_reject d ts ps (step d p c) w word.1 h (h.stays p c word.0 r)

pub unmatched : (ts : List Tree) (ps w : List ℕ) (o : Option Row) → IsSomeAnd o (λ r. r.kind ≡ Reject) → IsSomeAnd o (λ r. IsRightKind ts ps w r.kind) → ¬ Matched ts w
unmatched ts ps w None r s = absurd r
unmatched ts ps w (Some x) r s = subst (IsRightKind ts ps w) r s

-- after a reject state no tree matches
pub none_after : (d : List Row) (ts : List Tree) (ps v w : List ℕ) (state : ℕ) → IsWord v → IsWord w → Recognizes d ts ps → state ≡ after d v → IsReject d state → ¬ Matched ts (v ++ w)
none_after d ts ps v w state before behind h reached r =
    let there : after d (v ++ w) ≡ run d state w = run_append d 0 v w ∙ ap (λ p. run d p w) (sym reached) in
    unmatched ts ps (v ++ w) (slice_get d (after d (v ++ w))) (subst (IsReject d) (sym there) (stays_reject d ts ps state w behind h r)) (h.kinds (v ++ w) (IsWord-append v w before behind))

-- ---- the longest match

pub longest_start : (ts : List Tree) (ps text : List ℕ) → IsLongestUpTo ts ps text 0 None
longest_start ts ps text p m l = m.1 (nil_from_length p (omega arith))

pub longest_accept : (ts : List Tree) (ps text rest : List ℕ) (at i : ℕ) (m : List ℕ) → IsCut text at rest → 0 < at → m ≡ take at text
    → IsOnlyStrongest ts ps (chars (take at text)) i → IsLongestUpTo ts ps text at (Some (i, m))
longest_accept ts ps text rest at i m h above is only =
    subst (λ xs. IsLongestUpTo ts ps text at (Some (i, xs))) (sym is) (
      ((rest, (h.split, h.seen_utf8)), λ none. let zero : length (take at text) ≡ 0 = ap length none in absurd (omega (arith, h.place)), (i, only.0.0)),
      λ p q l. omega (arith, h.place),
      (only.0, λ j t. omega (arith, only.1 j t)),
    )

pub longest_pass : (ts : List Tree) (ps text rest rest2 : List ℕ) (at at2 c : ℕ) (best : Option (ℕ × List ℕ)) → IsCut text at rest
    → rest ≡ encode_utf8 c ++ rest2 → at2 ≡ at + length (encode_utf8 c) → ¬ Matched ts (chars (take at2 text))
    → IsLongestUpTo ts ps text at best → IsLongestUpTo ts ps text at2 best
longest_pass ts ps text rest rest2 at at2 c None h e l not up = λ p m below.
    ⊎_elim (λ (a : at < length p). not (subst (λ xs. Matched ts (chars xs)) (ends_there text rest rest2 p at at2 c h e l m.0 a below) m.2))
    (λ (a : length p ≤ at). up p m a)
    (cases_lt at (length p))
longest_pass ts ps text rest rest2 at at2 c (Some best) h e l not up = (
  up.0,
  λ p m below.
      ⊎_elim (λ (a : at < length p). absurd (not (subst (λ xs. Matched ts (chars xs)) (ends_there text rest rest2 p at at2 c h e l m.0 a below) m.2)))
      (λ (a : length p ≤ at). up.1 p m a)
      (cases_lt at (length p)),
  up.2,
)

-- if no longer prefix matches, the longest so far is the longest
pub done : (ts : List Tree) (ps text : List ℕ) (at : ℕ) (best : Option (ℕ × List ℕ)) → ((p : List ℕ) → IsMatch ts text p → length p ≤ at)
    → IsLongestUpTo ts ps text at best → IsLongest ts ps text best
done ts ps text at None all up = λ p m. up p m (all p m)
done ts ps text at (Some best) all up = (up.0, λ p m. up.1 p m (all p m), up.2)

pub longest_end : (ts : List Tree) (ps text rest : List ℕ) (at : ℕ) (best : Option (ℕ × List ℕ)) → IsCut text at rest → length rest ≡ 0
    → IsLongestUpTo ts ps text at best → IsLongest ts ps text best
longest_end ts ps text rest at best h none up =
    done ts ps text at best
    (λ p m. omega (arith, cut_within text rest at h, ap length m.0.1.0, length-append p m.0.0))
    up

pub longest_stop : (d : List Row) (ts : List Tree) (ps text rest : List ℕ) (at state : ℕ) (best : Option (ℕ × List ℕ)) → Recognizes d ts ps → IsCut text at rest
    → IsAfter d text at state → IsReject d state → IsLongestUpTo ts ps text at best → IsLongest ts ps text best
longest_stop d ts ps text rest at state best stands h a r up =
    done ts ps text at best
    (λ p m.
    ⊎_elim (λ (above : at < length p).
    let g = goes_on text rest at p h m.0 (omega arith) in
    let word : chars p ≡ chars (take at text) ++ chars g.more = ap chars g.is ∙ chars-append (take at text) g.more h.seen_utf8 in
    absurd (none_after d ts ps (chars (take at text)) (chars g.more) state (text_word (take at text) h.seen_utf8) (text_word g.more g.utf8) stands a.reached r (subst (Matched ts) word m.2)))
    (λ (below : length p ≤ at). below)
    (cases_lt at (length p)))
    up

-- ---- what is accepted is a nonempty prefix of the text

pub part_accept : (text rest : List ℕ) (at : ℕ) (m : List ℕ) → IsCut text at rest → 0 < at → m ≡ take at text → IsPrefix m text × (m ≢ [])
part_accept text rest at m h above is = (
  subst (λ (p : List ℕ). IsPrefix p text) (sym is) (rest, (h.split, h.seen_utf8)),
  λ none. let zero : length m ≡ 0 = ap length none in let size : length m ≡ at = ap length is ∙ h.place in omega arith,
)
