-- What a run reads past its last match.
use Rattle.std.proofs.Common.{◌≡◌, ◌≢◌, ℕ, ◌+◌, ◌≤◌, List, [], ◌∷◌, ◌++◌, length, take, refl, sym, ap, ◌∙◌, arith, append_assoc, length-append}
use Rattle.std.specs.Prelude.{slice_get, Option, Some, None, IfSome}
use Rattle.std.specs.Char.{encode_utf8}
use Rattle.std.specs.Str.{chars}
use Rattle.std.proofs.lemmas.List.{append-nil}
use Rattle.std.proofs.lemmas.Option.{IfSome_then}
use Rattle.lalrpop_hir.proofs.Cuts.{IsCut, word_after}
use Rattle.lalrpop_dfa.specs.Dfa.{Row, step, run, after}
use Rattle.lalrpop_dfa.specs.Lookahead.{IsAccepting, IsOpen, ReadsAtMost}
use Rattle.lalrpop_dfa.specs.Internal.Marks.{StaysOpen}
use Rattle.lalrpop_dfa.specs.declared.Kind.TheVariants.{Accepts, Neither}
use Rattle.lalrpop_dfa.proofs.AfterLaws.{run_append}
use Rattle.lalrpop_dfa.proofs.Openness.{opened, waits_open}

-- the word w was read past the match m, and leaves it open
pub record IsTrail (d : List Row) (text : List ℕ) (at : ℕ) (m w : List ℕ) : Type 0 where
  pub some : chars m ≢ []
  pub word : chars (take at text) ≡ chars m ++ w
  pub accepted : IsAccepting d (after d (chars m))
  pub stays : StaysOpen d (after d (chars m)) w

abbrev pub HasTrail : List Row → List ℕ → ℕ → List ℕ → Type 0
HasTrail d text at m = (w : List ℕ) × IsTrail d text at m w

stays_push : (d : List Row) (p : ℕ) (w : List ℕ) (c : ℕ) → StaysOpen d p w → IsOpen d (run d p (w ++ c ∷ [])) → StaysOpen d p (w ++ c ∷ [])
stays_push d p [] c s o = (o, tt)
stays_push d p (b ∷ w) c s o = (s.0, stays_push d (step d p b) w c s.1 o)

-- what was read up to the end of a character is not empty
pub some_read : (text rest rest2 : List ℕ) (at at2 c : ℕ) → IsCut text at rest → rest ≡ encode_utf8 c ++ rest2 → at2 ≡ at + length (encode_utf8 c) → chars (take at2 text) ≢ []
some_read text rest rest2 at at2 c cut e l none =
    let word = word_after text rest rest2 at at2 c cut e l in
    absurd (omega (arith, ap length word, ap length none, length-append (chars (take at text)) (c ∷ [])))

pub trail_accept : (d : List Row) (text : List ℕ) (at : ℕ) (m : List ℕ) (state : ℕ) (r : Row) (i : ℕ) → m ≡ take at text → state ≡ after d (chars (take at text))
    → slice_get d state ≡ Some r → r.kind ≡ Accepts i → chars (take at text) ≢ [] → HasTrail d text at m
trail_accept d text at m state r i is reached there kind some =
    let there2 : slice_get d (after d (chars (take at text))) ≡ Some r = ap (slice_get d) (sym reached) ∙ there in (
      [],
      rw is record {
        some = some;
        word = sym (append-nil (chars (take at text)));
        accepted = rw there2 (i, kind);
        stays = tt;
      },
    )

pub trail_pass : {A : Type 0} (shown : A → List ℕ) (d : List Row) (text rest rest2 : List ℕ) (at at2 c state : ℕ) (r : Row) (o : Option A) → IsCut text at rest → rest ≡ encode_utf8 c ++ rest2
    → at2 ≡ at + length (encode_utf8 c) → state ≡ after d (chars (take at2 text)) → slice_get d state ≡ Some r → r.kind ≡ Neither
    → IfSome o (λ m. HasTrail d text at (shown m)) → IfSome o (λ m. HasTrail d text at2 (shown m))
trail_pass shown d text rest rest2 at at2 c state r None cut e l reached there kind h = tt
trail_pass shown d text rest rest2 at at2 c state r (Some m) cut e l reached there kind (w, h) =
    let word : chars (take at2 text) ≡ chars (shown m) ++ (w ++ c ∷ []) =
    word_after text rest rest2 at at2 c cut e l ∙ ap (λ (v : List ℕ). v ++ c ∷ []) h.word ∙ append_assoc (chars (shown m)) w (c ∷ []) in
    let leads : run d (after d (chars (shown m))) (w ++ c ∷ []) ≡ state =
    sym (reached ∙ ap (after d) word ∙ run_append d 0 (chars (shown m)) (w ++ c ∷ [])) in (
      w ++ c ∷ [],
      record {
        some = h.some;
        word = word;
        accepted = h.accepted;
        stays = stays_push d (after d (chars (shown m))) w c h.stays (rw (leads, there) kind);
      },
    )

-- past the match at most n values are read that leave it open, and one that settles it
pub trail_cost : {A : Type 0} (shown : A → List ℕ) (d : List Row) (text : List ℕ) (at n before steps : ℕ) (o : Option A) → ReadsAtMost d n
    → steps ≤ before + length (chars (take at text)) + 1 → IfSome o (λ m. HasTrail d text at (shown m))
    → IfSome o (λ m. steps ≤ before + length (chars (shown m)) + n + 1)
trail_cost shown d text at n before steps None most cost h = tt
trail_cost shown d text at n before steps (Some m) most cost (w, h) =
    let few : length w ≤ n = most.1 (length w) (chars (shown m), w, opened d (length w) (chars (shown m)) w h.some h.accepted (waits_open d most.0 (after d (chars (shown m))) w h.stays) refl) in
    omega (arith, ap length h.word, length-append (chars (shown m)) w)

-- a counter that has risen still pays for the match
pub still_pays : {A : Type 0} (shown : A → List ℕ) (before steps more : ℕ) (o : Option A) → steps ≤ more → IfSome o (λ m. before + length (chars (shown m)) ≤ steps)
    → IfSome o (λ m. before + length (chars (shown m)) ≤ more)
still_pays shown before steps more o rises h = IfSome_then o h (λ m pays. omega (arith, rises, pays))
