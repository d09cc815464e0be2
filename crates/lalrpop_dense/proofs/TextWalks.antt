-- What a walk along a text reads, in words, and what it pays.
use Rattle.std.proofs.Common.{◌≡◌, ℕ, ◌+◌, ◌*◌, ◌%◌, ◌/◌, ◌≤◌, ⊎_elim, List, ◌∷◌, ◌++◌, length, take, drop, ap, ◌∙◌, arith, length-append}
use Rattle.std.specs.Prelude.{slice_get, Some}
use Rattle.std.specs.Char.{encode_utf8}
use Rattle.std.specs.Str.{chars}
use Rattle.std.proofs.Math.Seq.{drop-append_seam}
use Rattle.std.proofs.lemmas.Bool.{cases_eq}
use Rattle.std.proofs.lemmas.Str.{chars-append, chars_past_char}
use Rattle.lalrpop_hir.proofs.Cuts.{IsCut}
use Rattle.lalrpop_dfa.specs.Dfa.{Row}
use Rattle.lalrpop_dfa.specs.Lookahead.{IsOpen}
use Rattle.lalrpop_dfa.specs.declared.Kind.TheVariants.{Neither}

pub open_at : (d : List Row) (state : ℕ) (r : Row) → slice_get d state ≡ Some r → r.kind ≡ Neither → IsOpen d state
open_at d state r at kind = rw at kind

-- what was read and what is left are the text
words_at : (text rest : List ℕ) (at : ℕ) → IsCut text at rest → chars text ≡ chars (take at text) ++ chars rest
words_at text rest at h = ap chars h.split ∙ chars-append (take at text) rest h.seen_utf8

pub count_at : (text rest : List ℕ) (at : ℕ) → IsCut text at rest → length (chars text) ≡ length (chars (take at text)) + length (chars rest)
count_at text rest at h = ap length (words_at text rest at h) ∙ length-append (chars (take at text)) (chars rest)

pub left_at : (text rest : List ℕ) (at : ℕ) → IsCut text at rest → drop (length (chars (take at text))) (chars text) ≡ chars rest
left_at text rest at h = ap (λ (w : List ℕ). drop (length (chars (take at text))) w) (words_at text rest at h) ∙ drop-append_seam (chars (take at text)) (chars rest)

pub next_at : (text rest rest2 : List ℕ) (at c : ℕ) → IsCut text at rest → rest ≡ encode_utf8 c ++ rest2 → chars rest ≡ c ∷ chars rest2
next_at text rest rest2 at c h e = chars_past_char rest rest2 c h.rest_utf8 e

-- a character costs a step; at each 64th a pair is noted, which pays for it and those before it
pub paid_next : (index room before : ℕ) → room ≤ before → ((k : ℕ) → 64 * k ≡ index + 1 → room + 1 ≡ before) → 64 * room + 1 + index % 64 ≤ 64 * before + (index + 1) % 64
paid_next index room before less noted =
    ⊎_elim
    (λ (a : (index + 1) % 64 ≡ 0).
    let here : room + 1 ≡ before = noted ((index + 1) / 64) (omega arith) in
    omega arith)
    (λ (a : (index + 1) % 64 ≡ 0 → ⊥). omega arith)
    (cases_eq ((index + 1) % 64) 0)
