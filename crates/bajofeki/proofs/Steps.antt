-- One character of a text more, along a walk.
use Rattle.std.proofs.Common.{◌≡◌, ℕ, ◌+◌, ◌<◌, ◌≤◌, ◌∷◌, List, [], ◌++◌, length, take, drop, sym, ap, ◌∙◌, arith, length-append}
use Rattle.std.specs.Str.{chars, IsUtf8}
use Rattle.std.proofs.lemmas.Str.{len_utf8_bounds, length-encode}
use Rattle.lalrpop_hir.proofs.TextWords.{chars-none}
use Rattle.lalrpop_hir.proofs.Cuts.{IsCut, cut_within, cut_more, word_after}
use Rattle.lalrpop_lexer.proofs.TextWalks.{next_at}
use Rattle.bajofeki.specs.declared.walker.Walker.{Walker}
use Rattle.bajofeki.specs.Internal.Walking.{Reads, behind, next_of}
use Rattle.bajofeki.proofs.Walking.{behind_push}

-- the character was read that lies between these two bytes, and led from the one place to the other
pub record Step (w : Walker) (text : List ℕ) (place at next end c : ℕ) : Type 0 where
  pub cut : IsCut text end (drop end text)
  pub whole : end + length (drop end text) ≡ length text
  pub first : chars (drop at text) ≡ c ∷ chars (drop end text)
  pub word : chars (take end text) ≡ chars (take at text) ++ c ∷ []
  pub count : length (chars (take end text)) ≡ length (chars (take at text)) + 1
  pub forward : at < end
  pub near : end ≤ at + 4
  pub reached : place ≡ behind w (chars (take at text)) → next ≡ behind w (chars (take end text))

pub step : (w : Walker) (text : List ℕ) (place at next end : ℕ) → IsUtf8 text → IsCut text at (drop at text) → (s : Reads w text place at next end)
    → Step w text place at next end s.character
step w text place at next end u before s =
    let c = s.character in
    let cut = cut_more text (drop at text) (drop end text) at end c u before s.split s.size in
    let word = word_after text (drop at text) (drop end text) at end c before s.split s.size in
    record {
      cut = cut;
      whole = cut_within text (drop end text) end cut;
      first = next_at text (drop at text) (drop end text) at c before s.split;
      word = word;
      count = omega (arith, ap length word, length-append (chars (take at text)) (c ∷ []));
      forward = omega (arith, s.size, length-encode c, len_utf8_bounds c);
      near = omega (arith, s.size, length-encode c, len_utf8_bounds c);
      reached = λ there. s.leads ∙ ap (λ (p : ℕ). next_of w p c) there ∙ sym (ap (behind w) word ∙ behind_push w (chars (take at text)) c);
    }

-- nothing is left to read
pub at_end : (text : List ℕ) (at : ℕ) → IsCut text at (drop at text) → length text ≤ at → (at ≡ length text) × (chars (drop at text) ≡ [])
at_end text at cut le = (omega (arith, cut_within text (drop at text) at cut, le), chars-none (drop at text) (omega (arith, cut_within text (drop at text) at cut, le)))
