use Rattle.std.proofs.Common.{◌≡◌, ◌<◌, ◌≤◌, ◌+◌, ◌^◌, ◌++◌, ℕ, List, length, arith, sym, ap, ◌∙◌, length-append}
use Rattle.std.specs.Str.{chars, IsUtf8}
use Rattle.std.proofs.lemmas.Str.{chars-append}
use Rattle.bajofeki_rules.specs.Position.{Fits, place_after, place_behind}
use Rattle.bajofeki_rules.specs.declared.position.Position.{Position}
use Rattle.bajofeki_rules.proofs.Places.{column_within, few_chars, line_within}
use Rattle.bajofeki_rules.proofs.PlaceLaws.{place_behind_slice}
use Rattle.bajofeki.proofs.LineLaws.{moved_begin}
use Rattle.uses_rules.proofs.count_places.behind_both.Goals as goal

abbrev begin : Position
begin = record { line = 1; column = 1 }

-- from the beginning on
from_begin : (text : List ℕ) → place_after begin text ≡ place_behind (chars text)
from_begin text = moved_begin (place_behind (chars text)) (omega arith) (omega arith)

-- after the first text
both : (first second : List ℕ) (p : Position) → IsUtf8 first → p ≡ place_after begin first → place_after p second ≡ place_behind (chars (first ++ second))
both first second p u is = ap (λ (q : Position). place_after q second) (is ∙ from_begin first) ∙ sym (place_behind_slice first second u)

-- the place after fewer than 2^64 - 1 characters fits
few_fit : (cs : List ℕ) (p : Position) → p ≡ place_behind cs → length cs + 1 < 2 ^ 64 → Fits p
few_fit cs p is few =
    (omega (arith, few, line_within cs, ap (λ (q : Position). q.line) is), omega (arith, few, column_within cs, ap (λ (q : Position). q.column) is))

pub behind-requires : goal.behind-requires
behind-requires c =
    let first = c.args.first.now in
    record { fits = few_fit (chars first) _ (from_begin first) (omega (arith, few_chars first c.utf8.first)) }

pub behind-requires-2 : goal.behind-requires-2
behind-requires-2 c =
    let first = c.args.first.now in
    let second = c.args.second.now in
    let size : length (chars (first ++ second)) ≡ length (chars first) + length (chars second) =
    ap (length {A = ℕ}) (chars-append first second c.utf8.first) ∙ length-append (chars first) (chars second) in
    record {
      fits =
          few_fit (chars (first ++ second)) _ (both first second _ c.utf8.first c.behind.ensures.place)
          (omega (arith, size, few_chars first c.utf8.first, few_chars second c.utf8.second));
    }

pub returns : goal.returns
returns c = record { place = c.behind-2.ensures.place ∙ both c.args.first.now c.args.second.now c.behind.result c.utf8.first c.behind.ensures.place }
