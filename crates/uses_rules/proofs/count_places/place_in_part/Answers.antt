use Rattle.std.proofs.Common.{◌≡◌, ◌+◌, ℕ, List, drop, arith, refl, sym, ap, subst, ◌∙◌}
use Rattle.std.specs.Prelude.{Option, Some, None, IfNone, IsSome}
use Rattle.std.specs.Str.{IsCharBoundary, IsUtf8}
use Rattle.std.proofs.lemmas.Bool.{false≢true}
use Rattle.std.proofs.lemmas.Option.{IfSome_then}
use Rattle.std.proofs.lemmas.Str.{IsCharBoundary-from_rest, IsUtf8-take}
use Rattle.bajofeki_rules.specs.Position.{moved, position_of}
use Rattle.bajofeki_rules.specs.declared.position.Position.{Position}
use Rattle.bajofeki_rules.proofs.PlaceLaws.{position_moved}
use Rattle.bajofeki.proofs.LineLaws.{place_within}
use Rattle.uses_rules.proofs.count_places.place_in_part.Goals as goal

-- what is there isn't none
if_there : {X : Type 0} (o : Option X) (P : Type 0) → IsSome o → IfNone o P
if_there None P some = absurd (false≢true some)
if_there (Some x) P some = tt

-- the part's place is that of the text
same_place : (text slice : List ℕ) (begin at : ℕ) (first part : Position) → IsUtf8 text → IsCharBoundary text begin → slice ≡ drop begin text → first ≡ position_of text begin
    → part ≡ position_of slice at → moved first part ≡ position_of text (begin + at)
same_place text slice begin at first part u here is e f =
    ap (λ (p : Position). moved p part) e ∙ ap (moved (position_of text begin)) (f ∙ ap (λ (t : List ℕ). position_of t at) is) ∙ sym (position_moved text begin at u here)

pub returns-clause-place : goal.returns-clause-place
returns-clause-place c =
    let text = c.args.text.now in
    let whole = same_place text c.range_from.result.now c.args.begin c.args.at c.in_ok-first.first c.in_ok-get.field-0 c.utf8.text (c.in_ok-first.ensures.boundary.0 refl)
    c.range_from.ensures.value c.in_ok-first.ensures.position c.in_ok-get.ensures.position in
    IfSome_then c.then.result c.then.ensures.place (λ p is. is ∙ whole)

pub returns-clause-none : goal.returns-clause-none
returns-clause-none c =
    let text = c.args.text.now in
    let to = c.args.begin + c.args.at in
    let here = c.in_ok-first.ensures.boundary.0 refl in
    let there = subst (λ (t : List ℕ). IsCharBoundary t c.args.at) c.range_from.ensures.value (c.in_ok-get.ensures.boundary.0 refl) in
    let boundary : IsCharBoundary text to = IsCharBoundary-from_rest text c.args.begin c.args.at here.0 there in
    let within = place_within text to (IsUtf8-take text to c.utf8.text boundary) in
    let whole = same_place text c.range_from.result.now c.args.begin c.args.at c.in_ok-first.first c.in_ok-get.field-0 c.utf8.text here
    c.range_from.ensures.value c.in_ok-first.ensures.position c.in_ok-get.ensures.position in
    if_there c.then.result _ (c.then.ensures.fits.1 (
      omega (arith, within.0, ap (λ (p : Position). p.line) whole, boundary.0),
      omega (arith, within.1, ap (λ (p : Position). p.column) whole, boundary.0),
    ))
