use Rattle.std.proofs.Common.{◌≡◌, ◌∙◌, List, ℕ, ap, subst}
use Rattle.std.specs.Prelude.{◌↔◌, IfSome, IsSome}
use Rattle.std.specs.Str.{IsUtf8, chars}
use Rattle.bajofeki_rules.specs.Position.{byte_place, Fits, moved, place_behind}
use Rattle.bajofeki_rules.specs.declared.position.Position.{Position}
use Rattle.bajofeki_rules.proofs.BytePlaces.{bytes_text}
use Rattle.bajofeki_rules.proofs.position.Position.after.Goals as goal

-- the place after the bytes of a text is that after its characters
of_text : (bytes text : List ℕ) → IsUtf8 text → bytes ≡ text → byte_place bytes ≡ place_behind (chars text)
of_text bytes text u same = ap byte_place same ∙ bytes_text text u

pub returns-clause-place : goal.returns-clause-place
returns-clause-place c =
    subst (λ (q : Position). IfSome c.after_bytes.result (λ (p : Position). p ≡ moved c.args.self q))
    (of_text c.as_bytes.result.now c.args.text.now c.utf8.text c.as_bytes.ensures.value) c.after_bytes.ensures.place

pub returns-clause-fits : goal.returns-clause-fits
returns-clause-fits c =
    subst (λ (q : Position). IsSome c.after_bytes.result ↔ Fits (moved c.args.self q))
    (of_text c.as_bytes.result.now c.args.text.now c.utf8.text c.as_bytes.ensures.value) c.after_bytes.ensures.fits
