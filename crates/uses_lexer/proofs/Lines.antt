-- A text without line feeds.
use Rattle.std.proofs.Common.{◌≡◌, ℕ, ◌<◌, Bool, true, false, List, length, get_or, refl, subst, arith}
use Rattle.std.specs.Str.{NoCharPasses}
use Rattle.std.proofs.lemmas.Str.{NoCharPasses-byte}
use Rattle.bajofeki_rules.specs.Quoted.{is_unseen}

-- where each character is seen, no line feed is found
pub no_line_feed : (found : Bool) (text : List ℕ) → NoCharPasses is_unseen text → (found ≡ true → (k : ℕ) × (k < length text) × (get_or text k 0 ≡ 10)) → found ≡ false
no_line_feed false text seen at = refl
no_line_feed true text seen at =
    let place = at refl in
    let shown = NoCharPasses-byte is_unseen text place.0 seen place.1 (omega (arith, place.2)) in
    let clash : true ≡ false = subst (λ (b : ℕ). is_unseen b ≡ false) place.2 shown in
    absurd (cc)
