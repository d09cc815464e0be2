-- Steps of the code that reads the name of a part.
use Rattle.std.proofs.Common.{◌≡◌, ℕ, suc, ◌-◌, ◌≤◌, ◌+◌, ◌&&◌, Bool, true, false, cond, List, [], ◌∷◌, length, take, drop, get_or, Option, Some, None, refl, arith, ◌∙◌, subst}
use Rattle.std.proofs.Math.Seq.{take-length}
use Rattle.std.specs.List.{list_all}
use Rattle.lalrpop_re.specs.Text.{Text, begins}
use Rattle.lalrpop_re.specs.NamedPart.{NamedPart, begins_part, continues_part, is_part_name, part_named}
use Rattle.lalrpop_re.specs.Internal.Reading.{ends_part, part_after}
use Rattle.lalrpop_re.proofs.OpeningSteps.{IsCut, span_again, past_mark}

pub part_name_of_parts : (name : List ℕ) (first : ℕ) (others : Bool) → 1 ≤ length name → first ≡ get_or name 0 first → begins_part first ≡ true
    → others ≡ list_all continues_part (take (length name - 1) (drop 1 name)) → others ≡ is_part_name name
part_name_of_parts [] first others h e b k = absurd (omega arith)
part_name_of_parts (c ∷ cs) first others h e b k =
    let begins : begins_part c ≡ true = subst (λ d. begins_part d ≡ true) e b in
    let all : suc (length cs) - 1 ≡ length cs = omega arith in
    rw begins (k ∙ rw (all, take-length) refl)

module _ (parts : List NamedPart) {t front behind : Text} (k : IsCut ends_part t front behind) where
  pub part_found : (p : NamedPart) → begins "}" behind ≡ true → is_part_name front ≡ true → part_named parts front ≡ Some p → Some (p, drop (length front + 1) t) ≡ part_after parts t
  unfolding part_after
  part_found p h n e = rw (span_again k, h, n, e, past_mark k) refl

  pub part_unknown : part_named parts front ≡ None → None ≡ part_after parts t
  unfolding part_after
  part_unknown e = rw (span_again k, e) (both (begins "}" behind && is_part_name front))
    where
      both : (b : Bool) → ◌≡◌ {A = Option (NamedPart × Text)} None (cond b None None)
      both true = refl
      both false = refl

  pub no_part : (begins "}" behind && is_part_name front) ≡ false → None ≡ part_after parts t
  unfolding part_after
  no_part e = rw (span_again k, e) refl
