-- An array that is written value by value, as far as it has room.
use Rattle.std.proofs.Common.{◌≡◌, ◌<◌, ◌≤◌, ℕ, min, List, length, take, drop, refl, ap, sym, ◌∙◌, ⊎_elim, arith}
use Rattle.std.proofs.lemmas.Bool.{cases_lt}
use Rattle.std.proofs.lemmas.List.{drop_all, take_all}
use Rattle.std.proofs.Math.Nat.{min-eq_left, min-eq_right}
use Rattle.bajofeki_c.specs.Rules.{IsWritten}

pub written_all : {X : Type 0} (values before after : List X) (n : ℕ) → n ≡ min (length before) (length values) → length after ≡ length before
    → take n after ≡ take n values → drop n after ≡ drop n before → IsWritten values before after (length values)
written_all values before after n is size front behind =
    ⊎_elim
    (λ (short : length before < length values). let all : n ≡ length before = is ∙ min-eq_left (omega (arith, short)) in record {
      count = refl;
      front = take_all (length values) after (omega (arith, size, short)) ∙ sym (take_all n after (omega (arith, size, all))) ∙ front ∙ ap (λ k. take k values) all;
      behind = drop_all (length values) after (omega (arith, size, short)) ∙ sym (drop_all (length values) before (omega (arith, short)));
    })
    (λ (fits : length values ≤ length before). let all : n ≡ length values = is ∙ min-eq_right fits in record {
      count = refl;
      front = ap (λ k. take k after) (sym all) ∙ front ∙ take_all n values (omega (arith, all)) ∙ sym (take_all (length before) values fits);
      behind = ap (λ k. drop k after) (sym all) ∙ behind ∙ ap (λ k. drop k before) all;
    })
    (cases_lt (length before) (length values))
