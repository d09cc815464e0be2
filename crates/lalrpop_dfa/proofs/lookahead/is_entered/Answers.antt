use Rattle.std.proofs.Common.{◌≡◌, ℕ, true, false, sym, ◌∙◌, refl, arith}
use Rattle.std.specs.Prelude.{Option, Some, None, is_some}
use Rattle.std.proofs.lemmas.Option.{slice_get_within}
use Rattle.lalrpop_dfa.proofs.lookahead.is_entered.Goals as goal

the_value : (o : Option ℕ) → is_some o ≡ true → (i : ℕ) × (o ≡ Some i)
the_value (Some i) e = (i, refl)
the_value None e = absurd (let f : false ≡ true = e in cc)

pub returns-then-is_some : goal.returns-then-is_some
returns-then-is_some c =
    let (i, e) = the_value c.entering.result (sym c.is_some.ensures ∙ c.if-is_some.true) in
    (λ _. (i, c.new.result, (c.entering.ensures i).0 e), λ _. refl)

pub returns : goal.returns
returns c = (
  λ no. absurd (let e : false ≡ true = no in cc),
  λ (i, p, e). absurd (c.loop-number.invariant i p (let w = slice_get_within c.args.reached.now p true e.0 in omega (arith, w, c.loop-number-test.false, c.requires.reached, c.requires.same_length)) e),
)
