use Rattle.std.proofs.Common.{◌≡◌, ℕ, List, [], ◌∷◌, codes, Bor, map, length, get_or, sym, ap, ◌∙◌, arith}
use Rattle.std.proofs.lemmas.Slice.Eq.{bytes_eq-Decides}
use Rattle.std.specs.Prelude.{Option, Some, None, IfSome}
use Rattle.lexdfa_lib.specs.Command.{options_of}
use Rattle.lexdfa_lib.specs.declared.command.Action.{Action}
use Rattle.lexdfa_lib.proofs.command.action_of.Goals as goal

abbrev text : Bor (List ℕ) → List ℕ
text option = option.now

-- two options, the first of which is known
two : (xs : List (Bor (List ℕ))) (d : Bor (List ℕ)) (first : List ℕ) → length xs ≡ 2 → (get_or xs 0 d).now ≡ first → map text xs ≡ first ∷ (get_or xs 1 d).now ∷ []
two [] d first l e = absurd (omega (arith, l))
two (x ∷ []) d first l e = absurd (omega (arith, l))
two (x ∷ y ∷ []) d first l e = ap (λ v. v ∷ y.now ∷ []) e
two (x ∷ y ∷ z ∷ xs) d first l e = absurd (omega (arith, l))

same : (found : Option Action) (options wanted : List (List ℕ)) → options ≡ wanted → IfSome found (λ action. wanted ≡ options_of action) → IfSome found (λ action. options ≡ options_of action)
same (Some action) options wanted e is = e ∙ is
same None options wanted e is = tt

pub returns-then-eq-clause-some : goal.returns-then-eq-clause-some
returns-then-eq-clause-some c =
    same c.emit_with.result _ _ (two c.args.options.now (record { ref_ptr = (0, 0); now = [] }) (codes "--emit=c") (omega (arith, c.in-len2.len_at_least, c.in-len2.len_below)) ((bytes_eq-Decides _ _).0 (sym c.eq.ensures ∙ c.if-eq.true))) c.emit_with.ensures.some
