use Rattle.std.proofs.Common.{inl, refl, [], ◌∷◌, subst, sym}
use Rattle.lalrpop_rule_file.specs.Internal.Lines.{IsFirstMissing, names_in}
use Rattle.lalrpop_rule_file.specs.declared.written.WrittenAction.{WrittenAction}
use Rattle.lalrpop_rule_file.proofs.Results.{if_not_some}
use Rattle.lalrpop_rule_file.proofs.numbers.missing_in.Goals as goal

pub returns-then-is_none-clause-some : goal.returns-then-is_none-clause-some
returns-then-is_none-clause-some c =
    subst (λ (a : WrittenAction). IsFirstMissing (names_in c.args.modes.now) (a ∷ []) c.in-Enter.here.now) (sym c.in-Enter.is)
    (inl (if_not_some c.number_of.result c.if-is_none.ensures c.number_of.ensures.none, refl))
