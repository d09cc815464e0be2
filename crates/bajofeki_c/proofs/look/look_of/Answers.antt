use Rattle.std.proofs.Common.{◌<◌, inl, refl, sym, subst, arith}
use Rattle.std.specs.Prelude.{Some, None, Result}
use Rattle.bajofeki_c.specs.Look.{IsLookIn, look_told}
use Rattle.bajofeki_c.specs.declared.held.BuildError.{BuildError}
use Rattle.bajofeki_c.specs.declared.held.BuiltLexer.{BuiltLexer}
use Rattle.bajofeki_c.proofs.look.look_of.Goals as goal

pub returns-in-Some : goal.returns-in-Some
returns-in-Some c =
    let there : c.args.mode < c.in-Ok.lexer.rules.modes = omega (arith, c.if-mode-modes.false, c.modes.ensures.count) in
    record { look = subst (λ (made : Result BuiltLexer BuildError). IsLookIn made c.args.mode (look_told (Some c.in-Some.count))) (sym c.in-Ok.is) (inl (there, (Some c.in-Some.count, (c.in-Some.ensures.answer, refl)))) }

pub returns-in-None : goal.returns-in-None
returns-in-None c =
    let there : c.args.mode < c.in-Ok.lexer.rules.modes = omega (arith, c.if-mode-modes.false, c.modes.ensures.count) in
    record { look = subst (λ (made : Result BuiltLexer BuildError). IsLookIn made c.args.mode (look_told None)) (sym c.in-Ok.is) (inl (there, (None, (c.in-None.ensures.answer, refl)))) }
