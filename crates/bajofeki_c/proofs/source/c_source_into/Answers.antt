use Rattle.std.proofs.Common.{ℕ, inl, inr, List, refl, sym, subst}
use Rattle.std.specs.Prelude.{Result}
use Rattle.lalrpop_emit.specs.Names.{IsIdentifier}
use Rattle.bajofeki_c.specs.Source.{IsCSourceBy}
use Rattle.bajofeki_c.specs.declared.held.BuildError.{BuildError}
use Rattle.bajofeki_c.specs.declared.held.BuiltLexer.{BuiltLexer}
use Rattle.bajofeki_c.proofs.Names.{identifier_is_utf8}
use Rattle.bajofeki_c.proofs.source.c_source_into.Goals as goal

pub returns-in_default-from_utf8 : goal.returns-in_default-from_utf8
returns-in_default-from_utf8 c =
    let prefix : List ℕ = c.args.prefix.now in
    let bad : ¬ IsIdentifier prefix = λ i. c.in_default-from_utf8.ensures.cases.0 (identifier_is_utf8 prefix i) in record {
      source = subst (λ (made : Result BuiltLexer BuildError). IsCSourceBy made prefix c.args.out.now (record { code = 1; length = 0 }) c.args.out.now)
          (sym c.in-Ok.is) (inr (inl (bad, (refl, refl))));
    }
