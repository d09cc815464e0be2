use Rattle.std.proofs.Common.{◌+◌, ◌-◌, ◌∙◌, length, arith, sym, ap, subst}
use Rattle.std.specs.Str.{chars}
use Rattle.lalrpop_hir.specs.Prefix.{IsPrefix}
use Rattle.lalrpop_dense.specs.Matching.{Matching, rest_of}
use Rattle.lalrpop_dense.specs.Internal.Blocks.{bytes_of}
use Rattle.lalrpop_dense.proofs.Blocks.{IsPassed, plain, pass_settles}
use Rattle.lalrpop_dense.proofs.matches.Matches.pass.Goals as goal
use Rattle.lalrpop_dense.proofs.matches.Matches.pass.Goals.{After-char_count}

pub pass-requires : goal.pass-requires
pass-requires c = record { prefix = subst (λ (s : Matching). IsPrefix c.args.prefix.now (rest_of s)) (sym c.self.view_is) c.requires.prefix }

passed : (c : After-char_count) → IsPassed c.pass.new.self (plain c.self.inside.ahead c.self.inside.credit c.self.inside.settled) c.args.prefix.now (c.self.inside.credit + (c.char_count.result - 1)) c.char_count.result c.offset-at.result
passed c =
    let b : IsPrefix c.args.prefix.now (bytes_of c.self.inside.ahead) = subst (λ (s : Matching). IsPrefix c.args.prefix.now (rest_of s)) (sym c.self.view_is) c.requires.prefix in
    pass_settles c.self.inside.ahead c.pass.new.self c.args.prefix.now c.range.result.now c.text.result.now c.self.inside.credit c.self.inside.settled c.offset-at.result c.char_count.result
    c.pass.ensures.passes b c.requires.some c.self.invariant (c.text.ensures.same ∙ ap (λ r. r.text) c.pass.ensures.passes) c.offset-at.ensures.offset c.offset-at.ensures.boundary c.range.ensures.value c.range.utf8 c.char_count.ensures.count

pub overflow_sub-self : goal.overflow_sub-self
overflow_sub-self c = (passed c).some

pub overflow_add-self : goal.overflow_add-self
overflow_add-self c = omega (arith, (passed c).settles.few)

pub invariant_of-self : goal.invariant_of-self
invariant_of-self c = (passed (goal.at.invariant_of-self c).After-char_count).settles

pub returns-clause-prepays : goal.returns-clause-prepays
returns-clause-prepays c =
    (passed (goal.at.returns-clause-prepays c).After-char_count).prepays ∙ ap (λ (s : Matching). s.spare + length (chars c.args.prefix.now)) c.self.view_is
