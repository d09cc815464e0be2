use Rattle.std.proofs.Common.{◌++◌, ◌≤◌, length, arith, sym}
use Rattle.std.specs.Prelude.{Some}
use Rattle.std.proofs.lemmas.List.{take-append-le}
use Rattle.std.proofs.lemmas.Option.{IfSome_then}
use Rattle.uses_rules.proofs.settle_a_token.final_token.Goals as goal

pub returns : goal.returns
returns c = record {
  stays =
      let text = c.args.text.now in
      let found = c.of-found in
      let within : found.result.reach ≤ length text = omega (arith, c.if-found-text.false) in
      IfSome_then found.result.token found.ensures.token
      (λ token is more. found.ensures.settled (text ++ more) (sym (take-append-le found.result.reach text more within)) (Some (token.index, token.slice.now)) is.1);
}
