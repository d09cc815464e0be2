use Rattle.std.proofs.Common.{◌≡◌, ◌<◌, ◌≤◌, length, arith, ap, sym, ◌∙◌}
use Rattle.std.specs.String.{string_bytes}
use Rattle.std.proofs.lemmas.List.{length-map}
use Rattle.lalrpop_rules.specs.Internal.Lexers.{IsWhole}
use Rattle.lalrpop_rules.specs.Modes.{ModeRules}
use Rattle.lalrpop_rules.proofs.CallerLaws.{named_within}
use Rattle.lalrpop_rules.proofs.rule_lexer.RuleLexer.name.Goals as goal

pub returns-in-None-clause-token : goal.returns-in-None-clause-token
returns-in-None-clause-token c mode text at token is same =
    let whole : IsWhole c.args.self.now c.self.inside.lexers.items = rw (← c.self.view_is) c.self.invariant in
    let within : token.index < length c.args.self.now.names = named_within c.args.self.now mode text at token whole.named is in
    let size : length c.args.self.now.names ≡ length c.self.inside.names.items =
    ap (λ (r : ModeRules). length r.names) (sym c.self.view_is) ∙ length-map c.self.inside.names.items (λ s. string_bytes s) in
    let past : length c.deref.result.now ≤ c.index.result = c.in-None.ensures.lookup.3 in
    absurd (omega (arith, within, size, same, past, ap length c.deref.ensures.value, c.index.ensures.value))
