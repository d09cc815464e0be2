use Rattle.std.proofs.Common.{◌<◌, ℕ, List, length, ◌≡◌}
use Rattle.std.specs.Prelude.{Option, Some, None, IfSome}
use Rattle.lalrpop_hir.specs.declared.token.Token.{Token}
use Rattle.lalrpop_rules.specs.Found.{IsFound}
use Rattle.lalrpop_rules.specs.Internal.Lexers.{IsWhole}
use Rattle.lalrpop_rules.specs.Modes.{ModeRules, trees_in}
use Rattle.lalrpop_rules.proofs.CallerLaws.{named_within}
use Rattle.lalrpop_rules.proofs.rule_lexer.RuleLexer.find.Goals as goal

found_within : (r : ModeRules) (text : List ℕ) (o : Option Token) → length r.names ≡ length r.trees
    → IfSome o (λ token. IsFound (trees_in r 0) r.precedences text token) → IfSome o (λ token. token.index < length r.names)
found_within r text None named found = tt
found_within r text (Some token) named found = named_within r 0 text token.start token named found.0

pub lexer-requires : goal.lexer-requires
lexer-requires c = let whole : IsWhole c.args.self.now c.self.inside.lexers.items = rw (← c.self.view_is) c.self.invariant in record { there = whole.some }

pub returns-clause-none : goal.returns-clause-none
returns-clause-none c = rw (← c.lexer.ensures.trees) c.find.ensures.none

pub returns-clause-named : goal.returns-clause-named
returns-clause-named c =
    let whole : IsWhole c.args.self.now c.self.inside.lexers.items = rw (← c.self.view_is) c.self.invariant in
    found_within c.args.self.now c.args.text.now c.find.result whole.named (rw (← c.lexer.ensures.trees, ← c.lexer.ensures.precedences) c.find.ensures.found)
