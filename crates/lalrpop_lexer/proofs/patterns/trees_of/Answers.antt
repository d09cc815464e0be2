use Rattle.std.proofs.Common.{◌≡◌, ℕ, length, sym, subst, ◌∙◌}
use Rattle.lalrpop_lexer.specs.Spelled.{IsNotSpelled, texts_of}
use Rattle.lalrpop_lexer.proofs.SpelledTexts.{not_parsed, trees_more}
use Rattle.lalrpop_lexer.proofs.patterns.trees_of.Goals as goal

pub returns-in-Err-Syntax-clause-error : goal.returns-in-Err-Syntax-clause-error
returns-in-Err-Syntax-clause-error c =
    let is = c.in-Err-Syntax.ensures.pattern (λ e. cc) in
    let none = rw c.in-Err-Syntax.field-0-is at c.in-Err-Syntax.ensures.none in
    let points = rw c.in-Err-Syntax.field-0-is at c.in-Err-Syntax.ensures.position in
    let count : c.len.result ≡ length c.loop-pattern.trees.items = c.len.ensures ∙ c.loop-pattern.trees.ok.0 in
    subst (λ (p : ℕ). IsNotSpelled (texts_of c.args.patterns.now) c.len.result p) (sym c.in-Err-Syntax.position-is)
    (not_parsed c.args.patterns.now c.loop-pattern.trees.items c.loop-pattern.pattern-index c.len.result c.in-Err-Syntax.position _ c.loop-pattern-test.true count c.loop-pattern.invariant is none points)

pub loop-pattern-preserved : goal.loop-pattern-preserved
loop-pattern-preserved c =
    trees_more c.args.patterns.now c.loop-pattern.trees.items _ c.loop-pattern.pattern-index _ c.in-Ok.tree c.loop-pattern-test.true c.loop-pattern.invariant c.in-Ok.ensures.tree c.in_ok-push-in-Ok.ensures.items
