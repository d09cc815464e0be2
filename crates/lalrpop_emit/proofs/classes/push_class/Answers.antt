use Rattle.std.proofs.Common.{◌≡◌, ◌∙◌, ◌+◌, ◌-◌, ℕ, List, ◌++◌, [], ◌∷◌, ap, arith, append_assoc, replicate}
use Rattle.std.proofs.lemmas.List.{replicate_more}
use Rattle.lalrpop_emit.proofs.classes.push_class.Goals as goal

pub loop-preserved : goal.loop-preserved
loop-preserved c =
    let old = c.args.classes.now.items in
    let count : c.loop.counter - c.args.start + 1 ≡ c.loop.counter + 1 - c.args.start = omega arith in
    c.in_ok-push.ensures.items ∙ ap (λ (xs : List ℕ). xs ++ c.args.class ∷ []) c.loop.invariant
    ∙ append_assoc old (replicate (c.loop.counter - c.args.start) c.args.class) (c.args.class ∷ [])
    ∙ ap (λ (xs : List ℕ). old ++ xs) (replicate_more (c.loop.counter - c.args.start) c.args.class ∙ ap (λ (n : ℕ). replicate n c.args.class) count)
