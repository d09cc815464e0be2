use Rattle.std.proofs.Common.{ℕ, ◌<◌, arith, inl, length, get_or, subst, List, ◌++◌, [], ◌∷◌}
use Rattle.std.proofs.lemmas.List.{length-append}
use Rattle.lalrpop_emit.specs.EmitErrors.{TellsApart}
use Rattle.lalrpop_emit.proofs.Told.{one_more}
use Rattle.lalrpop_emit.proofs.classes.class_for.Goals as goal

pub returns-then-len-eq-MOST-clause-error : goal.returns-then-len-eq-MOST-clause-error
returns-then-len-eq-MOST-clause-error c =
    let cs = c.args.firsts.now.items in
    let apart = subst (λ (xs : List ℕ). (k : ℕ) → k < length xs → TellsApart c.args.dfa.now (get_or xs k 0) c.args.value) c.deref.ensures.value c.in_default.ensures in
    record {
      told_apart = cs ++ c.args.value ∷ [];
      are = one_more c.args.dfa.now cs c.args.value c.requires.apart c.requires.character apart;
      many = inl (omega (arith, length-append cs (c.args.value ∷ []), c.len.ensures, c.if-len-eq-MOST.true, c.args.firsts.now.ok.0));
    }
