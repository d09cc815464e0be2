use Rattle.std.proofs.Common.{◌≡◌, [], ◌∷◌, sym, ap, ◌∙◌}
use Rattle.std.specs.Str.{chars}
use Rattle.std.proofs.lemmas.List.{map-id}
use Rattle.std.proofs.lemmas.Iterator.{YieldsList-from_chars}
use Rattle.std.proofs.lemmas.Iterator.Consumers.{YieldsList-end}
use Rattle.lalrpop_dfa.specs.Dfa.{run, step}
use Rattle.lalrpop_dfa.proofs.AfterLaws.{run_append}
use Rattle.uses_lexer.proofs.run_in_parts.state_behind.Goals as goal

pub loop-c-preserved : goal.loop-c-preserved
loop-c-preserved c =
    let d = c.args.dfa.now in
    record {
      behind = c.step-state.ensures.leads ∙ ap (step d c.loop-c.state) c.from.ensures ∙ ap (λ p. step d p c.in-Some.c) c.loop-c.invariant.behind
          ∙ sym (run_append d c.args.from c.loop-c.yielded (c.in-Some.c ∷ []));
      within = c.step-state.ensures.within;
    }

pub returns-clause-leads : goal.returns-clause-leads
returns-clause-leads c =
    let all = YieldsList-end (YieldsList-from_chars c.args.part.now c.utf8.part cc) c.loop-c.yielded _ c.loop-c.yielded_by _ _ c.in-None.is c.next.ensures.steps in
    let same : c.loop-c.yielded ≡ chars c.args.part.now = sym (map-id c.loop-c.yielded) ∙ all.0 in
    c.loop-c.invariant.behind ∙ ap (run c.args.dfa.now c.args.from) same
