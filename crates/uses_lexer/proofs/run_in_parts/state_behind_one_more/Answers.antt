use Rattle.std.proofs.Common.{sym, ap, ◌∙◌, subst, length, ◌<◌, ℕ}
use Rattle.std.specs.Str.{chars}
use Rattle.lalrpop_dfa.specs.Dfa.{step}
use Rattle.lalrpop_dfa.proofs.AfterLaws.{after_push, after_within}
use Rattle.uses_lexer.proofs.run_in_parts.state_behind_one_more.Goals as goal

pub step-requires : goal.step-requires
step-requires c =
    record { within = subst (λ (p : ℕ). p < length c.args.dfa.now) (sym c.requires) (after_within c.args.dfa.now (chars c.args.read.now) c.states-states.ensures.well_formed) }

pub returns : goal.returns
returns c =
    let d = c.args.dfa.now in
    c.step.ensures.leads ∙ ap (step d c.args.state) c.from.ensures ∙ ap (λ p. step d p c.args.c) c.requires ∙ sym (after_push d (chars c.args.read.now) c.args.c)
