use Rattle.std.proofs.Common.{refl}
use Rattle.std.proofs.lemmas.Bool.{true_from_ne_false}
use Rattle.lalrpop_dfa.proofs.Following.{none_has, others_have}
use Rattle.lalrpop_dfa.proofs.follow.has_fitting.Goals as goal

pub returns-then-others_fit : goal.returns-then-others_fit
returns-then-others_fit c = (λ t. others_have c.args.dfa.now c.args.live.now c.args.toward.now c.args.state (c.others_fit.ensures.0 c.if-others_fit.true), λ h. refl)

pub returns-else-any_border_fits : goal.returns-else-any_border_fits
returns-else-any_border_fits c = (
  c.any_border_fits-else-any_border_fits.ensures.some,
  λ h. true_from_ne_false _ (λ e.
      none_has c.args.dfa.now c.args.live.now c.args.toward.now c.args.state c.test_edges.result.now c.test_edges-else-any_border_fits.result.now
      c.test_edges.ensures.tests c.test_edges-else-any_border_fits.ensures.tests
      (λ o. let yes = c.others_fit.ensures.1 o in let no = c.if-others_fit.false in cc)
      (c.any_border_fits.ensures.none c.if-any_border_fits.false) (c.any_border_fits-else-any_border_fits.ensures.none e) h),
)
