use Rattle.std.proofs.Common.{map}
use Rattle.lalrpop_lexer.proofs.ClashListLaws.{clashes-unique}
use Rattle.lalrpop_lexer.proofs.RenumberLaws.{clashes_alike, pairs_renumbered}
use Rattle.uses_lexer.proofs.follow_laws.clashes_of_both.Goals as goal

pub returns : goal.returns
returns c =
    let ts = c.args.regexs.now in
    let ps = map (λ p. p.0) c.args.precedences.now in
    let us = c.args.others.now in
    let qs = map (λ p. p.0) c.args.strengths.now in
    record {
      alike = λ same. clashes-unique us qs _ _ (clashes_alike ts ps us qs same _ c.in_ok-first.ensures.clashes) c.in_ok-second.ensures.clashes;
      pairs = λ f g e same listed. pairs_renumbered f g ts ps us qs same _ _ e c.in_ok-first.ensures.clashes c.in_ok-second.ensures.clashes listed;
    }
