use Rattle.guide.proofs.ShowLemmas.{front-start, front-more, front-whole}
use Rattle.guide.proofs.highlighter.highlighted.Goals as goal

pub loop-item-init : goal.loop-item-init
loop-item-init c = front-start _ _ _ _ c.args.text.now _ c.new-shown.ensures.bytes c.into_iter-item-iterator.ensures.into_iter_gives c.in_ok-item-items.ensures.start

pub loop-item-preserved : goal.loop-item-preserved
loop-item-preserved c =
    front-more _ _ c.args.text.now _ _ c.in-Some.item c.in-Ok.token c.loop-item.invariant c.in-Ok.is c.in-Some.ensures.steps c.in_ok-push_marked-in-Ok.ensures.shows

pub returns : goal.returns
returns c = record { text = front-whole _ c.args.text.now _ _ c.loop-item.invariant c.in-None.ensures.steps }
