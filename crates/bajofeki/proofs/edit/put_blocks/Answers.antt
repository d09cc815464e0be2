use Rattle.std.proofs.Common.{◌≡◌, ◌++◌, List, take, drop, arith, sym, ap, ◌∙◌, Global}
use Rattle.bajofeki.specs.declared.block.Block.{Block}
use Rattle.std.specs.Vec.Iter.{into_iter_steps}
use Rattle.std.proofs.lemmas.List.{map-id}
use Rattle.std.proofs.lemmas.Iterator.{YieldsList, items_from_drains}
use Rattle.std.proofs.lemmas.Iterator.Adapters.{YieldsList-from_vec}
use Rattle.bajofeki.proofs.edit.put_blocks.Goals as goal

pub returns-clause-items : goal.returns-clause-items
returns-clause-items c =
    let h = c.in_ok-splice.ensures.items in
    let yields : YieldsList (into_iter_steps {X = Block} {Z = Global}) (λ (y : Block). y) h.0 c.args.made.items =
    YieldsList-from_vec c.args.made.items h.2.0 (omega (arith, h.2.1, c.args.made.ok.0)) in
    let all : h.1 ≡ c.args.made.items =
    sym (map-id h.1)
    ∙ items_from_drains {steps = into_iter_steps {X = Block} {Z = Global}} {v = λ (y : Block). y} {s = h.0} {all = c.args.made.items} h.1
    (h.3.1.0, h.3.1.1, λ _. (h.3.0, h.3.1.2)) yields in
    h.4 ∙ ap (λ (bs : List Block). take c.args.from c.args.blocks.now.items ++ (bs ++ drop c.args.to c.args.blocks.now.items)) all
