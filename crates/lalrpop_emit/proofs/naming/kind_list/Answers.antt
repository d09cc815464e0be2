use Rattle.std.proofs.Common.{◌∙◌, ◌<◌, ◌^◌, ap, sym, subst, map, string_bytes, arith}
use Rattle.std.specs.List.{All}
use Rattle.std.proofs.lemmas.List.Elements.{All-push}
use Rattle.lalrpop_emit.specs.Names.{place_of_name}
use Rattle.lalrpop_emit.proofs.NameLists.{kinds_on, no_more_kinds}
use Rattle.lalrpop_emit.proofs.naming.kind_list.Goals as goal

pub overflow_cast-place_of : goal.overflow_cast-place_of
overflow_cast-place_of c = omega (arith, c.place_of.ensures.within, c.requires.few, no_more_kinds c.args.distinct.now c.args.names.now c.requires.distinct)

pub loop-name-preserved : goal.loop-name-preserved
loop-name-preserved c =
    let f = place_of_name (map string_bytes c.args.distinct.now) in
    let small : c.place_of.result < 2 ^ 16 = omega (arith, c.place_of.ensures.within, c.requires.few, no_more_kinds c.args.distinct.now c.args.names.now c.requires.distinct) in
    record {
      kinds =
          kinds_on f c.args.names.now c.loop-name.name-index c.name-item.result c.loop-name.kinds.items c.push.new.self.items c.place_of.result c.loop-name-test.true c.name-item.is
          c.loop-name.invariant.kinds (c.place_of.ensures.place ∙ ap f c.deref.ensures) c.in_ok-push.ensures.items;
      small = subst (All (λ n. n < 2 ^ 16)) (sym c.in_ok-push.ensures.items) (All-push (λ n. n < 2 ^ 16) c.loop-name.kinds.items c.place_of.result c.loop-name.invariant.small small);
    }
