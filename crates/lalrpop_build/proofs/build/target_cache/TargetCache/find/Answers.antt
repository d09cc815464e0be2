use Rattle.std.proofs.Common.{rules, ◌≡◌, length, inr, refl, Some}
use Rattle.std.specs.BTreeMap.{get}
use Rattle.std.proofs.lemmas.Option.{slice_get_read}
use Rattle.lalrpop_build.specs.Internal.ClassTransitions.{transitions_cmp}
use Rattle.lalrpop_build.proofs.build.target_cache.TargetCache.find.Goals as goal

pub returns-in-Some-get : goal.returns-in-Some-get
returns-in-Some-get c =
    let lists = c.args.edges.now.lists.items in
    let found : get transitions_cmp c.args.self.now.by_edges c.index.result.now ≡ Some c.in-Some-get.number.now = search rules in
    inr (c.index.result.now, (slice_get_read lists (length lists) c.args.class c.index.result.now refl c.requires c.index.ensures, found))
