use Rattle.std.proofs.Common.{◌≡◌, ◌∙◌, length, refl, sym, ap, Some}
use Rattle.std.proofs.lemmas.Option.{slice_get_read}
use Rattle.lalrpop_build.specs.declared.build.scratch.Transitions.{Transitions}
use Rattle.lalrpop_build.proofs.CacheLaws.{only_adds}
use Rattle.lalrpop_build.proofs.build.target_cache.TargetCache.insert.Goals as goal

pub returns-in_ok-insert-clause-edges : goal.returns-in_ok-insert-clause-edges
returns-in_ok-insert-clause-edges c =
    let lists = c.args.edges.now.lists.items in
    let here = slice_get_read lists (length lists) c.args.class c.index.result.now refl c.requires c.index.ensures in
    only_adds c.args.self.now.by_edges c.insert.new.self c.in_ok-clone.field-0 lists c.args.class c.args.number c.in_ok-insert.ensures.updates
    (λ t at. (let same : t ≡ c.index.result.now = (let f : Some t ≡ Some c.index.result.now = sym at ∙ here in cc) in ap (λ (z : Transitions). z.list.items) same ∙ sym c.in_ok-clone.ensures.cases))
