use Rattle.std.proofs.Common.{◌==◌, ◌<◌, ◌∷◌, [], ◌∙◌, ap, if◌then◌else◌, get_or, length, length-append, arith}
use Rattle.std.specs.Prelude.{Some, None}
use Rattle.std.specs.List.{list_any}
use Rattle.lalrpop_rules.proofs.Masks.{next_kind}
use Rattle.lalrpop_rules.proofs.masked.masked_kinds.Goals as goal

pub loop-index-preserved : goal.loop-index-preserved
loop-index-preserved c =
    let in_ns : c.loop-index.index < length c.args.kinds.now = c.loop-index-test.true in
    let in_ks : c.loop-index.index < length c.args.known.now = omega (arith, in_ns, c.requires.same_len) in
    let kind = get_or c.args.kinds.now c.loop-index.index 0 in (
      next_kind (λ k. list_any (λ n. n == c.args.mode) k.modes.items) c.args.known.now c.args.kinds.now c.loop-index.all.items _ c.loop-index.index
          c.index-known-index.result 0 c.masked_kind.result in_ks in_ns c.loop-index.invariant.0
          (c.masked_kind.ensures
          ∙ ap (λ ms. if list_any (λ n. n == c.args.mode) ms then Some kind else None) c.deref.ensures.value
          ∙ ap (λ r. if list_any (λ n. n == c.args.mode) r.modes.items then Some kind else None) c.index-known-index.is) c.in_ok-push.ensures.items,
      omega (arith, ap length c.in_ok-push.ensures.items, length-append c.loop-index.all.items (c.masked_kind.result ∷ []), c.loop-index.invariant.1),
    )
