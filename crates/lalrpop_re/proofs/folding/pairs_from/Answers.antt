use Rattle.std.proofs.Common.{rules, ◌≡◌, ◌-◌, length, take, drop, length-drop, sym, subst, arith, leb, ltb, true, false}
use Rattle.std.specs.List.Sorted.{IsNonDecreasingBy, IsPartitionPoint}
use Rattle.std.proofs.lemmas.List.{take_all}
use Rattle.std.proofs.lemmas.List.Sorted.{IsNonDecreasingBy-drop, IsPartitionPoint-from_clause, IsPartitionedBy-leb, IsPartitionedBy-ltb}
use Rattle.lalrpop_re.proofs.FoldTable.{table-ordered, part}
use Rattle.lalrpop_re.proofs.folding.pairs_from.Goals as goal

pub returns : goal.returns
returns c =
    let all = c.fold_pairs-pairs.result.now in
    let i = c.partition_point.result in
    let n = c.partition_point-2.result in
    let low = c.args.low in
    let high = c.args.high in
    let tail : take (length all - i) (drop i all) ≡ drop i all = take_all (length all - i) (drop i all) (omega (arith, length-drop i all)) in
    let sorted : IsNonDecreasingBy (λ p. p.0) all = table-ordered all c.fold_pairs-pairs.ensures.table in
    let start = IsPartitionPoint-from_clause (λ p. ltb p.0 low) _ _ c.partition_point.ensures.partitioned (IsPartitionedBy-ltb (λ p. p.0) all low sorted) (λ a r q k. search rules) in
    let rest : IsNonDecreasingBy (λ p. p.0) (take (length all - i) (drop i all)) = subst (IsNonDecreasingBy (λ p. p.0)) (sym tail) (IsNonDecreasingBy-drop (λ p. p.0) i all sorted) in
    let end = IsPartitionPoint-from_clause (λ p. leb p.0 high) _ _ c.partition_point-2.ensures.partitioned (IsPartitionedBy-leb (λ p. p.0) _ high rest) (λ a r q k. search rules) in
    rw tail (part all i n low high c.fold_pairs-pairs.ensures.table c.fold_pairs-pairs.ensures.meaning start
    (subst (λ l. IsPartitionPoint (λ p. leb p.0 high ≡ true) (λ p. leb p.0 high ≡ false) l n) tail end))
