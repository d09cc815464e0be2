use Rattle.std.proofs.Common.{rules, List, ℕ, suc, nat_lt, arith}
use Rattle.std.proofs.lemmas.List.Sorted.{IsPartitionPoint-from_clause, IsPartitionedBy-leb}
use Rattle.lalrpop_build.proofs.Marking.{rises, placed}
use Rattle.lalrpop_build.proofs.alphabet.signatures.place_of.Goals as goal

pub returns : goal.returns
returns c =
    let boundaries : List ℕ = c.args.boundaries.now in
    let value : ℕ = c.args.value in
    let at = IsPartitionPoint-from_clause (λ (y : ℕ). nat_lt y value) boundaries c.partition_point.result c.partition_point.ensures.partitioned
    (IsPartitionedBy-leb (λ (y : ℕ). suc y) boundaries value (rises boundaries c.requires.rising)) (λ a r f k. search rules) in
    placed boundaries value c.partition_point.result c.requires.rising c.requires.there (λ k d l. at.0 k d (omega arith) l) (λ k d l m. at.1 k d l m)
