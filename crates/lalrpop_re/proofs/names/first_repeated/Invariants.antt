use Rattle.std.proofs.Common.{◌≡◌, ℕ, true, List, map, take, Bor, bytes_eq}
use Rattle.std.specs.List.{list_any}
use Rattle.std.specs.Ordering.{nat_cmp}
use Rattle.std.specs.Cmp.Lexicographic.{slice_cmp}
use Rattle.std.specs.BTreeSet.{contains}
use Rattle.lalrpop_re.specs.GroupName.{are_distinct}
use Rattle.lalrpop_re.proofs.names.first_repeated.Given as goal

abbrev pub invariant-loop-i : goal.invariant-loop-i
invariant-loop-i l = record {
  seen : (q : Bor (List ℕ)) → contains (λ x y. slice_cmp nat_cmp x.now y.now) l.seen q ≡ list_any (bytes_eq q.now) (map (λ n. n.now) (take l.i l.found));
  distinct : are_distinct (map (λ n. n.now) (take l.i l.found)) ≡ true;
}
