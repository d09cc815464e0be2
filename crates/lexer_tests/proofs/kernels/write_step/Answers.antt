use Rattle.std.proofs.Common.{◌≡◌}
use Rattle.std.specs.List.{each_same}
use Rattle.std.proofs.lemmas.Cmp.{tied_itself, nat_list_cmp_total}
use Rattle.lexer_tests.proofs.kernels.write_step.Goals as goal

pub add_state-requires : goal.add_state-requires
add_state-requires c = record {
  clones = λ x y h.
      let e : y.numbers.items ≡ x.numbers.items = each_same x.numbers.items y.numbers.items h.0 in
      rw e (tied_itself nat_list_cmp_total x.numbers.items);
}

pub next-requires : goal.next-requires
next-requires c = record {
  clones = λ x y h.
      let e : y.numbers.items ≡ x.numbers.items = each_same x.numbers.items y.numbers.items h.0 in
      rw e (tied_itself nat_list_cmp_total x.numbers.items);
}
