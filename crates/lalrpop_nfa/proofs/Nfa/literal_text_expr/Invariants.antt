use Rattle.std.proofs.Common.{◌≡◌, ◌++◌, ℕ, List}
use Rattle.std.specs.Str.{IsUtf8, chars}
use Rattle.lalrpop_nfa.specs.Internal.Fragment.{literal_expr}
use Rattle.lalrpop_nfa.specs.Internal.Valid.{AreCodeValues}
use Rattle.lalrpop_nfa.specs.Internal.Extends.{Extends}
use Rattle.lalrpop_nfa.proofs.Nfa.literal_text_expr.Given as goal

abbrev pub invariant-loop-c : goal.invariant-loop-c
invariant-loop-c l = record {
  can_next : (goal.iterator-loop-c).can_next l.c-iterator;
  is_finite : (goal.iterator-loop-c).is_finite l.c-iterator;
  utf8 : IsUtf8 l.c-iterator.iter.rest.now;
  built : (done : List ℕ) × (chars l.text ≡ chars l.c-iterator.iter.rest.now ++ done) × AreCodeValues done × Extends (literal_expr done) l.fn.target l.fn.self l.self l.entry;
}
