use Rattle.std.proofs.Common.{rules}
use Rattle.lalrpop_build.proofs.Assembling.{is_alphabet, is_sound}
use Rattle.lalrpop_build.proofs.alphabet.Alphabet.new.Goals as goal

pub returns : goal.returns
returns c = record {
  alphabet = is_alphabet c.args.automata.now c.in_ok-lists.field-0.lists.items _ (search rules) (search rules);
}

pub invariant_of-result : goal.invariant_of-result
invariant_of-result c =
    is_sound c.args.automata.now c.in_ok-lists.field-0.lists.items _ (search rules) (search rules) c.in_ok-cells.ensures.cells c.in_ok-cells.ensures.groups
