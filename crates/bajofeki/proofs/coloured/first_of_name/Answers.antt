use Rattle.std.proofs.Common.{◌∙◌, map, string_bytes, arith}
use Rattle.std.proofs.lemmas.List.{length-map}
use Rattle.bajofeki.proofs.Names.{before_rule, first_before, first_itself}
use Rattle.bajofeki.proofs.coloured.first_of_name.Goals as goal

pub has_name-requires : goal.has_name-requires
has_name-requires c = omega (arith, length-map c.args.names.now string_bytes, before_rule (map string_bytes c.args.names.now) c.args.index c.loop-number.number c.args.name.now c.requires (omega arith))

pub returns-then-has_name : goal.returns-then-has_name
returns-then-has_name c =
    first_before (map string_bytes c.args.names.now) c.args.index c.loop-number.number c.args.name.now c.requires (omega arith) c.loop-number.invariant (cc)

pub returns : goal.returns
returns c =
    c.index.ensures.value ∙ first_itself (map string_bytes c.args.names.now) c.args.index c.args.name.now c.requires (λ k below. c.loop-number.invariant k (omega (arith, below)))
