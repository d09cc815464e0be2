use Rattle.reviews_lib.proofs.ComparedLaws.{same_names}
use Rattle.reviews_lib.proofs.compared.are_same.Goals as goal

pub returns : goal.returns
returns c = same_names c.args.names.now c.args.others.now c.eq.result c.eq.ensures
