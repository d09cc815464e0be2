use Rattle.std.proofs.Common.{refl}
use Rattle.std.specs.Prelude.{Some}
use Rattle.bajofeki.proofs.AheadLaws.{first_found}
use Rattle.bajofeki.proofs.found_ahead.FoundAhead.next.Goals as goal

pub returns-in-Some-clause-first : goal.returns-in-Some-clause-first
returns-in-Some-clause-first c = λ d text lead. first_found d text c.args.self.now (record { ends = c.next.new.self; at = c.in-Some.found.end; credit = c.args.self.now.credit; half = c.args.self.now.half; wait = c.args.self.now.wait }) (record { rule = Some c.in-Some.found.index; size = c.saturating_sub-size.result }) c.in-Some.found.index c.in-Some.found.end lead c.in-Some.ensures.some refl refl c.saturating_sub-size.ensures
