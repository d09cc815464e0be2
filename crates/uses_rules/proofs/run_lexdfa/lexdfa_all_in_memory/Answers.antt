use Rattle.std.proofs.Common.{true, inl}
use Rattle.lexdfa_lib.specs.Run.{AreLines}
use Rattle.uses_rules.proofs.LexdfaRuns.{exact}
use Rattle.uses_rules.proofs.run_lexdfa.lexdfa_all_in_memory.Goals as goal

pub returns-in-Ok : goal.returns-in-Ok
returns-in-Ok c =
    let are = exact (AreLines true c.args.text.now) _ _ _ _ c.args.input.now _ c.given_by.result.out.items c.in-Ok.outcome c.new-reader.ensures.new c.new-writer.ensures.new
    c.new.ensures.items c.in-Ok.ensures.answer c.given_by.ensures.out in
    record { exact = inl (c.in-Ok.outcome, (are, (c.given_by.ensures.status, c.given_by.ensures.err))) }
