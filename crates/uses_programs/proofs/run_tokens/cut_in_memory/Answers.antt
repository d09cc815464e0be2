use Rattle.std.proofs.Common.{[], Some, ap, append-nil, false, map, string_bytes, sym, ◌∙◌}
use Rattle.std.proofs.lemmas.Result.{IfOk-weaker}
use Rattle.lexdfa_lib.specs.Streams.{opened}
use Rattle.uses_programs.proofs.CutInMemory.{cut_answer}
use Rattle.uses_programs.proofs.run_tokens.cut_in_memory.Goals as goal

pub returns-clause-exact : goal.returns-clause-exact
returns-clause-exact c =
    let are = ap (map string_bytes) c.deref.ensures.value ∙ (c.in_ok-words.ensures.words ∙ sym (append-nil _)) in
    IfOk-weaker c.run_in_memory.result _ _
    (λ given e. cut_answer (opened (Some c.args.text.now) false) e.0 c.args.rules.now [] c.args.form c.args.recovers _ _ are e.1) c.run_in_memory.ensures.exact
