use Rattle.std.proofs.Common.{map, subst, string_bytes}
use Rattle.lexdfa_lib.specs.Streams.{Stream}
use Rattle.tokens_lib.specs.Program.{IsAnswer}
use Rattle.uses_programs.proofs.Memory.{exact}
use Rattle.uses_programs.proofs.run_tokens.run_in_memory.Goals as goal

pub returns-clause-exact : goal.returns-clause-exact
returns-clause-exact g c =
    let one = c.into_sinks-out.result in
    let given = exact _ _ _ _ _ c.run.new.console _ _ c.new.ensures.items c.new-2.ensures.items c.new-console.ensures.new c.in_ok-status.ensures.answer
    c.into_sinks-out.ensures.out c.into_sinks-out.ensures.err in (
      c.run.new.input,
      subst (λ (s : Stream). IsAnswer (g.F.Files.gives c.args.files.now) s c.run.new.input (map string_bytes c.args.words.now)
          (record { status = c.in_ok-status.status; out = one.0.items; err = one.1.items })) c.new-input.ensures.new given,
    )
