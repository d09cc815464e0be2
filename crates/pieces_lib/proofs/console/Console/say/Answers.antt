use Rattle.std.proofs.Common.{◌≡◌, ℕ, List, refl}
use Rattle.std.specs.Prelude.{Result, Ok, Err, IfErr}
use Rattle.lexdfa_lib.specs.declared.error.RunError.{RunError}
use Rattle.lexdfa_lib.specs.declared.error.RunError.TheVariants.{OutOfMemory}
use Rattle.lexdfa_lib.specs.Streams.{IsToldPart}
use Rattle.reports_lib.specs.Answer.{remark}
use Rattle.pieces_lib.specs.Console.{Console, Fails}
use Rattle.pieces_lib.proofs.AnswerLaws.{Fails-said}
use Rattle.pieces_lib.proofs.console.Console.say.Goals as goal

said : (r : Result (Unit {0}) RunError) (a b : Console) (message : List ℕ) → b.out ≡ a.out → IfErr r (λ e. (e ≡ OutOfMemory) × IsToldPart a.err message b.err)
    → IfErr r (λ e. Fails (λ x. x ≡ remark message) a e b)
said (Ok x) a b message same h = tt
said (Err e) a b message same h = Fails-said a b message e h same

pub returns-clause-fails : goal.returns-clause-fails
returns-clause-fails g c =
    said c.tell.result c.args.self.now (record { out = c.self.inside.out; err = c.tell.new.self }) c.args.message.now (rw (← c.self.view_is) refl) (rw (← c.self.view_is) c.tell.ensures.memory)
