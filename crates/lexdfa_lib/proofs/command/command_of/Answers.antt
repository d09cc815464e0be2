use Rattle.std.proofs.Common.{◌≡◌, ℕ, List, Bor, map, subst, ap, ◌∙◌}
use Rattle.std.specs.Prelude.{Result, IfOk}
use Rattle.lexdfa_lib.specs.Command.{IsCommand}
use Rattle.lexdfa_lib.specs.declared.command.ArgumentsError.{ArgumentsError}
use Rattle.lexdfa_lib.specs.declared.command.Command.{Command}
use Rattle.lexdfa_lib.proofs.command.command_of.Goals as goal

-- what is known of the parted words is known of the words
of_words : (r : Result Command ArgumentsError) (options given names stated : List (List ℕ)) → options ≡ given → names ≡ stated → IfOk r (IsCommand options names) → IfOk r (IsCommand given stated)
of_words r options given names stated e f is = subst (λ v. IfOk r (IsCommand given v)) f (subst (λ v. IfOk r (IsCommand v names)) e is)

abbrev text : Bor (List ℕ) → List ℕ
text word = word.now

pub returns-clause-command : goal.returns-clause-command
returns-clause-command c =
    of_words c.command_with.result _ _ _ _ (ap (map text) c.deref.ensures.value ∙ c.in_ok-options.ensures.options) c.in_ok-options.ensures.names c.command_with.ensures.command
