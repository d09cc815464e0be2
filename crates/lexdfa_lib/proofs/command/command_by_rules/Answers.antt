use Rattle.std.proofs.Common.{◌≡◌, ◌≢◌, ℕ, List, ◌∷◌, Bor, map, sym, ap, ◌∙◌}
use Rattle.std.specs.Prelude.{Result, Ok, Err, IfOk, IfErr}
use Rattle.lexdfa_lib.specs.Command.{given, options_of, verbosity_of, IsFilesRun, IsFilesError, IsRun, IsRunError}
use Rattle.lexdfa_lib.specs.declared.command.Action.{Action}
use Rattle.lexdfa_lib.specs.declared.command.ArgumentsError.{ArgumentsError}
use Rattle.lexdfa_lib.specs.declared.command.ArgumentsError.TheVariants.{OutOfMemory, Unknown, NoRules, Apart, NoFiles, NoOther}
use Rattle.lexdfa_lib.specs.declared.command.Command.{Command}
use Rattle.lexdfa_lib.proofs.command.command_by_rules.Goals as goal

abbrev text : Bor (List ℕ) → List ℕ
text name = name.now

-- what is known of the files is known of the names
is_run : (r : Result Command ArgumentsError) (options names : List (List ℕ)) (action : Action) (rules : List ℕ) (named : List (List ℕ))
    → given options ≡ options_of action → names ≡ rules ∷ named → IfOk r (λ command. IsFilesRun action (verbosity_of options) rules named command) → IfOk r (λ command. IsRun options names command)
is_run (Ok command) options names action rules named g n is = (action, (g, (rules, (named, (n, is)))))
is_run (Err error) options names action rules named g n is = tt

is_error : (r : Result Command ArgumentsError) (options names : List (List ℕ)) (action : Action) (rules : List ℕ) (named : List (List ℕ))
    → given options ≡ options_of action → names ≡ rules ∷ named → IfErr r (λ error. IsFilesError action named error) → IfErr r (λ error. error ≢ OutOfMemory → IsRunError options names error)
is_error (Ok command) options names action rules named g n is = tt
is_error (Err OutOfMemory) options names action rules named g n is = absurd is
is_error (Err (Unknown option)) options names action rules named g n is = absurd is
is_error (Err NoRules) options names action rules named g n is = absurd is
is_error (Err (Apart apart)) options names action rules named g n is = absurd is
is_error (Err (NoFiles file)) options names action rules named g n is = λ _. (action, (g, (rules, (named, (n, is)))))
is_error (Err NoOther) options names action rules named g n is = λ _. (action, (g, (rules, (named, (n, is)))))

pub returns-in-Some-action_of-clause-command : goal.returns-in-Some-action_of-clause-command
returns-in-Some-action_of-clause-command c =
    is_run c.run_by.result (map text c.args.options.now) (map text c.args.names.items) c.in-Some-action_of.action c.in-Some.rules.now (map text c.in-Some.files.items)
    (sym c.in_ok-of_action.ensures ∙ ap (map text) (sym c.deref.ensures.value) ∙ c.in-Some-action_of.ensures.some) c.in-Some.ensures.some (rw c.verbosity_of.ensures at c.run_by.ensures.command)

pub returns-in-Some-action_of-clause-error : goal.returns-in-Some-action_of-clause-error
returns-in-Some-action_of-clause-error c =
    is_error c.run_by.result (map text c.args.options.now) (map text c.args.names.items) c.in-Some-action_of.action c.in-Some.rules.now (map text c.in-Some.files.items)
    (sym c.in_ok-of_action.ensures ∙ ap (map text) (sym c.deref.ensures.value) ∙ c.in-Some-action_of.ensures.some) c.in-Some.ensures.some c.run_by.ensures.error
