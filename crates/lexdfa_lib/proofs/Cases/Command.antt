-- Cases of specs/Command.antt.
use Rattle.std.proofs.Common.{◌≡◌, ◌≢◌, ℕ, ◌<◌, ◌≤◌, true, false, List, [], ◌∷◌, codes, length, refl, sym, ap, subst, inl, inr, arith}
use Rattle.std.specs.Prelude.{Some, None, IfSome, ◌⊎◌}
use Rattle.std.proofs.lemmas.Option.{slice_get_within}
use Rattle.lexdfa_lib.specs.declared.layout.LineForm.TheVariants.{Plain, Json}
use Rattle.lexdfa_lib.specs.Command.{given, unknown, options_of, verbosity_of, most_names, TakesNames, IsFilesError, IsCommand, IsArgumentsError}
use Rattle.lexdfa_lib.specs.declared.command.Action.{Action}
use Rattle.lexdfa_lib.specs.declared.command.Action.TheVariants.{Cut, Show, Clashes, Emit, Picture, Check, Difference}
use Rattle.lexdfa_lib.specs.declared.command.ArgumentsError.{ArgumentsError}
use Rattle.lexdfa_lib.specs.declared.command.ArgumentsError.TheVariants.{NoRules, NoFiles, NoOther}
use Rattle.lexdfa_lib.specs.declared.command.Command.TheVariants.{Help, Version}
use Rattle.lexdfa_lib.specs.declared.command.Language.TheVariants.{C, Rust}
use Rattle.lexdfa_lib.specs.declared.command.Markup.TheVariants.{Html, Ansi}
use Rattle.lexdfa_lib.specs.declared.command.Verbosity.TheVariants.{Quiet, Warnings, Progress}

-- a set of options: neither order nor number matters
a_set : given (codes "--json" ∷ codes "--recover" ∷ codes "--json" ∷ []) ≡ options_of (Cut Json true)
a_set = refl

known_options : (unknown (codes "--json" ∷ []) ≡ None) × (unknown (codes "--json" ∷ codes "--jsn" ∷ codes "--x" ∷ []) ≡ Some (codes "--jsn"))
known_options = (refl, refl)

-- options that go with all others are known, and belong to no action; --quiet wins
quiet : (unknown (codes "--progress" ∷ codes "--quiet" ∷ []) ≡ None) × (given (codes "--quiet" ∷ codes "--json" ∷ []) ≡ options_of (Cut Json false))
    × (verbosity_of (codes "--progress" ∷ codes "--quiet" ∷ []) ≡ Quiet) × (verbosity_of (codes "--json" ∷ codes "--progress" ∷ []) ≡ Progress) × (verbosity_of [] ≡ Warnings)
quiet = (refl, refl, refl, refl, refl)

-- colours, by either word; never wins; at a terminal alone they aren't asked for here, nor beside an action
colours : (given (codes "--ansi" ∷ codes "--quiet" ∷ []) ≡ options_of (Show Ansi)) × (given (codes "--color=auto" ∷ codes "--color=always" ∷ []) ≡ options_of (Show Ansi))
    × (given (codes "--ansi" ∷ codes "--color=never" ∷ []) ≡ options_of (Cut Plain false)) × (given (codes "--color=auto" ∷ []) ≡ options_of (Cut Plain false))
    × (given (codes "--color=always" ∷ codes "--json" ∷ []) ≡ options_of (Cut Json false))
colours = (refl, refl, refl, refl, refl)

unknown_colours : (unknown (codes "--ansi" ∷ codes "--color=auto" ∷ codes "--color=blue" ∷ []) ≡ Some (codes "--color=blue")) × (unknown (codes "--color" ∷ []) ≡ Some (codes "--color"))
unknown_colours = (refl, refl)

-- an option that there isn't
no_such_option : unknown (codes "--json" ∷ codes "--lines" ∷ []) ≡ Some (codes "--lines")
no_such_option = refl

-- a lexer in C, with a prefix or without, and one in Rust; two prefixes are no action's, nor is a prefix with Rust
emits : (given (codes "--emit=c" ∷ []) ≡ options_of (Emit (C None)))
    × (given (codes "--prefix=p" ∷ codes "--emit=c" ∷ []) ≡ options_of (Emit (C (Some (record { ref_ptr = (0, 0); now = codes "p" })))))
    × (given (codes "--emit=rust" ∷ codes "--quiet" ∷ []) ≡ options_of (Emit Rust))
emits = (refl, refl, refl)

two_prefixes : (action : Action) → given (codes "--emit=c" ∷ codes "--prefix=p" ∷ codes "--prefix=q" ∷ []) ≢ options_of action
two_prefixes (Cut Plain false) e = absurd (cc)
two_prefixes (Cut Plain true) e = absurd (cc)
two_prefixes (Cut Json false) e = absurd (cc)
two_prefixes (Cut Json true) e = absurd (cc)
two_prefixes (Show Html) e = absurd (cc)
two_prefixes (Show Ansi) e = absurd (cc)
two_prefixes Clashes e = absurd (cc)
two_prefixes (Emit (C None)) e = absurd (cc)
two_prefixes (Emit (C (Some prefix))) e = absurd (cc)
two_prefixes (Emit Rust) e = absurd (cc)
two_prefixes Picture e = absurd (cc)
two_prefixes (Check Plain) e = absurd (cc)
two_prefixes (Check Json) e = absurd (cc)
two_prefixes Difference e = absurd (cc)

prefix_of_rust : (action : Action) → given (codes "--emit=rust" ∷ codes "--prefix=p" ∷ []) ≢ options_of action
prefix_of_rust (Cut Plain false) e = absurd (cc)
prefix_of_rust (Cut Plain true) e = absurd (cc)
prefix_of_rust (Cut Json false) e = absurd (cc)
prefix_of_rust (Cut Json true) e = absurd (cc)
prefix_of_rust (Show Html) e = absurd (cc)
prefix_of_rust (Show Ansi) e = absurd (cc)
prefix_of_rust Clashes e = absurd (cc)
prefix_of_rust (Emit (C None)) e = absurd (cc)
prefix_of_rust (Emit (C (Some prefix))) e = absurd (cc)
prefix_of_rust (Emit Rust) e = absurd (cc)
prefix_of_rust Picture e = absurd (cc)
prefix_of_rust (Check Plain) e = absurd (cc)
prefix_of_rust (Check Json) e = absurd (cc)
prefix_of_rust Difference e = absurd (cc)

-- pictures
draws : (given (codes "--dot" ∷ codes "--quiet" ∷ []) ≡ options_of Picture) × (given (codes "--dot" ∷ codes "--clashes" ∷ []) ≡ codes "--clashes" ∷ codes "--dot" ∷ [])
draws = (refl, refl)

-- two languages are both given
two_languages : given (codes "--emit=rust" ∷ codes "--emit=c" ∷ []) ≡ codes "--emit=c" ∷ codes "--emit=rust" ∷ []
two_languages = refl

unknown_language : (unknown (codes "--emit=rust" ∷ codes "--emit=c" ∷ []) ≡ None) × (unknown (codes "--prefix=p" ∷ codes "--emit=pascal" ∷ []) ≡ Some (codes "--emit=pascal"))
unknown_language = (refl, refl)

-- help wins over the version, an unknown option and missing rules
help_wins : (IsCommand (codes "--jsn" ∷ codes "--version" ∷ codes "--help" ∷ []) [] Help) × (¬ IsCommand (codes "--version" ∷ codes "--help" ∷ []) [] Version) × (¬ IsArgumentsError (codes "--help" ∷ []) [] NoRules)
help_wins = (refl, (λ h. absurd (cc (h.0))), (λ h. absurd (cc (h.0.0))))

version_alone : IsCommand (codes "--version" ∷ []) [] Version
version_alone = (refl, refl)

-- one letter for either
by_letter : IsCommand (codes "-x" ∷ codes "-V" ∷ codes "-h" ∷ []) [] Help × IsCommand (codes "-V" ∷ []) [] Version × (unknown (codes "--json" ∷ codes "-r" ∷ []) ≡ Some (codes "-r"))
by_letter = (refl, (refl, refl), refl)

-- a review, for people and as JSON; the options of the table come in its order
reviews : (given (codes "--check" ∷ []) ≡ options_of (Check Plain)) × (given (codes "--check" ∷ codes "--json" ∷ []) ≡ options_of (Check Json)) × (given (codes "--diff" ∷ codes "--check" ∷ []) ≡ codes "--check" ∷ codes "--diff" ∷ [])
reviews = (refl, refl, refl)

differs : (given (codes "--diff" ∷ codes "--quiet" ∷ []) ≡ options_of Difference) × (unknown (codes "--check" ∷ codes "--diff" ∷ []) ≡ None)
differs = (refl, refl)

-- no file is read where clashes are listed, a lexer is written or rules are reviewed
no_files : IsFilesError Clashes (codes "f" ∷ []) (NoFiles (record { ref_ptr = (0, 0); now = codes "f" })) × IsFilesError (Emit Rust) (codes "f" ∷ []) (NoFiles (record { ref_ptr = (0, 0); now = codes "f" })) × IsFilesError (Check Json) (codes "f" ∷ codes "g" ∷ []) (NoFiles (record { ref_ptr = (0, 0); now = codes "f" })) × (¬ IsFilesError (Show Html) (codes "f" ∷ []) (NoFiles (record { ref_ptr = (0, 0); now = codes "f" })))
no_files = ((0, (refl, refl)), (0, (refl, refl)), (0, (refl, refl)), λ h. absurd (cc (h.1.0)))

-- how many names there may be
most : (most_names Picture ≡ Some 1) × (most_names (Check Json) ≡ Some 0) × (most_names Difference ≡ Some 1) × (most_names (Show Html) ≡ None)
most = (refl, refl, refl, refl)

takes_none : TakesNames (Check Plain) [] × (¬ TakesNames (Check Plain) (codes "f" ∷ [])) × TakesNames (Show Html) (codes "f" ∷ codes "g" ∷ [])
takes_none = ((omega arith, λ e. absurd (cc (e))), (λ h. omega (arith, h.0)), (tt, λ e. absurd (cc (e))))

-- two files of rules are compared, and not one or three
compares : TakesNames Difference (codes "f" ∷ []) × (¬ TakesNames Difference []) × (¬ TakesNames Difference (codes "f" ∷ codes "g" ∷ []))
compares = ((omega arith, λ _. refl), (λ h. omega (arith, h.1 refl)), (λ h. omega (arith, h.1 refl)))

no_other : IsFilesError Difference [] NoOther × (¬ IsFilesError Difference (codes "f" ∷ []) NoOther) × (¬ IsFilesError Picture [] NoOther)
no_other = (refl, (λ h. absurd (cc (h))), (λ h. h))

-- all modes are drawn, or the rules of one name; a second name is too many
draws_one : TakesNames Picture [] × TakesNames Picture (codes "A" ∷ []) × (¬ TakesNames Picture (codes "A" ∷ codes "B" ∷ []))
    × IsFilesError Picture (codes "A" ∷ codes "B" ∷ []) (NoFiles (record { ref_ptr = (0, 0); now = codes "B" }))
    × (¬ IsFilesError Picture (codes "A" ∷ []) (NoFiles (record { ref_ptr = (0, 0); now = codes "A" })))
draws_one =
    ((omega arith, λ e. absurd (cc (e))), (omega arith, λ e. absurd (cc (e))), (λ h. omega (arith, h.0)), (1, (refl, refl)), λ h. absurd (cc (h.1.0, h.1.1)))

other_missing : IsArgumentsError (codes "--diff" ∷ []) (codes "r" ∷ []) NoOther × (¬ IsArgumentsError (codes "--diff" ∷ []) [] NoOther)
other_missing = (((refl, refl), (refl, (Difference, (refl, (codes "r", ([], (refl, refl))))))), λ h. absurd (cc (h.1.1.1.1.1.1.0)))

third : IsFilesError Difference (codes "f" ∷ codes "g" ∷ []) (NoFiles (record { ref_ptr = (0, 0); now = codes "g" })) × (¬ IsFilesError Difference (codes "f" ∷ []) (NoFiles (record { ref_ptr = (0, 0); now = codes "f" })))
third = ((1, (refl, refl)), λ h. absurd (cc (h.1.0, h.1.1)))

-- names fit an action just where there is no error for them
fit_or_error : (action : Action) (named : List (List ℕ)) (error : ArgumentsError) → TakesNames action named → ¬ IsFilesError action named error
fit_or_error action named (NoFiles file) fit is =
    let within : is.0 < length named = slice_get_within named is.0 file.now is.1.1 in
    let most : length named ≤ is.0 = subst (λ m. IfSome m (λ most. length named ≤ most)) is.1.0 fit.0 in
    omega (arith, within, most)
fit_or_error Difference named NoOther fit is = omega (arith, fit.1 refl, ap length is)
fit_or_error action named error fit is = is

-- where no names are taken, the first one is too many
none_or_first : (action : Action) (named : List (List ℕ)) → most_names action ≡ Some 0 → action ≢ Difference → TakesNames action named ⊎ ((error : ArgumentsError) × IsFilesError action named error)
none_or_first action [] most other = inl (subst (λ m. IfSome m (λ most. 0 ≤ most)) (sym most) (omega arith), λ e. absurd (other e))
none_or_first action (first ∷ named) most other = inr (NoFiles (record { ref_ptr = (0, 0); now = first }), (0, (most, refl)))

error_or_fit : (action : Action) (named : List (List ℕ)) → TakesNames action named ⊎ ((error : ArgumentsError) × IsFilesError action named error)
error_or_fit (Cut form recovers) named = inl (tt, λ e. absurd (cc (e)))
error_or_fit (Show markup) named = inl (tt, λ e. absurd (cc (e)))
error_or_fit Clashes named = none_or_first Clashes named refl (λ e. absurd (cc (e)))
error_or_fit (Emit language) named = none_or_first (Emit language) named refl (λ e. absurd (cc (e)))
error_or_fit Picture [] = inl (omega arith, λ e. absurd (cc (e)))
error_or_fit Picture (rule ∷ []) = inl (omega arith, λ e. absurd (cc (e)))
error_or_fit Picture (rule ∷ second ∷ named) = inr (NoFiles (record { ref_ptr = (0, 0); now = second }), (1, (refl, refl)))
error_or_fit (Check form) named = none_or_first (Check form) named refl (λ e. absurd (cc (e)))
error_or_fit Difference [] = inr (NoOther, refl)
error_or_fit Difference (other ∷ []) = inl (omega arith, λ _. refl)
error_or_fit Difference (other ∷ second ∷ named) = inr (NoFiles (record { ref_ptr = (0, 0); now = second }), (1, (refl, refl)))
