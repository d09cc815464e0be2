-- The lines of a review are safe to show: objects always, and plain lines if the names of the file and of its rules and modes are.
use Rattle.std.proofs.Common.{◌≡◌, ℕ, ◌+◌, Bool, true, false, List, [], ◌∷◌, ◌++◌, refl, codes, decimal, flat_map, IsUtf8}
use Rattle.std.specs.Prelude.{All, Option, Some, None, ◌==◌, if◌then◌else◌}
use Rattle.std.specs.List.{join_by}
use Rattle.lalrpop_hir.specs.Clashes.{Entry}
use Rattle.lalrpop_dfa.specs.Witness.{OpenMatch}
use Rattle.bajofeki_rules.specs.declared.position.Position.{Position}
use Rattle.lalrpop_review.specs.declared.idle.IdleRule.{IdleRule}
use Rattle.lalrpop_review.specs.declared.look.Look.{Look}
use Rattle.lalrpop_review.specs.declared.look.Look.TheVariants.{AtMost, Unbounded}
use Rattle.lalrpop_review.specs.declared.mode.ModeReview.{ModeReview}
use Rattle.lalrpop_review.specs.declared.whole.Review.{Review}
use Rattle.lalrpop_verdicts.specs.WonWord.{WonWord}
use Rattle.reports_lib.specs.PieceLines.{mode_named, name_at}
use Rattle.reports_lib.specs.Reasons.{place_at, mode_said}
use Rattle.reports_lib.specs.ReportedFile.{ReportedFile}
use Rattle.reviews_lib.specs.Pictured.{no_rule}
use Rattle.reviews_lib.specs.ReviewJson.{automaton_members, clash_members, empty_members, idle_members}
use Rattle.reviews_lib.specs.ReviewLines.{after_text, automaton_line, automaton_told, by_mode, characters_text, clash_line, clash_report, clash_told, empty_line, empty_told, idle_line, idle_once, idle_reason, idle_told, is_only_empty, look_text, mode_before, mode_told, pair_text, place_text, review_text, rules_text, states_text, winner_text, winners_text, witness_text}
use Rattle.reports_lib.specs.Safe.{IsSafe}
use Rattle.lexdfa_lib.specs.declared.layout.LineForm.{LineForm}
use Rattle.lexdfa_lib.specs.declared.layout.LineForm.TheVariants.{Plain, Json}
use Rattle.reports_lib.proofs.SafeJson.{object_lines_are_safe}
use Rattle.reports_lib.proofs.SafeLaws.{decimal_is_safe, plain_is_safe, quoted_is_safe, quoted_word_is_safe, safe_append, safe_nil, said}
use Rattle.reports_lib.proofs.SafeMessages.{IsSafeIfSome, each_is_safe, mode_is_safe, mode_said_is_safe, name_is_safe}

joined_are_safe : {X : Type 0} (tell : X → List ℕ) → ((x : X) → IsSafe (tell x)) → (xs : List X) → IsSafe (join_by tell (codes ", ") xs)
joined_are_safe tell safe [] = safe_nil
joined_are_safe tell safe (x ∷ xs) = safe_append (safe x) (each_is_safe (λ y. codes ", " ++ tell y) (λ y. said (codes ", ") refl (safe y)) xs)

by_mode_is_safe : {X : Type 0} (tell : Option (List ℕ) → X → List ℕ) (modes : List (List ℕ)) (m : ℕ) (xs : List X) → All IsSafe modes
    → ((mode : Option (List ℕ)) → IsSafeIfSome mode → (x : X) → IsSafe (tell mode x)) → IsSafe (by_mode tell modes m xs)
by_mode_is_safe tell modes m [] modes_safe safe = safe_nil
by_mode_is_safe tell modes m (x ∷ xs) modes_safe safe =
    safe_append (safe (mode_named modes m) (mode_is_safe modes m modes_safe) x) (by_mode_is_safe tell modes (m + 1) xs modes_safe safe)

-- a file whose names are safe
module _ (r : ReportedFile) (file_safe : IsSafe r.file) (names_safe : All IsSafe r.names) where
  name : (i : ℕ) → IsSafe (name_at r.names i)
  name i = name_is_safe r.names i names_safe

  place : (i : ℕ) → IsSafe (place_text r i)
  place i =
      safe_append file_safe (said (codes ":") refl (safe_append (decimal_is_safe (place_at r.places i).line)
      (said (codes ":") refl (safe_append (decimal_is_safe (place_at r.places i).column) (plain_is_safe (codes ": ") refl)))))

  pub empty_is_safe : (i : ℕ) → IsSafe (empty_line r i)
  empty_is_safe i = safe_append (place i) (safe_append (name i) (plain_is_safe (codes " matches the empty text, and no token is empty\n") refl))

  winner : (w : WonWord) → IsSafe (winner_text r w)
  winner w = safe_append (name w.by) (said (codes " wins ") refl (quoted_word_is_safe w.word))

  reason : (mode : Option (List ℕ)) → IsSafeIfSome mode → (ws : List WonWord) → IsSafe (idle_reason r mode ws)
  reason mode safe [] = said (codes " matches no nonempty text") refl (mode_said_is_safe mode safe)
  reason mode safe (w ∷ ws) =
      said (codes " never wins") refl (safe_append (mode_said_is_safe mode safe) (said (codes ": ") refl (joined_are_safe (winner_text r) winner (w ∷ ws))))

  pub idle_is_safe : (mode : Option (List ℕ)) → IsSafeIfSome mode → (x : IdleRule) → IsSafe (idle_line r mode x)
  idle_is_safe mode safe x = safe_append (place x.rule) (safe_append (name x.rule) (safe_append (reason mode safe x.winners.items) (plain_is_safe (codes "\n") refl)))

  pair : (mode : Option (List ℕ)) → IsSafeIfSome mode → (later earlier : ℕ) → IsSafe (pair_text r mode later earlier)
  pair mode safe later earlier =
      safe_append (name later) (said (codes " clashes with ") refl (safe_append (name earlier) (said (codes " of line ") refl
      (safe_append (decimal_is_safe (place_at r.places earlier).line) (mode_said_is_safe mode safe)))))

  pub pair_is_safe : (mode : Option (List ℕ)) → IsSafeIfSome mode → (c : Entry) → IsSafe (clash_line r mode c)
  pair_is_safe mode safe c =
      safe_append (place c.match0) (safe_append (pair mode safe c.match0 c.match1) (said (codes ": both match ") refl
      (safe_append (quoted_word_is_safe c.word) (plain_is_safe (codes ", and neither wins\n") refl))))

  states : (n : ℕ) → IsSafe (states_text n)
  states n = by (n == 1)
    where
      by : (t : Bool) → IsSafe (if t then codes "1 state" else decimal n ++ codes " states")
      by true = plain_is_safe (codes "1 state") refl
      by false = safe_append (decimal_is_safe n) (plain_is_safe (codes " states") refl)

  characters : (n : ℕ) → IsSafe (characters_text n)
  characters n = by (n == 0)
    where
      by : (t : Bool) → IsSafe (if t then codes "1 character is" else decimal (n + 1) ++ codes " characters are")
      by true = plain_is_safe (codes "1 character is") refl
      by false = safe_append (decimal_is_safe (n + 1)) (plain_is_safe (codes " characters are") refl)

  after : (word rest : List ℕ) → IsSafe (after_text word rest)
  after word [] = safe_nil
  after word (c ∷ rest) =
      said (codes ", as after ") refl (safe_append (quoted_word_is_safe word) (said (codes " when ") refl
      (safe_append (quoted_word_is_safe (c ∷ rest)) (plain_is_safe (codes " follows") refl))))

  witness : (found : Option OpenMatch) → IsSafe (witness_text found)
  witness None = safe_nil
  witness (Some found) = after found.word found.after

  look : (found : Look) → IsSafe (look_text r found)
  look (AtMost count found) = said (codes "at most ") refl (safe_append (characters count) (said (codes " read past a token") refl (witness found)))
  look (Unbounded rules) = said (codes "any number of characters is read past a token of ") refl (joined_are_safe (name_at r.names) name rules.items)

  before : (mode : Option (List ℕ)) → IsSafeIfSome mode → IsSafe (mode_before mode)
  before None safe = safe_nil
  before (Some mode) safe = said (codes "mode ") refl (safe_append safe (plain_is_safe (codes ": ") refl))

  pub automaton_is_safe : (mode : Option (List ℕ)) → IsSafeIfSome mode → (x : ModeReview) → IsSafe (automaton_line r mode x)
  automaton_is_safe mode safe x =
      safe_append file_safe (said (codes ": ") refl (safe_append (before mode safe) (safe_append (states x.least_states)
      (said (codes " in the smallest automaton; ") refl (safe_append (look x.look) (plain_is_safe (codes "\n") refl))))))

  empty_in : (form : LineForm) (i : ℕ) → IsSafe (empty_told form r i)
  empty_in Plain i = empty_is_safe i
  empty_in Json i = object_lines_are_safe (empty_members r i)

  idle_in : (form : LineForm) (mode : Option (List ℕ)) → IsSafeIfSome mode → (x : IdleRule) → IsSafe (idle_told form r mode x)
  idle_in Plain mode safe x = idle_is_safe mode safe x
  idle_in Json mode safe x = object_lines_are_safe (idle_members r mode x)

  automaton_in : (form : LineForm) (mode : Option (List ℕ)) → IsSafeIfSome mode → (x : ModeReview) → IsSafe (automaton_told form r mode x)
  automaton_in Plain mode safe x = automaton_is_safe mode safe x
  automaton_in Json mode safe x = object_lines_are_safe (automaton_members r mode x)

  clash_in : (form : LineForm) (mode : Option (List ℕ)) → IsSafeIfSome mode → (c : Entry) → IsSafe (clash_told form r mode c)
  clash_in Plain mode safe c = pair_is_safe mode safe c
  clash_in Json mode safe c = object_lines_are_safe (clash_members r mode c)

  once : (form : LineForm) (empty : List ℕ) (mode : Option (List ℕ)) → IsSafeIfSome mode → (x : IdleRule) → IsSafe (idle_once form r empty mode x)
  once form empty mode safe x = by (is_only_empty empty x)
    where
      by : (t : Bool) → IsSafe (if t then [] else idle_told form r mode x)
      by true = safe_nil
      by false = idle_in form mode safe x

  told : (form : LineForm) (empty : List ℕ) (mode : Option (List ℕ)) → IsSafeIfSome mode → (x : ModeReview) → IsSafe (mode_told form r empty mode x)
  told form empty mode safe x = safe_append (each_is_safe (idle_once form r empty mode) (once form empty mode safe) x.idle.items) (automaton_in form mode safe x)

  pub review_is_safe : (form : LineForm) (review : Review) → All IsSafe r.modes → IsSafe (review_text form r.file r.modes r.names r.places review)
  review_is_safe form review modes_safe =
      safe_append (each_is_safe (empty_told form r) (empty_in form) review.empty.items)
      (by_mode_is_safe (mode_told form r review.empty.items) r.modes 0 review.modes.items modes_safe (told form review.empty.items))

  pub report_is_safe : (form : LineForm) (m : ℕ) (css : List (List Entry)) → All IsSafe r.modes → IsSafe (clash_report form r.file r.modes r.names r.places m css)
  report_is_safe form m css modes_safe =
      by_mode_is_safe (λ mode cs. flat_map (clash_told form r mode) cs) r.modes m css modes_safe (λ mode safe cs. each_is_safe (clash_told form r mode) (clash_in form mode safe) cs)

-- the message that no rule has a name
pub no_rule_is_safe : (name : List ℕ) → IsUtf8 name → IsSafe (no_rule name)
no_rule_is_safe name text =
    said (codes "no rule has the name ") refl (safe_append (quoted_is_safe name text) (plain_is_safe (codes "; leave it out to draw each mode") refl))
