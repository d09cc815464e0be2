-- Cases of specs/Program.antt.
use Rattle.std.proofs.Common.{◌≡◌, ◌≢◌, ℕ, false, true, inl, inr, List, [], ◌∷◌, codes, get_or, map, refl, ap, arith, Vec, Bor, Global}
use Rattle.std.specs.Prelude.{Result, Ok, Err}
use Rattle.lexdfa_lib.specs.declared.ending.Failure.{Failure}
use Rattle.lexdfa_lib.specs.declared.ending.Failure.TheVariants.{Usage, Run as Failing}
use Rattle.lexdfa_lib.specs.declared.error.RunError.TheVariants.{OutOfMemory, Read, Write}
use Rattle.lexdfa_lib.specs.Streams.{Reading, NotOpened, Stream}
use Rattle.reports_lib.specs.Answer.{refusal, silence, about}
use Rattle.lexdfa_lib.specs.declared.layout.LineForm.TheVariants.{Plain}
use Rattle.tokens_lib.specs.Program.{ending, failure_text, information, IsAnswer, IsFirstAnswer}
use Rattle.lexdfa_lib.specs.Usage.{help}
use Rattle.lexdfa_lib.specs.declared.command.Action.TheVariants.{Cut}
use Rattle.lexdfa_lib.specs.declared.command.Command.TheVariants.{Help, Run}
use Rattle.lexdfa_lib.specs.declared.command.Verbosity.TheVariants.{Progress}

-- a failed write, and an argument that isn't UTF-8
failures : failure_text (Failing Write) ≡ codes "tokens: write failed\n"
failures = refl

no_text : failure_text Usage ≡ codes "tokens: an argument isn't UTF-8\n"
no_text = refl

another_failure : failure_text (Failing Read) ≢ failure_text (Failing Write)
another_failure e = let k : 114 ≡ 119 = ap (λ (l : List ℕ). get_or l 8 0) e in omega (arith, k)

-- nothing is said once the reader of standard output has gone away
reader_gone : {T E : Type 0} (flush : Result T E) (found : Result ℕ Failure) → ending true flush found ≡ silence
reader_gone flush found = refl

-- a failed flush is a failed write, but a run that failed says why it did; and a text with a fault has its status
flush_fails : (T : Type 0) {E : Type 0} (error : E) → ending {T = T} false (Err error) (Ok 1) ≡ refusal 6 (codes "tokens: write failed\n")
flush_fails T error = refl

run_fails : (T : Type 0) {E : Type 0} (error : E) → ending {T = T} false (Err error) (Err (Failing OutOfMemory)) ≡ refusal 5 (codes "tokens: out of memory\n")
run_fails T error = refl

fault_stays : {T : Type 0} (E : Type 0) (done : T) → ending {E = E} false (Ok done) (Ok 1) ≡ refusal 1 []
fault_stays E done = refl

-- only what was asked for is written, with status 0
informed : (Gives : List ℕ → Reading → Type 0) (i k : Stream) → IsAnswer Gives i k (codes "--help" ∷ []) (information help)
informed Gives i k = inr (Help, (refl, refl))

-- rules that can't be read
unread_rules : (Gives : List ℕ → Reading → Type 0) (i k : Stream) (files : Vec (Bor (List ℕ)) Global) → files.items ≡ [] → Gives (codes "r") (record { bytes = []; end = NotOpened (codes "e") })
    → IsAnswer Gives i k (codes "r" ∷ codes "--progress" ∷ []) (refusal 6 (codes "tokens: reading r\ntokens: r: e\n"))
unread_rules Gives i k files none gives = inr (
  Run (Cut Plain false) Progress (record { ref_ptr = (0, 0); now = codes "r" }) files,
  (
    ((refl, refl), (refl, (Cut Plain false, (refl, (codes "r", ([], (refl, (refl, (refl, (refl, ((tt, λ e. absurd (cc (e))), ap (map (λ (file : Bor (List ℕ)). file.now)) none))))))))))),
    (refusal 6 (about (codes "r") (codes "e")), (inl (codes "e", (inl gives, refl)), refl)),
  ),
)

-- before an error, perhaps only that the rules are read
only_reading : (Gives : List ℕ → Reading → Type 0) (i : Stream) (files : Vec (Bor (List ℕ)) Global) → files.items ≡ []
    → IsFirstAnswer Gives i (codes "r" ∷ codes "--progress" ∷ []) (refusal 0 (codes "tokens: reading r\n"))
only_reading Gives i files none = inr (
  Run (Cut Plain false) Progress (record { ref_ptr = (0, 0); now = codes "r" }) files,
  (
    ((refl, refl), (refl, (Cut Plain false, (refl, (codes "r", ([], (refl, (refl, (refl, (refl, ((tt, λ e. absurd (cc (e))), ap (map (λ (file : Bor (List ℕ)). file.now)) none))))))))))),
    (silence, (inl refl, refl)),
  ),
)
