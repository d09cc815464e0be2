-- What a console is given in two steps.
use Rattle.std.proofs.Common.{◌≡◌, ℕ, inl, inr, List, [], ◌++◌, refl, sym, subst, ◌∙◌, arith}
use Rattle.std.specs.Prelude.{Result, Ok, Err, IfErr}
use Rattle.std.specs.Result.{IsErrAnd}
use Rattle.lexdfa_lib.proofs.Known.{Appends-none, AppendsPrefix-front}
use Rattle.lexdfa_lib.proofs.StreamLaws.{Takes-nothing, takes_again, takes_front, takes_part, told_again, told_part_after, told_part_nothing, told_whole}
use Rattle.lexdfa_lib.specs.declared.error.RunError.{RunError}
use Rattle.lexdfa_lib.specs.declared.error.RunError.TheVariants.{OutOfMemory}
use Rattle.lexdfa_lib.specs.Streams.{Stream, Takes, TakesPart, IsToldPart}
use Rattle.reports_lib.specs.Answer.{Answer, silence, followed, remark}
use Rattle.reports_lib.proofs.AnswerLaws.{Then, followed-silence}
use Rattle.pieces_lib.specs.Console.{Console, Writes, WritesPart, Says, Gives, Answers, Begins, Fails}

-- ---- by a console

-- nothing is written
pub writes_none : (a : Console) → Writes a [] a
writes_none a = (Takes-nothing a.out, refl)

pub writes_again : (a b c : Console) (xs ys : List ℕ) → Writes a xs b → Writes b ys c → Writes a (xs ++ ys) c
writes_again a b c xs ys first second = (takes_again a.out b.out c.out xs ys first.0 second.0, second.1 ∙ first.1)

pub writes_part : (a b c : Console) (xs ys : List ℕ) (error : RunError) → Writes a xs b → WritesPart b ys error c → WritesPart a (xs ++ ys) error c
writes_part a b c xs ys error first second = (takes_part a.out b.out c.out xs ys error first.0 second.0, second.1 ∙ first.1)

pub writes_front : (a b : Console) (xs more : List ℕ) → Writes a xs b → WritesPart a (xs ++ more) OutOfMemory b
writes_front a b xs more first = (takes_front a.out b.out xs more first.0, first.1)

-- ---- what is answered

pub Gives-again : (a b c : Console) (x y : Answer) → Gives a x b → Gives b y c → Gives a (followed x y) c
Gives-again a b c x y g h = record {
  out = takes_again a.out b.out c.out x.out y.out g.out h.out;
  err = told_again a.err b.err c.err x.err y.err g.err h.err;
}

-- what is said is an answer
pub Gives-said : (a b : Console) (said : List ℕ) → Says a said b → Gives a (remark said) b
Gives-said a b said (told, same) =
    record { out = subst (λ (s : Stream). Takes a.out [] s) (sym same) (Takes-nothing a.out); err = told }

pub Answers-weaker : (P Q : Answer → Type 0) (a b : Console) (status : ℕ) → ((x : Answer) → P x → Q x) → Answers P a status b → Answers Q a status b
Answers-weaker P Q a b status then (x, (is, given)) = (x, (then x is, given))

pub Answers-after : (P : Answer → Type 0) (a b c : Console) (status : ℕ) (said : List ℕ) → Says a said b → Answers P b status c → Answers (Then (remark said) P) a status c
Answers-after P a b c status said says (x, (is, (status_is, given))) =
    (followed (remark said) x, ((x, (is, refl)), (omega (arith, status_is), Gives-again a b c (remark said) x (Gives-said a b said says) given)))

-- ---- what fails

pub Fails-weaker : (P Q : Answer → Type 0) (a b : Console) (e : RunError) → ((x : Answer) → P x → Q x) → Fails P a e b → Fails Q a e b
Fails-weaker P Q a b e then (x, (inl none, parts)) = (x, (inl none, parts))
Fails-weaker P Q a b e then (x, (inr is, parts)) = (x, (inr (then x is), parts))

-- nothing was given yet
pub fails_at_once : (P : Answer → Type 0) (a : Console) → Fails P a OutOfMemory a
fails_at_once P a = (silence, (inl refl, ((refl, AppendsPrefix-front a.out.bytes a.out.bytes [] [] (Appends-none a.out.bytes)), told_part_nothing a.err [])))

-- an answer was given, and then one of these, or none, was begun
pub Fails-after : (P : Answer → Type 0) (a b c : Console) (first : Answer) (e : RunError) → Gives a first b → Fails P b e c → Fails (Then first (Begins P)) a e c
Fails-after P a b c first e g (x, (begins, (out, err))) = (
  followed first x,
  (
    inr (x, (begins, refl)),
    (takes_part a.out b.out c.out first.out x.out e g.out out, told_part_after a.err b.err c.err first.err x.err g.err err),
  ),
)

-- it was begun itself, and none of the others
pub Fails-first : (P : Answer → Type 0) (a b : Console) (first : Answer) (e : RunError) → Fails (λ x. x ≡ first) a e b → Fails (Then first (Begins P)) a e b
Fails-first P a b first e (x, (inl none, parts)) = (x, (inl none, parts))
Fails-first P a b first e (x, (inr is, parts)) = (x, (inr (silence, (inl refl, is ∙ sym (followed-silence first))), parts))

-- a part of what was to be said
pub Fails-said : (a b : Console) (said : List ℕ) (e : RunError) → (e ≡ OutOfMemory) × IsToldPart a.err said b.err → b.out ≡ a.out → Fails (λ x. x ≡ remark said) a e b
Fails-said a b said e (memory, part) same = (
  remark said,
  (
    inr refl,
    (
      subst (λ (s : Stream). TakesPart a.out [] e s) (sym same)
          (subst (λ (f : RunError). TakesPart a.out [] f a.out) (sym memory) (refl, AppendsPrefix-front a.out.bytes a.out.bytes [] [] (Appends-none a.out.bytes))),
      part,
    ),
  ),
)

-- what is said of an answer was said, and of what it writes a part was written
pub Fails-written : (a b c : Console) (x : Answer) (e : RunError) → Says a x.err b → WritesPart b x.out e c → Fails (λ y. y ≡ x) a e c
Fails-written a b c x e (told, same) (part, quiet) = (
  x,
  (
    inr refl,
    (
      subst (λ (s : Stream). TakesPart s x.out e c.out) same part,
      subst (λ (s : Stream). IsToldPart a.err x.err s) (sym quiet) (told_whole a.err b.err x.err told),
    ),
  ),
)

-- memory was refused before anything was given
pub fails_of_memory : (r : Result ℕ RunError) (P : Answer → Type 0) (a : Console) → IsErrAnd r (λ e. e ≡ OutOfMemory) → IfErr r (λ e. Fails P a e a)
fails_of_memory (Ok x) P a is = absurd is
fails_of_memory (Err e) P a is = subst (λ (f : RunError). Fails P a f a) (sym is) (fails_at_once P a)
