-- A run over memory gives exactly one answer's bytes.
use Rattle.std.proofs.Common.{◌≡◌, ℕ, Bool, true, false, List, [], Some, None, sym, ap, subst}
use Rattle.std.specs.Prelude.{Option}
use Rattle.std.specs.Io.KnownBytes.{Appends}
use Rattle.lexdfa_lib.specs.Streams.{IsToldBy, Stream, opened}
use Rattle.tokens_lib.specs.Answer.{Answer}
use Rattle.pieces_lib.specs.Console.{Answers, Console, Gives}

abbrev pub memory : Stream
memory = opened (Some []) false

appended : (taken : Option (List ℕ)) (bytes all : List ℕ) → Appends (Some []) taken bytes → Some all ≡ taken → bytes ≡ all
appended None bytes all e is = absurd e
appended (Some ys) bytes all e is = cc (e, is)

told : (is_broken : Bool) (new : Stream) (bytes all : List ℕ) → IsToldBy false is_broken memory bytes new → Some all ≡ new.bytes → bytes ≡ all
told false new bytes all e is = appended new.bytes bytes all e.1 is
told true new bytes all e is = absurd (cc (e.0.0))

pub exact : (Is : Answer → Type 0) (first second : List ℕ) (old : Console) (status : ℕ) (new : Console) (out err : List ℕ) → first ≡ [] → second ≡ []
    → old ≡ record { out = opened (Some first) false; err = opened (Some second) false } → Answers Is old status new
    → opened (Some out) false ≡ new.out → opened (Some err) false ≡ new.err → Is (record { status = status; out = out; err = err })
exact Is first second old status new out err nothing neither begun (answer, (is, (has, gives))) written said =
    let b = subst (λ (l : List ℕ). old ≡ record { out = memory; err = opened (Some l) false }) neither
    (subst (λ (l : List ℕ). old ≡ record { out = opened (Some l) false; err = opened (Some second) false }) nothing begun) in
    let g = subst (λ (o : Console). Gives o answer new) b gives in
    let o = appended new.out.bytes answer.out out g.out.1 (ap (λ (s : Stream). s.bytes) written) in
    let e = told new.err.is_broken new.err answer.err err g.err (ap (λ (s : Stream). s.bytes) said) in
    subst (λ (l : List ℕ). Is (record { status = status; out = out; err = l })) e
    (subst (λ (l : List ℕ). Is (record { status = status; out = l; err = answer.err })) o
    (subst (λ (s : ℕ). Is (record { status = s; out = answer.out; err = answer.err })) (sym has) is))
