-- Laws of streams: what is read in two steps, and what is written or told in two.
use Rattle.std.proofs.Common.{◌≡◌, ℕ, ◌+◌, Bool, true, false, List, [], ◌++◌, length, take, refl, sym, ap, subst, ◌∙◌, arith, append-nil, length-append}
use Rattle.std.specs.Prelude.{Option}
use Rattle.std.proofs.Math.Seq.{take-append-add}
use Rattle.std.proofs.lemmas.List.{take-append-le, take_all}
use Rattle.std.proofs.KnownBytes.{Appends-trans, Consumes-nil, Consumes-trans}
use Rattle.lexdfa_lib.proofs.Known.{Appends-none, AppendsPrefix-behind, AppendsPrefix-front}
use Rattle.lexdfa_lib.specs.declared.error.RunError.{RunError}
use Rattle.lexdfa_lib.specs.declared.error.RunError.TheVariants.{OutOfMemory, Read, Write}
use Rattle.lexdfa_lib.specs.Streams.{Stream, AppendsPrefix, Works, Breaks, ReadEnd, AtEnd, Failed, NotOpened, LeftOff, Reads, EndsReading, Takes, TakesPart, IsCause, IsTold, IsToldBy, IsToldPart}

-- ---- calls

pub works_again : (a b c : Stream) → Works a b → Works b c → Works a c
works_again a b c first second = second ∙ ap (λ (s : Stream). record s { bytes = c.bytes }) first

pub breaks_later : (a b c : Stream) → Works a b → Breaks b c → Breaks a c
breaks_later a b c works breaks = (
  sym (ap (λ (s : Stream). s.may_fail) works) ∙ breaks.0,
  breaks.1 ∙ ap (λ (s : Stream). record s { bytes = c.bytes; is_broken = true }) works,
)

-- ---- reading

pub ends_later : (a b c : Stream) (end : ReadEnd) → Works a b → EndsReading b c end → EndsReading a c end
ends_later a b c AtEnd works ends = (sym (ap (λ (s : Stream). s.is_broken) works) ∙ ends.0, (works_again a b c works ends.1.0, ends.1.1))
ends_later a b c Failed works ends = breaks_later a b c works ends
ends_later a b c (NotOpened reason) works ends = ends
ends_later a b c LeftOff works ends = works_again a b c works ends

-- nothing is read
pub reads_none : (a : Stream) → Reads a a (record { bytes = []; end = LeftOff })
reads_none a = (Consumes-nil a.bytes, refl)

-- some bytes are read, and then more
pub reads_again : (a b c : Stream) (xs ys : List ℕ) (end : ReadEnd) → Reads a b (record { bytes = xs; end = LeftOff })
    → Reads b c (record { bytes = ys; end = end }) → Reads a c (record { bytes = xs ++ ys; end = end })
reads_again a b c xs ys end first second =
    (Consumes-trans a.bytes b.bytes c.bytes xs ys first.0 second.0, ends_later a b c end first.1 second.1)

-- ---- writing

-- nothing is taken
pub Takes-nothing : (a : Stream) → Takes a [] a
Takes-nothing a = (refl, Appends-none a.bytes)

pub takes_again : (a b c : Stream) (xs ys : List ℕ) → Takes a xs b → Takes b ys c → Takes a (xs ++ ys) c
takes_again a b c xs ys first second =
    (works_again a b c first.0 second.0, Appends-trans a.bytes b.bytes c.bytes xs ys first.1 second.1)

pub cause_later : (error : RunError) (a b c : Stream) → Works a b → IsCause error b c → IsCause error a c
cause_later OutOfMemory a b c works cause = works_again a b c works cause
cause_later Read a b c works cause = cause
cause_later Write a b c works cause = breaks_later a b c works cause

-- some bytes are taken, and then a part of others
pub takes_part : (a b c : Stream) (xs ys : List ℕ) (error : RunError) → Takes a xs b → TakesPart b ys error c → TakesPart a (xs ++ ys) error c
takes_part a b c xs ys error first second = (
  cause_later error a b c first.0 second.0,
  subst (λ (l : List ℕ). AppendsPrefix a.bytes c.bytes (xs ++ l)) (append-nil ys) (AppendsPrefix-behind a.bytes b.bytes c.bytes xs ys [] first.1 second.1),
)

-- some bytes are taken, and then memory is refused
pub takes_front : (a b : Stream) (xs more : List ℕ) → Takes a xs b → TakesPart a (xs ++ more) OutOfMemory b
takes_front a b xs more first = (first.0, AppendsPrefix-front a.bytes b.bytes xs more first.1)

-- ---- what is told

told_by : (f g : Bool) (a b : Stream) (xs : List ℕ) → a.is_broken ≡ f → b.is_broken ≡ g → IsToldBy f g a xs b → IsTold a xs b
told_by f g a b xs before after told =
    subst (λ (x : Bool). IsToldBy x b.is_broken a xs b) (sym before) (subst (λ (x : Bool). IsToldBy f x a xs b) (sym after) told)

by_told : (f g : Bool) (a b : Stream) (xs : List ℕ) → a.is_broken ≡ f → b.is_broken ≡ g → IsTold a xs b → IsToldBy f g a xs b
by_told f g a b xs before after told =
    subst (λ (x : Bool). IsToldBy x g a xs b) before (subst (λ (x : Bool). IsToldBy a.is_broken x a xs b) after told)

pub told_nothing : (a : Stream) → IsTold a [] a
told_nothing a = by a.is_broken refl
  where
    by : (f : Bool) → a.is_broken ≡ f → IsTold a [] a
    by false is = told_by false false a a [] is is (Takes-nothing a)
    by true is = told_by true true a a [] is is refl

-- a prefix, and then nothing more
part_then : (a b : Option (List ℕ)) (xs ys : List ℕ) → AppendsPrefix a b xs → AppendsPrefix a b (xs ++ ys)
part_then a b xs ys part = AppendsPrefix-behind a a b [] xs ys (Appends-none a) part

pub told_again : (a b c : Stream) (xs ys : List ℕ) → IsTold a xs b → IsTold b ys c → IsTold a (xs ++ ys) c
told_again a b c xs ys x y = by a.is_broken b.is_broken c.is_broken refl refl refl
  where
    by : (f g h : Bool) → a.is_broken ≡ f → b.is_broken ≡ g → c.is_broken ≡ h → IsTold a (xs ++ ys) c
    by false false false p q r =
        told_by false false a c (xs ++ ys) p r (takes_again a b c xs ys (by_told false false a b xs p q x) (by_told false false b c ys q r y))
    by false false true p q r =
        let first : Takes a xs b = by_told false false a b xs p q x in
        let second : Breaks b c × AppendsPrefix b.bytes c.bytes ys = by_told false true b c ys q r y in
        told_by false true a c (xs ++ ys) p r (
          breaks_later a b c first.0 second.0,
          subst (λ (l : List ℕ). AppendsPrefix a.bytes c.bytes (xs ++ l)) (append-nil ys) (AppendsPrefix-behind a.bytes b.bytes c.bytes xs ys [] first.1 second.1),
        )
    by false true false p q r = absurd (by_told true false b c ys q r y)
    by false true true p q r =
        let first : Breaks a b × AppendsPrefix a.bytes b.bytes xs = by_told false true a b xs p q x in
        let same : c ≡ b = by_told true true b c ys q r y in
        subst (λ (s : Stream). IsTold a (xs ++ ys) s) (sym same) (told_by false true a b (xs ++ ys) p q (first.0, part_then a.bytes b.bytes xs ys first.1))
    by true false h p q r = absurd (by_told true false a b xs p q x)
    by true true false p q r = absurd (by_told true false b c ys q r y)
    by true true true p q r =
        let first : b ≡ a = by_told true true a b xs p q x in
        let second : c ≡ b = by_told true true b c ys q r y in
        told_by true true a c (xs ++ ys) p r (second ∙ first)

-- all is a part
pub told_whole : (a b : Stream) (xs : List ℕ) → IsTold a xs b → IsToldPart a xs b
told_whole a b xs told = (length xs, omega arith, subst (λ (l : List ℕ). IsTold a l b) (sym (take_all (length xs) xs (omega arith))) told)

pub told_part_nothing : (a : Stream) (xs : List ℕ) → IsToldPart a xs a
told_part_nothing a xs = (0, omega arith, told_nothing a)

pub told_part_after : (a b c : Stream) (xs ys : List ℕ) → IsTold a xs b → IsToldPart b ys c → IsToldPart a (xs ++ ys) c
told_part_after a b c xs ys told (n, le, part) = (
  length xs + n,
  omega (arith, length-append xs ys, le),
  subst (λ (l : List ℕ). IsTold a l c) (sym (take-append-add xs ys n)) (told_again a b c xs (take n ys) told part),
)

pub told_part_first : (a b : Stream) (xs ys : List ℕ) → IsToldPart a xs b → IsToldPart a (xs ++ ys) b
told_part_first a b xs ys (n, le, part) =
    (n, omega (arith, length-append xs ys, le), subst (λ (l : List ℕ). IsTold a l b) (sym (take-append-le n xs ys le)) part)
