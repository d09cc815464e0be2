-- Two writes in a row.
use Rattle.std.proofs.Common.{◌≡◌, ℕ, ◌+◌, ◌≤◌, zero, suc, List, [], ◌∷◌, ◌++◌, length, take, drop, sym, ap, subst, ◌∙◌, arith, append_assoc, length-append, refl, Bool, false}
use Rattle.std.specs.Prelude.{Option, Some, None, ◌&&◌, ◌==◌, not}
use Rattle.std.specs.Io.KnownBytes.{Appends}
use Rattle.std.proofs.Math.Seq.{take-add, take-append-add, take-append_seam}
use Rattle.std.proofs.lemmas.Bool.{ne_eqb}
use Rattle.std.proofs.lemmas.List.{append-nil, take-append-le}
use Rattle.lexdfa_lib.specs.Streams.{AppendsPrefix}

pub Appends-none : (a : Option (List ℕ)) → Appends a a []
Appends-none None = tt
Appends-none (Some x) = sym (append-nil x)

pub Appends-again : (a b c : Option (List ℕ)) (xs ys : List ℕ) → Appends a b xs → Appends b c ys → Appends a c (xs ++ ys)
Appends-again None b c xs ys h k = tt
Appends-again (Some x) None c xs ys h k = absurd h
Appends-again (Some x) (Some y) None xs ys h k = absurd k
Appends-again (Some x) (Some y) (Some z) xs ys h k = k ∙ (ap (λ w. w ++ ys) h ∙ append_assoc x xs ys)

-- some bytes, and then a prefix of others, whatever follows
pub AppendsPrefix-behind : (a b c : Option (List ℕ)) (xs ys more : List ℕ) → Appends a b xs → AppendsPrefix b c ys → AppendsPrefix a c (xs ++ (ys ++ more))
AppendsPrefix-behind a b c xs ys more h (n, le, k) =
    let all : take (length xs + n) (xs ++ (ys ++ more)) ≡ xs ++ take n ys =
    take-append-add xs (ys ++ more) n ∙ ap (λ (l : List ℕ). xs ++ l) (take-append-le n ys more le) in (
      length xs + n,
      omega (arith, length-append xs (ys ++ more), length-append ys more, le),
      subst (Appends a c) (sym all) (Appends-again a b c xs (take n ys) h k),
    )

pub AppendsPrefix-front : (a b : Option (List ℕ)) (xs more : List ℕ) → Appends a b xs → AppendsPrefix a b (xs ++ more)
AppendsPrefix-front a b xs more h =
    (length xs, omega (arith, length-append xs more), subst (Appends a b) (sym (take-append_seam xs more)) h)

take_within : (n m : ℕ) (xs : List ℕ) → n ≤ m → take n (take m xs) ≡ take n xs
take_within zero m xs l = refl
take_within (suc n) zero xs l = absurd (omega arith)
take_within (suc n) (suc m) [] l = refl
take_within (suc n) (suc m) (x ∷ xs) l = ap (λ ys. x ∷ ys) (take_within n m xs (omega arith))

pub still_good : (after : Bool) (n k : ℕ) → (n ≡ 0 → ⊥) → after ≡ ((n == 0) && not (k == 0)) → after ≡ false
still_good after n k z e = rw (e, ne_eqb n 0 z) refl

-- what was taken up to a place, and then n bytes of the rest
pub Appends-on : (a b c : Option (List ℕ)) (at n m : ℕ) (bytes : List ℕ) → n ≤ m → at + m ≡ length bytes → Appends a b (take at bytes) → Appends b c (take n (take m (drop at bytes))) → Appends a c (take (at + n) bytes)
Appends-on a b c at n m bytes l e h k = rw (take-add at n bytes) (Appends-again a b c (take at bytes) (take n (drop at bytes)) h (rw (← take_within n m (drop at bytes) l) k))
