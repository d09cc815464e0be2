-- Cases of specs/Internal/Noted.antt: the automaton of `a*b`.
use Rattle.std.proofs.Common.{◌≡◌, ℕ, inl, inr, [], ◌∷◌, refl, arith}
use Rattle.lalrpop_dfa.specs.Dfa.{Row}
use Rattle.lalrpop_dfa.specs.declared.Kind.TheVariants.{Accepts, Reject, Neither}
use Rattle.bajofeki.specs.declared.walker.Walker.{Walker}
use Rattle.bajofeki.specs.declared.walker.Walker.TheVariants.{States}
use Rattle.bajofeki.specs.Internal.Noted.{IsLast, IsOver}

-- state 0 stays open at each `a`, and a `b` leads to state 1, which accepts; all else leads to state 2, which rejects
abbrev open_row : Row
open_row = record { kind = Neither; tests = (record { start = 97; end = 97 }, 0) ∷ (record { start = 98; end = 98 }, 1) ∷ []; other = 2; items = [] }

abbrev accepting_row : Row
accepting_row = record { kind = Accepts 0; tests = []; other = 2; items = [] }

abbrev dead_row : Row
dead_row = record { kind = Reject; tests = []; other = 2; items = [] }

abbrev walk : Walker
walk = States (record { ref_ptr = (0, 0); now = open_row ∷ accepting_row ∷ dead_row ∷ [] })

open_is_not_last : ¬ IsLast walk 0
open_is_not_last last = let e : Neither ≡ Reject = last 97 (omega arith) in cc

-- no character leads on from the state that accepts
accepting_is_last : IsLast walk 1
accepting_is_last c below = refl

-- so no byte more needs to be read there
no_byte_behind_b : IsOver walk 1 (97 ∷ []) 0
no_byte_behind_b = inl (refl, accepting_is_last)

-- a `c` after an `a` settles that no match comes, and two bytes are read
a_and_c : IsOver walk 0 (97 ∷ 99 ∷ []) 2
unfolding lib.Utf8.encode
a_and_c = inr (inr (refl, (1, (refl, inr (inl (refl, refl))))))

-- where the text ends after an `a`, a match may come, so its end is read too
a_and_the_end : IsOver walk 0 (97 ∷ []) 2
unfolding lib.Utf8.encode
a_and_the_end = inr (inr (refl, (1, (refl, inr (refl, (98, (omega arith, λ e. cc)))))))

-- where a `b` comes, nothing settles that no match does
b_comes : (n : ℕ) → ¬ IsOver walk 0 (98 ∷ []) n
b_comes n (inl o) = open_is_not_last o.1
b_comes n (inr (inl o)) = let e : Accepts 0 ≡ Reject = o.1 in cc
b_comes n (inr (inr o)) = let e : Accepts 0 ≡ Neither = o.0 in cc
