-- Where a run has read so far that nothing after can matter, the piece depends on what was read alone.
use Rattle.std.proofs.Common.{◌≡◌, ℕ, ◌+◌, ◌<◌, ◌≤◌, ◌⊎◌, ⊎_elim, inl, inr, List, ◌++◌, length, take, drop, arith, refl, sym, ap, subst, ◌∙◌, append_assoc, length-append, length-drop}
use Rattle.std.specs.Prelude.{Option, Some, None, IfSome, IfNone}
use Rattle.std.specs.Str.{chars, IsUtf8, IsCharBoundary}
use Rattle.std.proofs.lemmas.Bool.{cases_lt}
use Rattle.std.proofs.lemmas.List.{take_at, drop_at, take-append-le, take-append-drop}
use Rattle.std.proofs.lemmas.Str.{chars-append, IsUtf8-drop, IsCharBoundary-from_take}
use Rattle.lalrpop_hir.specs.Tree.{Tree}
use Rattle.lalrpop_hir.specs.Winners.{Matched}
use Rattle.lalrpop_hir.specs.Longest.{IsMatch, IsLongest}
use Rattle.lalrpop_rules.specs.Pieces.{IsFault}
use Rattle.lalrpop_lexer.proofs.Cuttings.{some_char}
use Rattle.lalrpop_rules.proofs.FirstMatches.{match_begins}
use Rattle.bajofeki.specs.Internal.Reach.{AreAlike, IsClosed, IsSettledBy, IsFaultSettledBy}
use Rattle.bajofeki.specs.Internal.Kept.{IsFront}
use Rattle.bajofeki.proofs.Walking.{text_scalars}
use Rattle.bajofeki.proofs.Alike.{alike_less, alike_behind, alike_whole, alike_front, alike_boundary}

-- where no match goes beyond the characters at the front, each match is among them, so it matches whatever follows
pub match_stays : (ts : List Tree) (u v w p : List ℕ) → IsUtf8 u → IsClosed ts (chars u) → IsMatch ts (u ++ v) p → IsMatch ts (u ++ w) p
match_stays ts u v w p utf8 dead m = ⊎_elim
    (λ (longer : length u < length p).
    let front : take (length u) p ≡ u =
    sym (take-append-le (length u) p m.0.0 (omega arith)) ∙ ap (take (length u)) (sym m.0.1.0) ∙ take_at u v (length u) refl in
    let is : p ≡ u ++ drop (length u) p = sym (take-append-drop (length u) p) ∙ ap (λ (q : List ℕ). q ++ drop (length u) p) front in
    let word : chars p ≡ chars u ++ chars (drop (length u) p) = ap chars is ∙ chars-append u (drop (length u) p) utf8 in
    let more : IsUtf8 (drop (length u) p) =
    IsUtf8-drop p (length u) m.0.1.1 (IsCharBoundary-from_take p (length u) m.0.1.1 (omega arith) (subst IsUtf8 (sym front) utf8)) in
    let some : 0 < length (chars (drop (length u) p)) =
    some_char (drop (length u) p) more (λ none. omega (arith, longer, length-drop (length u) p, ap length none)) in
    absurd (dead (chars (drop (length u) p)) (text_scalars (drop (length u) p) more) (λ none. omega (arith, some, ap length none)) (subst (Matched ts) word m.2)))
    (λ (within : length p ≤ length u).
    let front : take (length p) u ≡ p =
    sym (take-append-le (length p) u v within) ∙ ap (take (length p)) m.0.1.0 ∙ take_at p m.0.0 (length p) refl in
    let is : u ≡ p ++ drop (length p) u = sym (take-append-drop (length p) u) ∙ ap (λ (q : List ℕ). q ++ drop (length p) u) front in
    ((drop (length p) u ++ w, (ap (λ (q : List ℕ). q ++ w) is ∙ append_assoc p (drop (length p) u) w, m.0.1.1)), m.1, m.2))
    (cases_lt (length u) (length p))

longest_stays : (ts : List Tree) (ps u v w : List ℕ) (o : Option (ℕ × List ℕ)) → IsUtf8 u → IsClosed ts (chars u) → IsLongest ts ps (u ++ v) o
    → IsLongest ts ps (u ++ w) o
longest_stays ts ps u v w None utf8 dead none = λ p m. none p (match_stays ts u w v p utf8 dead m)
longest_stays ts ps u v w (Some m) utf8 dead longest =
    (match_stays ts u v w m.1 utf8 dead longest.0, λ p n. longest.1 p (match_stays ts u w v p utf8 dead n), longest.2)

-- the longest match depends on what settles it alone
pub settled_longest : (ts : List Tree) (ps text other : List ℕ) (n : ℕ) (o : Option (ℕ × List ℕ)) → IsSettledBy ts text n → AreAlike n text other
    → IsLongest ts ps text o → IsLongest ts ps other o
settled_longest ts ps text other n o (inl whole) alike longest =
    subst (λ (t : List ℕ). IsLongest ts ps t o) (sym (alike_whole n text other whole alike)) longest
settled_longest ts ps text other n o (inr (u, s)) alike longest =
    let split : text ≡ u ++ s.0.0 = s.0.1.0 in
    let same : AreAlike n (u ++ s.0.0) other = subst (λ (t : List ℕ). AreAlike n t other) split alike in
    subst (λ (t : List ℕ). IsLongest ts ps t o) (sym (alike_front n u s.0.0 other s.1 same))
    (longest_stays ts ps u s.0.0 (drop (length u) other) o s.0.1.1 s.2 (subst (λ (t : List ℕ). IsLongest ts ps t o) split longest))

-- and so does each match
pub settled_match : (ts : List Tree) (text other p : List ℕ) (n : ℕ) → IsSettledBy ts text n → AreAlike n text other → IsMatch ts other p → IsMatch ts text p
settled_match ts text other p n (inl whole) alike m = subst (λ (t : List ℕ). IsMatch ts t p) (alike_whole n text other whole alike) m
settled_match ts text other p n (inr (u, s)) alike m =
    let split : text ≡ u ++ s.0.0 = s.0.1.0 in
    let same : AreAlike n (u ++ s.0.0) other = subst (λ (t : List ℕ). AreAlike n t other) split alike in
    let there = alike_front n u s.0.0 other s.1 same in
    subst (λ (t : List ℕ). IsMatch ts t p) (sym split)
    (match_stays ts u (drop (length u) other) s.0.0 p s.0.1.1 s.2 (subst (λ (t : List ℕ). IsMatch ts t p) there m))

-- a fault depends on what settles it alone
pub settled_fault : (ts : List Tree) (text other slice : List ℕ) (n : ℕ) → IsFaultSettledBy ts text slice n → AreAlike n text other
    → IsFault ts text slice → IsFault ts other slice
settled_fault ts text other slice n settled alike fault = by_end settled.ends
  where
    by_end : (length text < n) ⊎ ((p : List ℕ) × (IsMatch ts (drop (length slice) text) p × (length slice + length p ≤ n))) → IsFault ts other slice
    by_end (inl whole) = subst (λ (t : List ℕ). IsFault ts t slice) (sym (alike_whole n text other whole alike)) fault
    by_end (inr (p, e)) =
        let left : drop (length slice) text ≡ fault.front.0 = ap (drop (length slice)) fault.front.1 ∙ drop_at slice fault.front.0 (length slice) refl in
        let behind : fault.front.0 ≡ p ++ e.0.0.0 = sym left ∙ e.0.0.1.0 in
        let split : text ≡ (slice ++ p) ++ e.0.0.0 =
        fault.front.1 ∙ ap (λ (r : List ℕ). slice ++ r) behind ∙ sym (append_assoc slice p e.0.0.0) in
        let size : length (slice ++ p) ≡ length slice + length p = length-append slice p in
        let same : AreAlike n ((slice ++ p) ++ e.0.0.0) other = subst (λ (t : List ℕ). AreAlike n t other) split alike in
        let tail : List ℕ = drop (length (slice ++ p)) other in
        let there : other ≡ slice ++ (p ++ tail) = alike_front n (slice ++ p) e.0.0.0 other (omega (arith, size, e.1)) same ∙ append_assoc slice p tail in
        let rest : drop (length slice) other ≡ p ++ tail = ap (drop (length slice)) there ∙ drop_at slice (p ++ tail) (length slice) refl in
        record {
          front = (p ++ tail, there);
          some = fault.some;
          nothing = λ k less m.
              let within : k < length slice + length p = omega (arith, less) in
              let long : length slice + length p ≤ length text =
              omega (arith, ap length split, length-append (slice ++ p) e.0.0.0, size) in
              let begins : IsCharBoundary text k =
              alike_boundary (length slice + length p) k text other within long (alike_less (length slice + length p) n text other e.1 alike) (match_begins ts other k m) in
              let s = settled.each k less begins in
              let close : AreAlike s.0 (drop k text) (drop k other) = alike_behind k s.0 text other (alike_less (k + s.0) n text other s.1.0 alike) in
              fault.nothing k less (m.0, settled_match ts (drop k text) (drop k other) m.0 s.0 s.1.1 close m.1);
          ends = inr (p, ((tail, (rest, e.0.0.1.1)), e.0.1, e.0.2));
        }

-- so each piece depends on what settles it alone
pub token_settled : (ts : List Tree) (ps text other : List ℕ) (i : ℕ) (slice : List ℕ) (n : ℕ) → IsFront ts ps text (Some i) slice → IsSettledBy ts text n
    → AreAlike n text other → IsFront ts ps other (Some i) slice
token_settled ts ps text other i slice n front settled alike = (settled_longest ts ps text other n (Some (i, slice)) settled alike front.0, front.1)

pub fault_settled : (ts : List Tree) (ps text other slice : List ℕ) (n : ℕ) → IsFront ts ps text None slice → IsFaultSettledBy ts text slice n
    → AreAlike n text other → IsFront ts ps other None slice
fault_settled ts ps text other slice n front settled alike = settled_fault ts text other slice n settled alike front

pub front_settled : (ts : List Tree) (ps text other : List ℕ) (o : Option ℕ) (slice : List ℕ) (n : ℕ) → IsFront ts ps text o slice
    → IfNone o (IsFaultSettledBy ts text slice n) → IfSome o (λ i. IsSettledBy ts text n) → AreAlike n text other → IsFront ts ps other o slice
front_settled ts ps text other None slice n front fault token alike = fault_settled ts ps text other slice n front fault alike
front_settled ts ps text other (Some i) slice n front fault token alike = token_settled ts ps text other i slice n front token alike

-- what is settled by n bytes is settled by more
pub settled_more : (ts : List Tree) (text : List ℕ) (n m : ℕ) → n ≤ m → IsSettledBy ts text n → IsSettledBy ts text m
settled_more ts text n m le (inl whole) = inl (omega (arith, whole))
settled_more ts text n m le (inr (u, s)) = inr (u, (s.0, omega (arith, s.1), s.2))
