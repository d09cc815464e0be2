-- What the characters that are cut off a text pay for.
use Rattle.std.proofs.Common.{◌≡◌, ◌≢◌, ℕ, ◌+◌, ◌*◌, ◌<◌, ◌≤◌, true, false, List, [], ◌++◌, length, arith, sym, ap, ◌∙◌, length-append, Bor}
use Rattle.std.specs.Prelude.{Option, Some, None, Ok, Err, IfSome, IfNone}
use Rattle.std.specs.Option.{option_map}
use Rattle.std.specs.Str.{chars, IsUtf8}
use Rattle.std.proofs.lemmas.Str.{chars-append}
use Rattle.lalrpop_hir.specs.Prefix.{IsPrefix}
use Rattle.lalrpop_hir.specs.declared.token.TokenFault.{TokenFault}
use Rattle.lalrpop_dfa.specs.Lookahead.{ReadsAtMost}
use Rattle.lalrpop_dense.specs.Matching.{characters_of}
use Rattle.lalrpop_dense.specs.Cutting.{Cutting, rest_of, left_of, IsNext, IsPaid, IsPaidBy, GivesItem}
use Rattle.lalrpop_dense.proofs.Cuttings.{fewer, rest_behind, left_on, left_over, some_char}

-- `a` characters are cut off, and `b` are left
pays : (n a b before after : ℕ) → after ≤ before + (n + 2) * a → after + (n + 2) * b ≤ before + (n + 2) * (a + b)
pays n a b before after more =
    let e : (n + 2) * (a + b) ≡ (n + 2) * a + (n + 2) * b = grind arith in
    omega arith

token_pays : (s t : Cutting) (m : List ℕ) (before after n : ℕ) → s.is_over ≡ false → IsPrefix m (rest_of s)
    → t ≡ record s { at = s.at + length m; spare = t.spare; steps = t.steps } → after ≤ before + (n + 2) * length (chars m) → after + (n + 2) * left_of t ≤ before + (n + 2) * left_of s
token_pays s t m before after n on b e more =
    let split : rest_of s ≡ m ++ rest_of t = rest_behind s t m b e in
    let still : t.is_over ≡ false = ap (λ (x : Cutting). x.is_over) e ∙ on in
    let count : left_of s ≡ length (chars m) + left_of t =
    left_on s on ∙ ap (λ (w : List ℕ). length (chars w)) split ∙ ap length (chars-append m (rest_of t) b.1.1) ∙ length-append (chars m) (chars (rest_of t))
    ∙ ap (λ (k : ℕ). length (chars m) + k) (sym (left_on t still)) in
    rw count (pays n (length (chars m)) (left_of t) before after more)

fault_pays : (s t : Cutting) (before after n : ℕ) → s.is_over ≡ false → t ≡ record s { is_over = true; spare = t.spare; steps = t.steps } → after ≤ before + length (chars (rest_of s))
    → after + (n + 2) * left_of t ≤ before + (n + 2) * left_of s
fault_pays s t before after n on e more =
    let none : left_of t ≡ 0 = left_over t (ap (λ (x : Cutting). x.is_over) e) in
    let all : left_of s ≡ length (chars (rest_of s)) = left_on s on in
    rw (none, all) (at (length (chars (rest_of s))) more)
  where
    at : (b : ℕ) → after ≤ before + b → after + (n + 2) * 0 ≤ before + (n + 2) * b
    at b h = let e : (n + 2) * b ≡ n * b + 2 * b = grind arith in let z : (n + 2) * 0 ≡ 0 = grind arith in omega arith

-- ---- with a memo
linear_token : (s t : Cutting) (m : List ℕ) (before after spare spare2 : ℕ) → s.is_over ≡ false → IsPrefix m (rest_of s) → m ≢ []
    → t ≡ record s { at = s.at + length m; spare = t.spare; steps = t.steps } → after + spare2 ≤ before + length (chars m) + spare + 64
    → after + 65 * left_of t + spare2 ≤ before + 65 * left_of s + spare
linear_token s t m before after spare spare2 on b some e more =
    let one = some_char m b.1.1 some in
    let pays : after + spare2 + (63 + 2) * left_of t ≤ before + spare + (63 + 2) * left_of s =
    token_pays s t m (before + spare) (after + spare2) 63 on b e (omega (arith, one)) in
    omega (arith, pays)

linear_fault : (s t : Cutting) (before after spare spare2 : ℕ) → IsUtf8 (rest_of s) → s.is_over ≡ false → rest_of s ≢ [] → t ≡ record s { is_over = true; spare = t.spare; steps = t.steps }
    → after + spare2 ≤ before + spare + 64 → after + 65 * left_of t + spare2 ≤ before + 65 * left_of s + spare
linear_fault s t before after spare spare2 u on some e more =
    let none : left_of t ≡ 0 = left_over t (ap (λ (x : Cutting). x.is_over) e) in
    let all : left_of s ≡ length (chars (rest_of s)) = left_on s on in
    omega (arith, none, all, some_char (rest_of s) u some)

-- ---- in both ways

-- what is read to find a match, with a memo or without
abbrev pub Reads : Cutting → Option ℕ → Option ℕ → Option (List ℕ) → ℕ → Type 0
Reads s None None m steps =
    IfNone m (steps ≤ s.steps + length (chars (rest_of s)))
    × ((n : ℕ) → ReadsAtMost s.automaton n → IfSome m (λ x. steps ≤ s.steps + (n + 2) * length (chars x)))
Reads s (Some before) (Some after) m steps = steps + after ≤ s.steps + characters_of m + before + 64
Reads s _ _ m steps = ⊥

-- the longest match of the rest is found
pub record IsFound (s : Cutting) (m : Option (ℕ × List ℕ)) (spare : Option ℕ) (steps : ℕ) : Type 0 where
  pub next : IsNext s m
  pub prefix : IfSome m (λ x. IsPrefix x.1 (rest_of s) × (x.1 ≢ []))
  pub never_falls : s.steps ≤ steps
  pub reads : Reads s s.spare spare (option_map (λ x. x.1) m) steps

-- it pays for what was read
token_paid : (a b : Option ℕ) (s t : Cutting) (m : List ℕ) → s.is_over ≡ false → IsPrefix m (rest_of s) → m ≢ []
    → t ≡ record s { at = s.at + length m; spare = t.spare; steps = t.steps } → Reads s a b (Some m) t.steps → IsPaidBy a b s t
token_paid None None s t m on p some e reads = λ n most. token_pays s t m s.steps t.steps n on p e (reads.1 n most)
token_paid (Some a) (Some b) s t m on p some e reads = linear_token s t m s.steps t.steps a b on p some e reads
token_paid None (Some b) s t m on p some e reads = reads
token_paid (Some a) None s t m on p some e reads = reads

fault_paid : (a b : Option ℕ) (s t : Cutting) → IsUtf8 (rest_of s) → s.is_over ≡ false → rest_of s ≢ []
    → t ≡ record s { is_over = true; spare = t.spare; steps = t.steps } → Reads s a b None t.steps → IsPaidBy a b s t
fault_paid None None s t u on some e reads = λ n most. fault_pays s t s.steps t.steps n on e reads.0
fault_paid (Some a) (Some b) s t u on some e reads = linear_fault s t s.steps t.steps a b u on some e (omega (arith, reads))
fault_paid None (Some b) s t u on some e reads = reads
fault_paid (Some a) None s t u on some e reads = reads

-- so one call gives the token that is found, and leaves less
pub token_given : (s t : Cutting) (m : ℕ × Bor (List ℕ)) → IsUtf8 (rest_of s) → s.is_over ≡ false → IsFound s (Some (m.0, m.1.now)) t.spare t.steps
    → t ≡ record s { at = s.at + length m.1.now; spare = t.spare; steps = t.steps } → GivesItem s (Some (Ok m)) t × (left_of t < left_of s)
token_given s t m u on found e =
    let paid : IsPaid s t = (found.never_falls, token_paid s.spare t.spare s t m.1.now on found.prefix.0 found.prefix.1 e found.reads) in
    let gives : GivesItem s (Some (Ok m)) t = (on, found.prefix.0, found.prefix.1, found.next, e, paid) in
    (gives, fewer s t (Ok m) u gives)

-- or the fault where none is
pub fault_given : (s t : Cutting) (fault : TokenFault) → IsUtf8 (rest_of s) → s.is_over ≡ false → rest_of s ≢ [] → fault.at ≡ s.at → IsFound s None t.spare t.steps
    → t ≡ record s { is_over = true; spare = t.spare; steps = t.steps } → GivesItem s (Some (Err fault)) t × (left_of t < left_of s)
fault_given s t fault u on some at found e =
    let paid : IsPaid s t = (found.never_falls, fault_paid s.spare t.spare s t u on some e found.reads) in
    let gives : GivesItem s (Some (Err fault)) t = (on, some, at, found.next, e, paid) in
    (gives, fewer s t (Err fault) u gives)
