-- How many notes there are: for each open state of each mode one for each block of the text.
use Rattle.std.proofs.Common.{◌≡◌, ℕ, zero, suc, ◌+◌, ◌-◌, ◌*◌, ◌/◌, ◌<◌, ◌≤◌, ◌⊎◌, inl, inr, Bool, true, false, if◌then◌else◌, List, [], ◌∷◌, ◌++◌, length, refl, sym, ap, subst, ◌∙◌, arith, length-append}
use Rattle.std.specs.Prelude.{Option, Some, None, IsSomeAnd, slice_get, sum_by, cond}
use Rattle.std.specs.List.{All}
use Rattle.std.proofs.lemmas.List.Elements.{All-contains}
use Rattle.std.proofs.lemmas.List.Sums.{sum_by-cons}
use Rattle.std.proofs.lemmas.Option.{slice_get_within}
use Rattle.std.proofs.lemmas.Bool.{cases_order}
use Rattle.std.proofs.Math.Nat.{mul-le-mul_left}
use Rattle.lalrpop_dfa.specs.Dfa.{Row, after}
use Rattle.lalrpop_dfa.specs.declared.Kind.TheVariants.{Neither}
use Rattle.lalrpop_lexer.specs.Matching.{is_open_kind, open_states}
use Rattle.lalrpop_rules.specs.Modes.{ModeRules}
use Rattle.lalrpop_rules.specs.ModeCut.{open_in_all}
use Rattle.bajofeki.specs.Internal.Noted.{IsCutter}
use Rattle.bajofeki.specs.Internal.Paying.{AreDistinct, IsCrossing, IsNote}
use Rattle.bajofeki.specs.Internal.Walking.{IsMet, behind, says}
use Rattle.bajofeki.specs.declared.cutter.Cutter.{Cutter}
use Rattle.bajofeki.specs.declared.walker.Walker.{Walker}
use Rattle.bajofeki.proofs.Distinct.{StandsIn, stands_left, stands_right, no_more}

-- ---- the cells: a mode, an open state and a block

-- those of a state, for so many blocks
abbrev cells_at : ℕ → ℕ → ℕ → ℕ → List (ℕ × (ℕ × ℕ))
cells_at mode state low zero = []
cells_at mode state low (suc n) = (mode, (state, low + n)) ∷ cells_at mode state low n

-- those of the states from this one on
abbrev cells_of : ℕ → ℕ → ℕ → ℕ → List Row → List (ℕ × (ℕ × ℕ))
cells_of mode state low n [] = []
cells_of mode state low n (row ∷ d) = (if is_open_kind row.kind then cells_at mode state low n else []) ++ cells_of mode (suc state) low n d

-- those of the modes from this one on
abbrev cells_from : ℕ → ℕ → ℕ → List (List Row) → List (ℕ × (ℕ × ℕ))
cells_from mode low n [] = []
cells_from mode low n (d ∷ ds) = cells_of mode 0 low n d ++ cells_from (suc mode) low n ds

count_at : (mode state low n : ℕ) → length (cells_at mode state low n) ≡ n
count_at mode state low zero = refl
count_at mode state low (suc n) = omega (arith, count_at mode state low n)

count_of : (mode state low n : ℕ) (d : List Row) → length (cells_of mode state low n d) ≡ open_states d * n
count_of mode state low n [] = omega arith
count_of mode state low n (row ∷ d) =
    omega (
      arith,
      length-append (if is_open_kind row.kind then cells_at mode state low n else []) (cells_of mode (suc state) low n d),
      by_kind (is_open_kind row.kind),
      count_of mode (suc state) low n d,
      ap (λ (k : ℕ). k * n) (sum_by-cons (λ (r : Row). cond (is_open_kind r.kind) 1 0) row d),
    )
  where
    by_kind : (b : Bool) → length (if b then cells_at mode state low n else []) ≡ cond b 1 0 * n
    by_kind true = omega (arith, count_at mode state low n)
    by_kind false = omega arith

count_from : (mode low n : ℕ) (ds : List (List Row)) → length (cells_from mode low n ds) ≡ sum_by open_states ds * n
count_from mode low n [] = omega arith
count_from mode low n (d ∷ ds) =
    omega (
      arith,
      length-append (cells_of mode 0 low n d) (cells_from (suc mode) low n ds),
      count_of mode 0 low n d,
      count_from (suc mode) low n ds,
      ap (λ (k : ℕ). k * n) (sum_by-cons open_states d ds),
    )

at_block : (mode state low n k : ℕ) → k < n → StandsIn (cells_at mode state low n) (mode, (state, low + k))
at_block mode state low zero k below = absurd (omega (arith, below))
at_block mode state low (suc n) k below = by_place (λ less. at_block mode state low n k less) (last_or_less (omega (arith, below)))
  where
    last_or_less : k ≤ n → (k ≡ n) ⊎ (k < n)
    last_or_less le = elim (cases_order k n) [
      | inl same ↦ inl same
      | inr (inl less) ↦ inr less
      | inr (inr more) ↦ absurd (omega (arith, le, more))
    ]

    by_place : (k < n → StandsIn (cells_at mode state low n) (mode, (state, low + k))) → (k ≡ n) ⊎ (k < n) → StandsIn (cells_at mode state low (suc n)) (mode, (state, low + k))
    by_place later (inl last) = inl (ap (λ (b : ℕ). let x : ℕ × (ℕ × ℕ) = (mode, (state, low + b)) in x) (sym last))
    by_place later (inr less) = inr (later less)

at_state : (mode state low n k s : ℕ) (d : List Row) (row : Row) → slice_get d s ≡ Some row → row.kind ≡ Neither → k < n
    → StandsIn (cells_of mode state low n d) (mode, (state + s, low + k))
at_state mode state low n k s [] row there opened below = absurd (cc (there))
at_state mode state low n k zero (first ∷ d) row there opened below =
    let same : first ≡ row = cc (there) in
    let opens : is_open_kind first.kind ≡ true = ap (λ (r : Row). is_open_kind r.kind) same ∙ ap is_open_kind opened in
    stands_left (if is_open_kind first.kind then cells_at mode state low n else []) (cells_of mode (suc state) low n d) (mode, (state + 0, low + k))
    (subst (λ (b : Bool). StandsIn (if b then cells_at mode state low n else []) (mode, (state + 0, low + k))) (sym opens)
    (subst (λ (i : ℕ). StandsIn (cells_at mode state low n) (mode, (i, low + k))) (let e : state ≡ state + 0 = omega arith in e) (at_block mode state low n k below)))
at_state mode state low n k (suc s) (first ∷ d) row there opened below =
    stands_right (if is_open_kind first.kind then cells_at mode state low n else []) (cells_of mode (suc state) low n d) (mode, (state + suc s, low + k))
    (subst (λ (i : ℕ). StandsIn (cells_of mode (suc state) low n d) (mode, (i, low + k))) (let e : suc state + s ≡ state + suc s = omega arith in e)
    (at_state mode (suc state) low n k s d row there opened below))

at_mode : (mode low n k s m : ℕ) (ds : List (List Row)) (d : List Row) (row : Row) → slice_get ds m ≡ Some d → slice_get d s ≡ Some row → row.kind ≡ Neither → k < n
    → StandsIn (cells_from mode low n ds) (mode + m, (s, low + k))
at_mode mode low n k s m [] d row there at opened below = absurd (cc (there))
at_mode mode low n k s zero (first ∷ ds) d row there at opened below =
    let same : first ≡ d = cc (there) in
    stands_left (cells_of mode 0 low n first) (cells_from (suc mode) low n ds) (mode + 0, (s, low + k))
    (subst (λ (i : ℕ). StandsIn (cells_of mode 0 low n first) (i, (s, low + k))) (let e : mode ≡ mode + 0 = omega arith in e)
    (subst (λ (i : ℕ). StandsIn (cells_of mode 0 low n first) (mode, (i, low + k))) (let e : 0 + s ≡ s = omega arith in e)
    (at_state mode 0 low n k s first row (ap (λ (rows : List Row). slice_get rows s) same ∙ at) opened below)))
at_mode mode low n k s (suc m) (first ∷ ds) d row there at opened below =
    stands_right (cells_of mode 0 low n first) (cells_from (suc mode) low n ds) (mode + suc m, (s, low + k))
    (subst (λ (i : ℕ). StandsIn (cells_from (suc mode) low n ds) (i, (s, low + k))) (let e : suc mode + m ≡ mode + suc m = omega arith in e)
    (at_mode (suc mode) low n k s m ds d row there at opened below))

-- ---- the cell of a note

-- the note is for this mode, state and block
record IsCellOf (r : ModeRules) (c : Cutter) (text : List ℕ) (x y : ℕ × (ℕ × ℕ)) : Type 0 where
  mode : x.0 ≡ y.0
  block : x.1.1 / 64 ≡ y.1.1
  crossing : IsCrossing 0 text x.1.1
  walker : Walker
  walker_is : slice_get c.walkers.items x.0 ≡ Some walker
  automaton : List Row
  automaton_is : slice_get r.automata x.0 ≡ Some automaton
  word : List ℕ
  scalars : All (λ c. c < 1114112) word
  reached : x.1.0 ≡ behind walker word
  state : after automaton word ≡ y.1.0

-- in one block there is one crossing
one_crossing : (text : List ℕ) (m n : ℕ) → IsCrossing 0 text m → IsCrossing 0 text n → m / 64 ≡ n / 64 → m ≡ n
one_crossing text m n first second same = by_order (cases_order m n)
  where
    by_order : (m ≡ n) ⊎ ((m < n) ⊎ (n < m)) → m ≡ n
    by_order (inl e) = e
    by_order (inr (inl less)) = absurd (second.first m less (omega (arith, same)) first.boundary)
    by_order (inr (inr more)) = absurd (first.first n more (omega (arith, same)) second.boundary)

-- no two notes have one cell
one_note : (r : ModeRules) (c : Cutter) (at : ℕ) (text rest : List ℕ) → IsCutter r c at rest → (x z y : ℕ × (ℕ × ℕ)) → IsCellOf r c text x y → IsCellOf r c text z y → x ≡ z
one_note r c at text rest is x z y a b =
    let mode : x.0 ≡ z.0 = a.mode ∙ sym b.mode in
    let walkers : Some a.walker ≡ Some b.walker = sym a.walker_is ∙ ap (slice_get c.walkers.items) mode ∙ b.walker_is in
    let walker : a.walker ≡ b.walker = cc (walkers) in
    let automata : Some a.automaton ≡ Some b.automaton = sym a.automaton_is ∙ ap (slice_get r.automata) mode ∙ b.automaton_is in
    let automaton : a.automaton ≡ b.automaton = cc (automata) in
    let states : after a.automaton a.word ≡ after a.automaton b.word = a.state ∙ sym b.state ∙ ap (λ (d : List Row). after d b.word) (sym automaton) in
    let places : behind a.walker a.word ≡ behind a.walker b.word = is.one x.0 a.walker a.automaton a.walker_is a.automaton_is a.word b.word a.scalars b.scalars states in
    let place : x.1.0 ≡ z.1.0 = a.reached ∙ places ∙ ap (λ (w : Walker). behind w b.word) walker ∙ sym b.reached in
    let byte : x.1.1 ≡ z.1.1 = one_crossing text x.1.1 z.1.1 a.crossing b.crossing (a.block ∙ sym b.block) in
    ap (λ (m : ℕ). let p : ℕ × (ℕ × ℕ) = (m, x.1) in p) mode
    ∙ ap (λ (n : ℕ). let p : ℕ × (ℕ × ℕ) = (z.0, (n, x.1.1)) in p) place
    ∙ ap (λ (n : ℕ). let p : ℕ × (ℕ × ℕ) = (z.0, (z.1.0, n)) in p) byte

-- each note has one
cell_of : (r : ModeRules) (c d : Cutter) (at from far : ℕ) (text rest : List ℕ) → IsCutter r c at rest → d.walkers.items ≡ c.walkers.items
    → ((m : ℕ) → m < r.modes → (a : List Row) × (slice_get r.automata m ≡ Some a)) → (x : ℕ × (ℕ × ℕ)) → IsNote d text from far x
    → (y : ℕ × (ℕ × ℕ)) × (IsCellOf r c text x y × StandsIn (cells_from 0 (from / 64) (far / 64 - from / 64 + 1) r.automata) y)
cell_of r c d at from far text rest is walkers known x note =
    let w = note.walk.0 in
    let there : slice_get c.walkers.items x.0 ≡ Some w = subst (λ (ws : List Walker). slice_get ws x.0 ≡ Some w) walkers note.walk.1.0 in
    let a = known x.0 (omega (arith, slice_get_within c.walkers.items x.0 w there, is.count)) in
    by_row w a.0 there a.1 note.walk.1.1 note.walk.1.2 (slice_get a.0 (after a.0 note.walk.1.1.word)) refl
    (is.same x.0 w a.0 there a.1 note.walk.1.1.word note.walk.1.1.scalars)
  where
    all_cells : List (ℕ × (ℕ × ℕ))
    all_cells = cells_from 0 (from / 64) (far / 64 - from / 64 + 1) r.automata

    by_row : (w : Walker) (a : List Row) → slice_get c.walkers.items x.0 ≡ Some w → slice_get r.automata x.0 ≡ Some a → (met : IsMet w x.1.0) → says w x.1.0 ≡ Neither
        → (o : Option Row) → slice_get a (after a met.word) ≡ o → IsSomeAnd o (λ r. r.kind ≡ says w (behind w met.word))
        → (y : ℕ × (ℕ × ℕ)) × (IsCellOf r c text x y × StandsIn (cells_from 0 (from / 64) (far / 64 - from / 64 + 1) r.automata) y)
    by_row w a walker_is automaton_is met opened None there none = absurd none
    by_row w a walker_is automaton_is met opened (Some row) there kind =
        let state = after a met.word in
        let low : from / 64 + (x.1.1 / 64 - from / 64) ≡ x.1.1 / 64 = omega (arith, note.above) in
        let mode : 0 + x.0 ≡ x.0 = omega arith in
        let cell : IsCellOf r c text x (x.0, (state, x.1.1 / 64)) = record {
          mode = refl;
          block = refl;
          crossing = note.crossing;
          walker = w;
          walker_is = walker_is;
          automaton = a;
          automaton_is = automaton_is;
          word = met.word;
          scalars = met.scalars;
          reached = met.reached;
          state = refl;
        } in
        let stands = at_mode 0 (from / 64) (far / 64 - from / 64 + 1) (x.1.1 / 64 - from / 64) state x.0 r.automata a row automaton_is there
        (kind ∙ ap (says w) (sym met.reached) ∙ opened) (omega (arith, note.above, note.below)) in
        ((x.0, (state, x.1.1 / 64)), (cell, subst (λ (b : ℕ). StandsIn all_cells (x.0, (state, b))) low (subst (λ (m : ℕ). StandsIn all_cells (m, (state, from / 64 + (x.1.1 / 64 - from / 64)))) mode stands)))

-- so the notes of a stretch are at most as many as there are open states, times the blocks of the stretch
notes_few : (r : ModeRules) (c d : Cutter) (at from far : ℕ) (text rest : List ℕ) (news : List (ℕ × (ℕ × ℕ))) → IsCutter r c at rest → d.walkers.items ≡ c.walkers.items
    → ((m : ℕ) → m < r.modes → (a : List Row) × (slice_get r.automata m ≡ Some a)) → All (IsNote d text from far) news → AreDistinct news
    → length news ≤ open_in_all r * (far / 64 - from / 64 + 1)
notes_few r c d at from far text rest news is walkers known all distinct =
    omega (
      arith,
      no_more (IsCellOf r c text) (one_note r c at text rest is) news (cells_from 0 (from / 64) (far / 64 - from / 64 + 1) r.automata) distinct
          (λ x there. cell_of r c d at from far text rest is walkers known x (All-contains (IsNote d text from far) news x all there)),
      count_from 0 (from / 64) (far / 64 - from / 64 + 1) r.automata,
    )

-- and what they pay for
pub notes_pay : (r : ModeRules) (c d : Cutter) (at from far : ℕ) (text rest : List ℕ) (news : List (ℕ × (ℕ × ℕ))) → IsCutter r c at rest → d.walkers.items ≡ c.walkers.items
    → ((m : ℕ) → m < r.modes → (a : List Row) × (slice_get r.automata m ≡ Some a)) → All (IsNote d text from far) news → AreDistinct news → from ≤ far
    → 128 * length news ≤ open_in_all r * (2 * (far - from) + 256)
notes_pay r c d at from far text rest news is walkers known all distinct order =
    let few = notes_few r c d at from far text rest news is walkers known all distinct in
    let blocks : 128 * (far / 64 - from / 64 + 1) ≤ 2 * (far - from) + 256 = omega (arith, order) in
    omega (arith, few, mul-le-mul_left (open_in_all r) blocks)
