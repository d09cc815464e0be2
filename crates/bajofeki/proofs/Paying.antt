-- What pieces cost, one after another, and what the whole edit costs.
use Rattle.std.proofs.Common.{◌≡◌, ℕ, ◌+◌, ◌-◌, ◌<◌, ◌≤◌, ◌⊎◌, inl, inr, List, [], ◌++◌, length, drop, refl, sym, ap, subst, arith, length-append}
use Rattle.std.specs.Prelude.{Option, Some, None, slice_get}
use Rattle.std.specs.Str.{IsCharBoundary}
use Rattle.std.proofs.lemmas.Bool.{cases_order}
use Rattle.std.proofs.lemmas.List.Elements.{All-nil, All-append, All-contains, All-weaker}
use Rattle.lalrpop_hir.proofs.Longests.{longest-unique}
use Rattle.lalrpop_dfa.specs.Dfa.{Row}
use Rattle.lalrpop_rules.proofs.FirstMatches.{some_length}
use Rattle.lalrpop_rules.specs.Modes.{ModeRules, trees_in}
use Rattle.bajofeki.specs.Costs.{IsPaidFor}
use Rattle.bajofeki.specs.Lexed.{ReadsTo}
use Rattle.bajofeki.specs.Internal.Kept.{IsKept, IsFront, rule_of}
use Rattle.bajofeki.specs.Internal.Noted.{IsCutter, IsKnown}
use Rattle.bajofeki.specs.Internal.Paying.{IsOwed, IsNote, size_of, IsPiecePaid, IsCutPaid}
use Rattle.bajofeki.specs.declared.change.Change.{Change}
use Rattle.bajofeki.specs.declared.cutter.Cutter.{Cutter}
use Rattle.bajofeki.specs.declared.kept.Kept.{Kept}
use Rattle.bajofeki.specs.declared.place.Place.{Place}
use Rattle.bajofeki.specs.declared.walker.Walker.{Walker}
use Rattle.bajofeki.proofs.Distinct.{distinct_both}
use Rattle.bajofeki.proofs.NoteCounts.{notes_pay}

-- ---- what is owed

-- what is owed at a place is no more than the size of the piece there
owed_size : (r : ModeRules) (text : List ℕ) (p : Place) (k : Kept) (far n : ℕ) → IsKept r p.stack.mode (drop p.at text) k → IsOwed r text p far n → n ≤ k.size
owed_size r text p k far n kept (inl none) = omega (arith, none)
owed_size r text p k far n kept (inr (within, (i, (slice, (size, longest))))) =
    let found = kept.front (drop p.at text) refl in
    omega (arith, size, found.1.0, by_rule (rule_of k) found.0 found.1.1)
  where
    by_rule : (o : Option ℕ) (own : List ℕ) → IsFront (trees_in r p.stack.mode) r.precedences (drop p.at text) o own → length slice ≤ length own
    by_rule None own fault = absurd (fault.nothing 0 (some_length own fault.some) (slice, longest.0))
    by_rule (Some j) own front =
        omega (
          arith,
          ap size_of (longest-unique (trees_in r p.stack.mode) r.precedences (drop p.at text) (Some (i, slice)) (Some (j, own)) longest front.0),
        )

owed_further : (r : ModeRules) (text : List ℕ) (p : Place) (far most n : ℕ) → far ≤ most → IsOwed r text p far n → IsOwed r text p most n
owed_further r text p far most n le (inl none) = inl none
owed_further r text p far most n le (inr owed) = inr (omega (arith, le, owed.0), owed.1)

-- ---- notes

-- a note of a later memo, and of a wider stretch
note_further : (c d : Cutter) (text : List ℕ) (from start far most : ℕ) → d.walkers.items ≡ c.walkers.items → ((m p e : ℕ) → IsKnown c.memo m p e → IsKnown d.memo m p e)
    → from ≤ start → far ≤ most → (x : ℕ × (ℕ × ℕ)) → IsNote c text start far x → IsNote d text from most x
note_further c d text from start far most walkers stays before behind x note = record {
  walk = (note.walk.0, (subst (λ (ws : List Walker). slice_get ws x.0 ≡ Some note.walk.0) (sym walkers) note.walk.1.0, note.walk.1.1, note.walk.1.2));
  above = omega (arith, before, note.above);
  below = omega (arith, behind, note.below);
  crossing = note.crossing;
  known = stays x.0 x.1.0 x.1.1 note.known;
}

-- ---- piece by piece

-- nothing is cut yet
pub none_paid : (r : ModeRules) (c : Cutter) (text : List ℕ) (p : Place) (steps : ℕ) → IsCharBoundary text p.at → IsCutPaid r c text p p steps steps [] p.at
none_paid r c text p steps boundary = record {
  order = omega arith;
  boundary = boundary;
  past = omega arith;
  reads = inl refl;
  each = All-nil (IsNote c text p.at p.at);
  distinct = tt;
  cost = (0, (inl refl, omega arith));
}

-- so far, and one more piece
module _ (r : ModeRules) (c d : Cutter) (text : List ℕ) (from here next : Place) (k : Kept) (before mid after : ℕ) (news more : List (ℕ × (ℕ × ℕ))) (far reach : ℕ)
    (walkers : d.walkers.items ≡ c.walkers.items) (stays : (m p e : ℕ) → IsKnown c.memo m p e → IsKnown d.memo m p e)
    (kept : IsKept r here.stack.mode (drop here.at text) k) (ends : next.at ≡ here.at + k.size)
    (cut : IsCutPaid r c text from here before mid news far) (piece : IsPiecePaid r c d text here next mid after more reach) where
  paid_to : (most : ℕ) → IsCharBoundary text most → far ≤ most → reach ≤ most
      → (most ≡ next.at) ⊎ ((mode k : ℕ) × ((from.at ≤ k) × (k ≤ next.at) × IsCharBoundary text k × ReadsTo (trees_in r mode) text k most))
      → IsCutPaid r d text from next before after (more ++ news) most
  paid_to most boundary le less reads = record {
    order = omega (arith, cut.order, ends);
    boundary = boundary;
    past = omega (arith, piece.past, less);
    reads = reads;
    each =
        All-append (IsNote d text from.at most) more news
        (All-weaker (IsNote d text here.at reach) (IsNote d text from.at most) (note_further d d text from.at here.at reach most refl (λ m p e known. known) cut.order less) more piece.each)
        (All-weaker (IsNote c text from.at far) (IsNote d text from.at most) (note_further c d text from.at from.at far most walkers stays (omega arith) le) news cut.each);
    distinct =
        distinct_both more news piece.distinct cut.distinct
        (λ x new old. All-contains (λ x. ¬ IsKnown c.memo x.0 x.1.0 x.1.1) more x piece.unknown new (All-contains (IsNote c text from.at far) news x cut.each old).known);
    cost = (
      piece.cost.0,
      (
        owed_further r text next reach most piece.cost.0 less piece.cost.1.0,
        omega (arith, cut.order, ends, cut.cost.1.1, piece.cost.1.1, owed_size r text here k far cut.cost.0 kept cut.cost.1.0, length-append more news),
      ),
    );
  }

  pub more_paid : (most : ℕ) × IsCutPaid r d text from next before after (more ++ news) most
  more_paid = elim (cases_order far reach) [
    | inl same ↦ (reach, paid_to reach piece.boundary (omega (arith, same)) (omega arith) reads_piece)
    | inr (inl less) ↦ (reach, paid_to reach piece.boundary (omega (arith, less)) (omega arith) reads_piece)
    | inr (inr further) ↦ (far, paid_to far cut.boundary (omega arith) (omega (arith, further)) (reads_cut further cut.reads))
  ]
    where
      reads_piece : (reach ≡ next.at) ⊎ ((mode k : ℕ) × ((from.at ≤ k) × (k ≤ next.at) × IsCharBoundary text k × ReadsTo (trees_in r mode) text k reach))
      reads_piece = elim piece.reads [
        | inl here ↦ inl here
        | inr reads ↦ inr (here.stack.mode, reads.0, (omega (arith, cut.order, reads.1.0), reads.1.1, reads.1.2, reads.1.3))
      ]

      reads_cut : reach < far → (far ≡ here.at) ⊎ ((mode k : ℕ) × ((from.at ≤ k) × (k ≤ here.at) × IsCharBoundary text k × ReadsTo (trees_in r mode) text k far))
          → (far ≡ next.at) ⊎ ((mode k : ℕ) × ((from.at ≤ k) × (k ≤ next.at) × IsCharBoundary text k × ReadsTo (trees_in r mode) text k far))
      reads_cut further (inl here) = absurd (omega (arith, further, here, piece.past, ends))
      reads_cut further (inr reads) = inr (reads.0, reads.1, (reads.2.0, omega (arith, reads.2.1, ends), reads.2.2, reads.2.3))

-- ---- the whole edit

-- the notes pay for what was read in vain
pub all_paid : (r : ModeRules) (c d : Cutter) (text rest : List ℕ) (from to : Place) (at before after : ℕ) (news : List (ℕ × (ℕ × ℕ))) (far : ℕ) (change : Change)
    → IsCutter r c at rest → d.walkers.items ≡ c.walkers.items → ((m : ℕ) → m < r.modes → (a : List Row) × (slice_get r.automata m ≡ Some a))
    → IsCutPaid r d text from to before after news far → change.start ≡ from.at → change.new_end ≡ to.at
    → IsPaidFor (record { rules = r; text = text }) change before after
all_paid r c d text rest from to at before after news far change is walkers known paid starts ends =
    let notes = notes_pay r c d at from.at far text rest news is walkers known paid.each paid.distinct (omega (arith, paid.order, paid.past)) in
    let owed = at_most paid.cost.0 paid.cost.1.0 in
    rw (starts, ends) (far, (record { boundary = paid.boundary; past = paid.past; reads = paid.reads }, omega (arith, paid.order, paid.past, paid.cost.1.1, owed, notes)))
  where
    at_most : (n : ℕ) → IsOwed r text to far n → n ≤ far - to.at
    at_most n (inl none) = omega (arith, none)
    at_most n (inr owed) = omega (arith, owed.0)
