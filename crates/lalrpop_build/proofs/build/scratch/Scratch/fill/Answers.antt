use Rattle.std.proofs.Common.{◌≡◌, ℕ, List, length, map, sym, subst, ◌∙◌}
use Rattle.std.specs.Prelude.{◌↔◌}
use Rattle.std.specs.List.{Contains}
use Rattle.std.specs.List.Sorted.{IsNonDecreasing, IsPermutation}
use Rattle.std.proofs.lemmas.List.Sorted.{IsNonDecreasingBy-from_sort, Contains-permutation, IsPermutation-sym}
use Rattle.lalrpop_build.specs.Internal.Alphabet.{HasState, HasBoundaryAt, Classes}
use Rattle.lalrpop_dfa.specs.Ascending.{Item}
use Rattle.lalrpop_dfa.specs.LiveItems.{live_of}
use Rattle.lalrpop_build.specs.Internal.Scratch.{AreTaken, IsScratchOf, StaysTidy}
use Rattle.lalrpop_build.specs.declared.build.scratch.Scratch.{Scratch}
use Rattle.lalrpop_build.specs.Internal.ClassTransitions.{AreBelow, AreGathered, AreBoundariesOf, IsLaidOut}
use Rattle.lalrpop_hir.proofs.Members.{has_at, contains_from}
use Rattle.lalrpop_build.proofs.LiveItems.{live_inside, partition_live, transitions_live}
use Rattle.lalrpop_build.proofs.LaidOut.{have_states, boundaries_below, laid_out}
use Rattle.lalrpop_build.specs.Internal.Blocks.{blocks_of}
use Rattle.lalrpop_build.proofs.BoundaryBlocks.{all_taken, blocks_partition}
use Rattle.lalrpop_build.proofs.build.scratch.Scratch.fill.Goals as goal

-- the same boundaries in another order
sorted_boundaries : (boundaries sorted : List ℕ) (P : ℕ → Type 0) → IsPermutation boundaries sorted → ((k : ℕ) → Contains boundaries k ↔ P k) → (k : ℕ) → Contains sorted k ↔ P k
sorted_boundaries boundaries sorted P same are k = (λ h. (are k).0 (Contains-permutation sorted boundaries k (IsPermutation-sym boundaries sorted same) h), λ h. Contains-permutation boundaries sorted k same ((are k).1 h))

pub gather-requires-clause-states : goal.gather-requires-clause-states
gather-requires-clause-states c =
    let live = live_of c.args.set.now in
    let inside = live_inside c.args.nfas.now c.args.set.now c.requires.inside in
    subst (λ (xs : List Item). (x : Item) → Contains xs x → HasState c.args.alphabet.now.nfas x.0 x.1) (sym c.live.ensures.value) (have_states c.args.nfas.now c.args.alphabet.now c.requires.alphabet live inside)

-- no boundary is present before
pub gather-requires-clause-marked : goal.gather-requires-clause-marked
gather-requires-clause-marked c = record {
  count = c.clear.ensures.groups ∙ c.requires.scratch.groups;
  marked = c.clear.ensures.cleared.tidy.marked;
  there = λ n k at boundary. absurd (c.clear.ensures.cleared.no_marks n at);
}

pub returns-clause-filled : goal.returns-clause-filled
returns-clause-filled c =
    let ns = c.args.nfas.now in
    let a = c.args.alphabet.now in
    let live = live_of c.args.set.now in
    let inside = live_inside ns c.args.set.now c.requires.inside in
    let boundaries = c.sort.new.self.items in
    let boundary : AreBoundariesOf a live boundaries = sorted_boundaries c.gather.new.boundaries.places.items boundaries (λ k. (x : Item) × (Contains live x × HasBoundaryAt a x.0 x.1 k)) c.in_ok-sort.ensures.permutation
    (subst (λ (xs : List Item). AreBoundariesOf a xs c.gather.new.boundaries.places.items) c.live.ensures.value c.in_ok-gather.ensures.boundaries) in
    let by_class = c.gather.new.edges.lists.items in
    let blocks = blocks_of a.cells by_class boundaries in
    let gathered : AreGathered a live by_class = subst (λ (xs : List Item). AreGathered a xs by_class) c.live.ensures.value c.in_ok-gather.ensures.classes in
    let laid : IsLaidOut ns live a.cells boundaries by_class = laid_out ns a c.requires.alphabet live inside boundaries by_class boundary gathered in
    let ascending : IsNonDecreasing boundaries = IsNonDecreasingBy-from_sort (λ (x : ℕ). x) boundaries c.in_ok-sort.ensures.sorted in
    let within : AreBelow (length a.cells) boundaries = boundaries_below a live boundaries c.requires.scratch.sound boundary in
    let taken : AreTaken a.cells by_class blocks = all_taken a.cells a.count c.requires.scratch.sound.cells boundaries ascending within by_class gathered.0 in
    record {
      sound = c.requires.scratch.sound;
      count = gathered.0;
      within = within;
      ranges = partition_live ns c.requires.automata c.args.set.now (map (λ b. b.range) blocks) (blocks_partition a.cells a.count c.requires.scratch.sound.cells boundaries ascending within by_class gathered.0 ns live laid);
      transitions = λ p b at.
          let (k, t, (in_cell, found, some)) = taken b (contains_from blocks b (has_at blocks p b at)) in
          (t, (found, transitions_live ns c.requires.automata c.args.set.now b.range.start t.list.items (laid.taken k b.class b.range.start t in_cell found)));
    }

-- the scratch stays one of the alphabet
scratch_stays : (a : Classes) (old cleared new : Scratch) → IsScratchOf a old → length cleared.edges.lists.items ≡ length old.edges.lists.items → length cleared.boundaries.marks.items ≡ length old.boundaries.marks.items
    → StaysTidy cleared.boundaries new.boundaries cleared.edges new.edges → IsScratchOf a new
scratch_stays a old cleared new was classes groups tidy = record {
  sound = was.sound;
  classes = tidy.classes ∙ (classes ∙ was.classes);
  groups = tidy.groups ∙ (groups ∙ was.groups);
  tidy = record { noted = tidy.noted; marked = tidy.marked };
}

pub returns-clause-scratch : goal.returns-clause-scratch
returns-clause-scratch c = scratch_stays c.args.alphabet.now c.args.self.now c.clear.new.self (record { boundaries = record c.gather.new.boundaries { places = c.sort.new.self }; edges = c.gather.new.edges }) c.requires.scratch c.clear.ensures.classes c.clear.ensures.groups
    (record { noted = c.in_ok-gather.ensures.tidy.noted; marked = c.in_ok-gather.ensures.tidy.marked; classes = c.in_ok-gather.ensures.tidy.classes; groups = c.in_ok-gather.ensures.tidy.groups })

pub returns-in_err-gather-clause-scratch : goal.returns-in_err-gather-clause-scratch
returns-in_err-gather-clause-scratch c = scratch_stays c.args.alphabet.now c.args.self.now c.clear.new.self (record { boundaries = c.gather.new.boundaries; edges = c.gather.new.edges }) c.requires.scratch c.clear.ensures.classes c.clear.ensures.groups c.in_err-gather.ensures.tidy

pub returns-in_err-sort-clause-scratch : goal.returns-in_err-sort-clause-scratch
returns-in_err-sort-clause-scratch c = scratch_stays c.args.alphabet.now c.args.self.now c.clear.new.self (record { boundaries = record c.gather.new.boundaries { places = c.sort.new.self }; edges = c.gather.new.edges }) c.requires.scratch c.clear.ensures.classes c.clear.ensures.groups
    (record { noted = c.in_ok-gather.ensures.tidy.noted; marked = c.in_ok-gather.ensures.tidy.marked; classes = c.in_ok-gather.ensures.tidy.classes; groups = c.in_ok-gather.ensures.tidy.groups })
