-- The whole edit: from the blocks of the text before to those of the new one.
use Rattle.std.proofs.Common.{◌≡◌, ℕ, zero, suc, ◌+◌, ◌-◌, ◌<◌, ◌≤◌, ◌^◌, ◌⊎◌, List, [], ◌∷◌, ◌++◌, length, take, drop, inl, inr, arith, refl, sym, ap, subst, ◌∙◌, append_assoc, length-append}
use Rattle.std.specs.Str.{IsUtf8, IsCharBoundary}
use Rattle.std.proofs.lemmas.Str.{IsCharBoundary-start}
use Rattle.std.proofs.lemmas.List.{take_at, drop_at, take-append-drop, drop_all, length-take-le, append-nil}
use Rattle.bajofeki_rules.specs.Stack.{Stack, start, actions_of}
use Rattle.lalrpop_rules.specs.Modes.{ModeRules, EachMode}
use Rattle.bajofeki_rules.specs.EnteredModes.{OneLeadsInto}
use Rattle.lalrpop_rules.proofs.ModeLaws.{act-keeps}
use Rattle.std.specs.Prelude.{Option, Some, None}
use Rattle.bajofeki.specs.Internal.Kept.{KeptUpTo, AreWithin, after_kept, after_rule, rule_of}
use Rattle.bajofeki.specs.declared.kept.Kept.{Kept}
use Rattle.bajofeki.specs.declared.block.Block.{Block}
use Rattle.bajofeki.specs.declared.change.Change.{Change}
use Rattle.bajofeki.specs.Internal.Cutting.{moved_place}
use Rattle.bajofeki.specs.Internal.Blocks.{AreBlocks, pieces_in, sizes, after_pieces, AreMarked, pieces_at, IsSpot}
use Rattle.bajofeki.specs.Internal.Meeting.{AreOld}
use Rattle.bajofeki.specs.Internal.BlockPlaces.{AreSameAround}
use Rattle.bajofeki.specs.Internal.Changing.{IsOld, IsKeptChange}
use Rattle.bajofeki.proofs.KeptLaws.{kept_join, kept_split, kept_boundary, kept_count}
use Rattle.bajofeki.proofs.Alike.{alike_less}
use Rattle.bajofeki.proofs.Edits.{edited_front, edited_behind, edited_length, edited_alike, edited_rest}
use Rattle.bajofeki.proofs.Starting.{within_size}
use Rattle.bajofeki.proofs.BlockLaws.{sizes_join, after_join, kept_sizes, kept_at, pieces_join, marked_join, marked_split, blocks_kept, blocks_marked, marked_blocks, spot_front, spot_behind}

-- ---- the modes of a stack are there

after_there : (r : ModeRules) (o : Option ℕ) (s : Stack) → ((i m : ℕ) → OneLeadsInto (actions_of r.actions i) m → m < r.modes) → EachMode (λ m. m < r.modes) s
    → EachMode (λ m. m < r.modes) (after_rule r.actions o s)
after_there r None s lead all = all
after_there r (Some i) s lead all = act-keeps (λ m. m < r.modes) (actions_of r.actions i) s (lead i) all

pub each_there : (r : ModeRules) (ks : List Kept) (s : Stack) → ((i m : ℕ) → OneLeadsInto (actions_of r.actions i) m → m < r.modes) → EachMode (λ m. m < r.modes) s
    → EachMode (λ m. m < r.modes) (after_pieces r ks s)
each_there r [] s lead all = all
each_there r (k ∷ ks) s lead all = each_there r ks (after_kept r k s) lead (after_there r (rule_of k) s lead all)

-- ---- what is known of the old blocks

module _ (r : ModeRules) (bs : List Block) (text : List ℕ) (from to size : ℕ) (before : List ℕ) (t : Stack) (old : IsOld r bs text from to size before t) where
  pub old_kept : KeptUpTo r before 0 start (pieces_in bs) (length before) t
  old_kept = blocks_kept r before 0 start bs (length before) t old.blocks

  pub old_marked : AreMarked r start bs
  old_marked = blocks_marked r before 0 start bs (length before) t old.blocks

  pub old_size : sizes (pieces_in bs) ≡ length before
  old_size = let e = kept_sizes r before 0 start (pieces_in bs) (length before) t old_kept in omega (arith, e.0)

  pub old_fits : sizes (pieces_in bs) < 2 ^ 63
  old_fits = omega (arith, old_size, old.fits)

  pub old_count : length (pieces_in bs) < 2 ^ 63
  old_count = omega (arith, kept_count r before 0 start (pieces_in bs) (length before) t old_kept, old.fits)

  pub old_from : from < 2 ^ 63
  old_from = omega (arith, old.edited.0, old.edited.1, old.fits)

  -- in front of a place, and after it
  pub front_kept : (n : ℕ) → KeptUpTo r before 0 start (take n (pieces_in bs)) (sizes (take n (pieces_in bs))) (after_pieces r (take n (pieces_in bs)) start)
  front_kept n =
      let p = kept_split r before 0 start (take n (pieces_in bs)) (drop n (pieces_in bs)) (length before) t
      (subst (λ (ks : List Kept). KeptUpTo r before 0 start ks (length before) t) (sym (take-append-drop n (pieces_in bs))) old_kept) in
      subst (λ (a : ℕ). KeptUpTo r before 0 start (take n (pieces_in bs)) a (after_pieces r (take n (pieces_in bs)) start)) (omega arith)
      (kept_at r before 0 start (take n (pieces_in bs)) p.0 p.1.0 p.1.1.0)

  pub behind_kept : (n : ℕ) → KeptUpTo r before (sizes (take n (pieces_in bs))) (after_pieces r (take n (pieces_in bs)) start) (drop n (pieces_in bs)) (length before) t
  behind_kept n =
      let p = kept_split r before 0 start (take n (pieces_in bs)) (drop n (pieces_in bs)) (length before) t
      (subst (λ (ks : List Kept). KeptUpTo r before 0 start ks (length before) t) (sym (take-append-drop n (pieces_in bs))) old_kept) in
      let e = kept_sizes r before 0 start (take n (pieces_in bs)) p.0 p.1.0 p.1.1.0 in
      subst (λ (a : ℕ). KeptUpTo r before a (after_pieces r (take n (pieces_in bs)) start) (drop n (pieces_in bs)) (length before) t) (omega (arith, e.0))
      (subst (λ (s : Stack). KeptUpTo r before p.0 s (drop n (pieces_in bs)) (length before) t) e.1 p.1.1.1)

  old_end : t ≡ after_pieces r (pieces_in bs) start
  old_end = (kept_sizes r before 0 start (pieces_in bs) (length before) t old_kept).1

  pub old_pieces : AreOld r text (record { from = from; to = to; size = size }) (pieces_in bs)
  old_pieces = record {
    within = omega (arith, old.edited.1, old_size);
    ends = omega (arith, edited_length before text from to size old.edited, old_size);
    behind = λ n le.
        subst (λ (s : Stack). KeptUpTo r text (moved_place from to size (sizes (take n (pieces_in bs)))) (after_pieces r (take n (pieces_in bs)) start) (drop n (pieces_in bs)) (length text) s) old_end
        (edited_behind r before text from to size (sizes (take n (pieces_in bs))) (after_pieces r (take n (pieces_in bs)) start) (drop n (pieces_in bs)) (length before) t old.edited le refl (behind_kept n));
  }

  -- the pieces that depend on nothing from `from` on are those of the new text
  pub front_stays : (n : ℕ) → AreWithin from 0 (take n (pieces_in bs))
      → KeptUpTo r text 0 start (take n (pieces_in bs)) (sizes (take n (pieces_in bs))) (after_pieces r (take n (pieces_in bs)) start)
  front_stays n within =
      edited_front r before text from to size start (take n (pieces_in bs)) (sizes (take n (pieces_in bs))) (after_pieces r (take n (pieces_in bs)) start) old.edited within (front_kept n)

  pub start_boundary : IsUtf8 text → (n : ℕ) → AreWithin from 0 (take n (pieces_in bs)) → IsCharBoundary text (sizes (take n (pieces_in bs)))
  start_boundary utf8 n within =
      kept_boundary r text 0 start (take n (pieces_in bs)) (sizes (take n (pieces_in bs))) (after_pieces r (take n (pieces_in bs)) start)
      (IsCharBoundary-start text utf8) utf8 (front_stays n within)

-- ---- the blocks that are put together

pub regroup : (front ks cut ls behind : List Kept) → front ++ ((ks ++ (cut ++ ls)) ++ behind) ≡ (front ++ ks) ++ (cut ++ (ls ++ behind))
regroup front ks cut ls behind = simp append_assoc

pieces_to : (bs : List Block) (n : ℕ) → pieces_in (take (suc n) bs) ≡ pieces_in (take n bs) ++ pieces_at bs n
pieces_to [] zero = refl
pieces_to [] (suc n) = refl
pieces_to (b ∷ bs) zero = append-nil b.pieces.items
pieces_to (b ∷ bs) (suc n) =
    ap (λ (ks : List Kept). b.pieces.items ++ ks) (pieces_to bs n) ∙ sym (append_assoc b.pieces.items (pieces_in (take n bs)) (pieces_at bs n))

-- the pieces of the blocks that change are some of all
pub joined_fit : (bs : List Block) (cut : List Kept) (f p c l q d : ℕ) → IsSpot bs f p c → IsSpot bs l q d
    → sizes (pieces_in (take f bs)) + sizes (take p (pieces_at bs f) ++ (cut ++ drop q (pieces_at bs l))) ≤ sizes (take c (pieces_in bs) ++ (cut ++ drop d (pieces_in bs)))
joined_fit bs cut f p c l q d first last =
    omega (
      arith,
      sizes_join (take p (pieces_at bs f)) (cut ++ drop q (pieces_at bs l)),
      sizes_join cut (drop q (pieces_at bs l)),
      sizes_join (take c (pieces_in bs)) (cut ++ drop d (pieces_in bs)),
      sizes_join cut (drop d (pieces_in bs)),
      ap sizes (spot_front bs f p c first),
      sizes_join (pieces_in (take f bs)) (take p (pieces_at bs f)),
      ap sizes (spot_behind bs l q d last),
      sizes_join (drop q (pieces_at bs l)) (pieces_in (drop (suc l) bs)),
    )

-- after the block of the last spot
pub ends_same : (bs : List Block) (l e : ℕ) → (e ≡ l + 1) ⊎ ((length bs ≤ l) × (length bs ≤ e)) → drop e bs ≡ drop (suc l) bs
ends_same bs l e (inl is) = let same : e ≡ suc l = omega (arith, is) in ap (λ (n : ℕ). drop n bs) same
ends_same bs l e (inr past) = drop_all e bs past.1 ∙ sym (drop_all (suc l) bs (omega (arith, past.0)))

-- the blocks in front of the first spot's, those that were made, and those after the last spot's
module _ (bs made : List Block) (cut : List Kept) (f p c l q d e : ℕ) (first : IsSpot bs f p c) (last : IsSpot bs l q d) (ends : drop e bs ≡ drop (suc l) bs)
    (items : pieces_in made ≡ take p (pieces_at bs f) ++ (cut ++ drop q (pieces_at bs l))) where
  pub joined_pieces : pieces_in (take f bs ++ (made ++ drop e bs)) ≡ take c (pieces_in bs) ++ (cut ++ drop d (pieces_in bs))
  joined_pieces =
      pieces_join (take f bs) (made ++ drop e bs)
      ∙ ap (λ (ks : List Kept). pieces_in (take f bs) ++ ks) (pieces_join made (drop e bs)
      ∙ ap (λ (ks : List Kept). ks ++ pieces_in (drop e bs)) items
      ∙ ap (λ (cs : List Block). (take p (pieces_at bs f) ++ (cut ++ drop q (pieces_at bs l))) ++ pieces_in cs) ends)
      ∙ regroup (pieces_in (take f bs)) (take p (pieces_at bs f)) cut (drop q (pieces_at bs l)) (pieces_in (drop (suc l) bs))
      ∙ ap (λ (ks : List Kept). ks ++ (cut ++ (drop q (pieces_at bs l) ++ pieces_in (drop (suc l) bs)))) (sym (spot_front bs f p c first))
      ∙ ap (λ (ks : List Kept). take c (pieces_in bs) ++ (cut ++ ks)) (sym (spot_behind bs l q d last))

  -- and what the blocks say is true, if the stacks are the same after them, or no block is there
  module _ (r : ModeRules) where
    stack_behind : after_pieces r (take c (pieces_in bs) ++ cut) start ≡ after_pieces r (take d (pieces_in bs)) start
        → after_pieces r (pieces_in made) (after_pieces r (pieces_in (take f bs)) start) ≡ after_pieces r (pieces_in (take (suc l) bs)) start
    stack_behind met =
        ap (λ (ks : List Kept). after_pieces r ks (after_pieces r (pieces_in (take f bs)) start)) items
        ∙ after_join r (take p (pieces_at bs f)) (cut ++ drop q (pieces_at bs l)) (after_pieces r (pieces_in (take f bs)) start)
        ∙ ap (λ (s : Stack). after_pieces r (cut ++ drop q (pieces_at bs l)) s)
        (sym (after_join r (pieces_in (take f bs)) (take p (pieces_at bs f)) start) ∙ ap (λ (ks : List Kept). after_pieces r ks start) (sym (spot_front bs f p c first)))
        ∙ after_join r cut (drop q (pieces_at bs l)) (after_pieces r (take c (pieces_in bs)) start)
        ∙ ap (λ (s : Stack). after_pieces r (drop q (pieces_at bs l)) s)
        (sym (after_join r (take c (pieces_in bs)) cut start) ∙ met ∙ ap (λ (ks : List Kept). after_pieces r ks start) (spot_front bs l q d last))
        ∙ sym (after_join r (pieces_in (take l bs) ++ take q (pieces_at bs l)) (drop q (pieces_at bs l)) start)
        ∙ ap (λ (ks : List Kept). after_pieces r ks start)
        (append_assoc (pieces_in (take l bs)) (take q (pieces_at bs l)) (drop q (pieces_at bs l))
        ∙ ap (λ (ks : List Kept). pieces_in (take l bs) ++ ks) (take-append-drop q (pieces_at bs l)) ∙ sym (pieces_to bs l))

    rest_marked : AreMarked r start bs → (length bs ≤ l) ⊎ (after_pieces r (take c (pieces_in bs) ++ cut) start ≡ after_pieces r (take d (pieces_in bs)) start)
        → AreMarked r (after_pieces r (pieces_in made) (after_pieces r (pieces_in (take f bs)) start)) (drop e bs)
    rest_marked all (inl none) =
        subst (λ (cs : List Block). AreMarked r (after_pieces r (pieces_in made) (after_pieces r (pieces_in (take f bs)) start)) cs) (sym (ends ∙ drop_all (suc l) bs (omega arith))) tt
    rest_marked all (inr met) =
        let split = marked_split r start (take (suc l) bs) (drop (suc l) bs) (subst (λ (cs : List Block). AreMarked r start cs) (sym (take-append-drop (suc l) bs)) all) in
        subst (λ (cs : List Block). AreMarked r (after_pieces r (pieces_in made) (after_pieces r (pieces_in (take f bs)) start)) cs) (sym ends)
        (subst (λ (s : Stack). AreMarked r s (drop (suc l) bs)) (sym (stack_behind met)) split.1)

    pub joined_marked : AreMarked r start bs → AreMarked r (after_pieces r (pieces_in (take f bs)) start) made
        → (length bs ≤ l) ⊎ (after_pieces r (take c (pieces_in bs) ++ cut) start ≡ after_pieces r (take d (pieces_in bs)) start)
        → AreMarked r start (take f bs ++ (made ++ drop e bs))
    joined_marked all here met =
        let split = marked_split r start (take f bs) (drop f bs) (subst (λ (cs : List Block). AreMarked r start cs) (sym (take-append-drop f bs)) all) in
        marked_join r start (take f bs) (made ++ drop e bs) split.0
        (marked_join r (after_pieces r (pieces_in (take f bs)) start) made (drop e bs) here (rest_marked all met))

-- ---- the change

-- the first c pieces stay, then d - c went and others were cut, and the rest stay
module _ (r : ModeRules) (bs : List Block) (text : List ℕ) (from to size : ℕ) (before : List ℕ) (t : Stack) (old : IsOld r bs text from to size before t)
    (c d : ℕ) (cut : List Kept) (at : ℕ) (s : Stack) (within : AreWithin from 0 (take c (pieces_in bs)))
    (are : KeptUpTo r text (sizes (take c (pieces_in bs))) (after_pieces r (take c (pieces_in bs)) start) cut at s) where
  front_cut : KeptUpTo r text 0 start (take c (pieces_in bs) ++ cut) at s
  front_cut =
      kept_join r text 0 start (take c (pieces_in bs)) (sizes (take c (pieces_in bs))) (after_pieces r (take c (pieces_in bs)) start) cut at s
      (front_stays r bs text from to size before t old c within) are

  -- the texts are the same in front of what was cut, and after it
  pub same_around : to ≤ sizes (take d (pieces_in bs)) → moved_place from to size (sizes (take d (pieces_in bs))) ≡ at
      → AreSameAround before text (sizes (take c (pieces_in bs))) (sizes (take d (pieces_in bs))) (sizes (take c (pieces_in bs) ++ cut))
  same_around replaced moved =
      let ends : at ≡ sizes (take c (pieces_in bs) ++ cut) = omega (arith, (kept_sizes r text 0 start (take c (pieces_in bs) ++ cut) at s front_cut).0) in
      record {
        front =
            alike_less (sizes (take c (pieces_in bs))) from before text (omega (arith, within_size from 0 (take c (pieces_in bs)) (omega arith) within))
            (edited_alike before text from to size old.edited);
        behind = edited_rest before text from to size (sizes (take d (pieces_in bs))) old.edited replaced ∙ ap (λ (n : ℕ). drop n text) (moved ∙ ends);
      }

  pub all_kept : (u : Stack) → KeptUpTo r text at s (drop d (pieces_in bs)) (length text) u
      → KeptUpTo r text 0 start (take c (pieces_in bs) ++ (cut ++ drop d (pieces_in bs))) (length text) u
  all_kept u behind =
      subst (λ (ks : List Kept). KeptUpTo r text 0 start ks (length text) u) (append_assoc (take c (pieces_in bs)) cut (drop d (pieces_in bs)))
      (kept_join r text 0 start (take c (pieces_in bs) ++ cut) at s (drop d (pieces_in bs)) (length text) u front_cut behind)

  -- there are as many bytes as the text has
  pub all_sizes : (u : Stack) → KeptUpTo r text at s (drop d (pieces_in bs)) (length text) u
      → sizes (take c (pieces_in bs) ++ (cut ++ drop d (pieces_in bs))) ≡ length text
  all_sizes u behind =
      omega (arith, (kept_sizes r text 0 start (take c (pieces_in bs) ++ (cut ++ drop d (pieces_in bs))) (length text) u (all_kept u behind)).0)

  -- and the stack there is the one that the old pieces leave
  pub stacks_meet : (v : Stack) → v ≡ after_pieces r (take d (pieces_in bs)) start → v ≡ s
      → after_pieces r (take c (pieces_in bs) ++ cut) start ≡ after_pieces r (take d (pieces_in bs)) start
  stacks_meet v is meets = sym (kept_sizes r text 0 start (take c (pieces_in bs) ++ cut) at s front_cut).1 ∙ sym meets ∙ is

  -- the blocks that have them
  module _ (new : List Block) (is : pieces_in new ≡ take c (pieces_in bs) ++ (cut ++ drop d (pieces_in bs))) where
    pub new_blocks : (u : Stack) → AreMarked r start new → KeptUpTo r text at s (drop d (pieces_in bs)) (length text) u → AreBlocks r text 0 start new (length text) u
    new_blocks u marked behind =
        marked_blocks r text 0 start new (length text) u marked
        (subst (λ (ks : List Kept). KeptUpTo r text 0 start ks (length text) u) (sym is) (all_kept u behind))

    apart : pieces_in new ≡ (take c (pieces_in bs) ++ cut) ++ drop d (pieces_in bs)
    apart = is ∙ sym (append_assoc (take c (pieces_in bs)) cut (drop d (pieces_in bs)))

    pub changed : c ≤ d → d ≤ length (pieces_in bs) → to ≤ sizes (take d (pieces_in bs)) → moved_place from to size (sizes (take d (pieces_in bs))) ≡ at → (change : Change) → change.first ≡ c → change.removed ≡ d - c → change.inserted ≡ length cut
        → change.start ≡ sizes (take c (pieces_in bs)) → change.old_end ≡ sizes (take d (pieces_in bs)) → change.new_end ≡ at
        → IsKeptChange r before text (pieces_in bs) (pieces_in new) change
    changed order last replaced moved change first removed inserted starts old_ends new_ends =
        let size_front : length (take c (pieces_in bs)) ≡ c = length-take-le c (pieces_in bs) (omega (arith, order, last)) in
        let size_cut : length (take c (pieces_in bs) ++ cut) ≡ change.first + change.inserted =
        omega (arith, length-append (take c (pieces_in bs)) cut, size_front, first, inserted) in
        let to_last : change.first + change.removed ≡ d = omega (arith, first, removed, order) in
        record {
          removed = omega (arith, to_last, last);
          inserted = omega (arith, size_cut, ap length apart, length-append (take c (pieces_in bs) ++ cut) (drop d (pieces_in bs)));
          front =
              ap (λ (n : ℕ). take n (pieces_in new)) first ∙ ap (take c) is ∙ take_at (take c (pieces_in bs)) (cut ++ drop d (pieces_in bs)) c size_front
              ∙ ap (λ (n : ℕ). take n (pieces_in bs)) (sym first);
          behind =
              ap (drop (change.first + change.inserted)) apart ∙ drop_at (take c (pieces_in bs) ++ cut) (drop d (pieces_in bs)) (change.first + change.inserted) size_cut
              ∙ ap (λ (n : ℕ). drop n (pieces_in bs)) (sym to_last);
          starts = (
            after_pieces r (take change.first (pieces_in bs)) start,
            subst (λ (a : ℕ). KeptUpTo r before 0 start (take change.first (pieces_in bs)) a (after_pieces r (take change.first (pieces_in bs)) start))
                (ap (λ (n : ℕ). sizes (take n (pieces_in bs))) first ∙ sym starts) (front_kept r bs text from to size before t old change.first),
          );
          old_ends = (
            after_pieces r (take (change.first + change.removed) (pieces_in bs)) start,
            subst (λ (a : ℕ). KeptUpTo r before 0 start (take (change.first + change.removed) (pieces_in bs)) a (after_pieces r (take (change.first + change.removed) (pieces_in bs)) start))
                (ap (λ (n : ℕ). sizes (take n (pieces_in bs))) to_last ∙ sym old_ends) (front_kept r bs text from to size before t old (change.first + change.removed)),
          );
          new_ends = (
            s,
            subst (λ (a : ℕ). KeptUpTo r text 0 start (take (change.first + change.inserted) (pieces_in new)) a s) (sym new_ends)
                (subst (λ (ks : List Kept). KeptUpTo r text 0 start ks at s)
                (sym (ap (take (change.first + change.inserted)) apart ∙ take_at (take c (pieces_in bs) ++ cut) (drop d (pieces_in bs)) (change.first + change.inserted) size_cut)) front_cut),
          );
          same_front = ap (λ (n : ℕ). take n before) starts ∙ (same_around replaced moved).front ∙ ap (λ (n : ℕ). take n text) (sym starts);
          same_behind =
              ap (λ (n : ℕ). drop n before) old_ends ∙ edited_rest before text from to size (sizes (take d (pieces_in bs))) old.edited replaced
              ∙ ap (λ (n : ℕ). drop n text) (moved ∙ sym new_ends);
        }
