-- Where pieces are cut anew from: at the first one that depends on something from a place on.
use Rattle.std.proofs.Common.{◌≡◌, ℕ, suc, ◌+◌, ◌-◌, ◌<◌, ◌≤◌, ◌⊎◌, inl, inr, get_or, List, [], ◌∷◌, ◌++◌, length, take, drop, arith, refl, sym, ap, subst, ◌∙◌, length-append}
use Rattle.std.specs.Prelude.{slice_get, Some}
use Rattle.std.proofs.lemmas.Option.{none-some, unwrap_or-slice_get}
use Rattle.std.specs.Option.{unwrap_or}
use Rattle.std.proofs.lemmas.Bool.{cases_lt}
use Rattle.std.proofs.lemmas.List.{take_all, drop_all, length-drop}
use Rattle.bajofeki_rules.specs.Stack.{Stack, start}
use Rattle.lalrpop_rules.specs.Modes.{ModeRules}
use Rattle.bajofeki.specs.Internal.Kept.{AreWithin, reach_of}
use Rattle.bajofeki.specs.declared.kept.Kept.{Kept}
use Rattle.bajofeki.specs.declared.block.Block.{Block}
use Rattle.bajofeki.specs.declared.place.Place.{Place}
use Rattle.bajofeki.specs.declared.meet.Spot.{Spot}
use Rattle.bajofeki.specs.Internal.Blocks.{pieces_in, sizes, after_pieces, IsMarked, AreMarked, pieces_at, IsSpot}
use Rattle.bajofeki.specs.Internal.Starting.{IsFirst, IsStart}
use Rattle.bajofeki.proofs.KeptLaws.{within_more}
use Rattle.bajofeki.proofs.BlockLaws.{sizes_join, after_join, from_place, to_place, pieces_more, pieces_front, marked_at, block_at, spot_front, spot_behind, got_behind}

-- what is read by its number
pub got : {X : Type 0} (xs : List X) (n : ℕ) (x d : X) → slice_get xs n ≡ Some x → get_or xs n d ≡ x
got xs n x d at = sym (unwrap_or-slice_get xs n d) ∙ ap (λ o. unwrap_or o d) at

-- pieces that depend on no more than so many bytes end before
pub within_size : (n at : ℕ) (ks : List Kept) → at ≤ n → AreWithin n at ks → at + sizes ks ≤ n
within_size n at [] le are = omega (arith, le)
within_size n at (k ∷ ks) le are = omega (arith, within_size n (at + k.size) ks (omega (arith, are.0)) are.1)

pub within_append : (n at : ℕ) (ks ls : List Kept) → AreWithin n at ks → AreWithin n (at + sizes ks) ls → AreWithin n at (ks ++ ls)
within_append n at [] ls are more = subst (λ (a : ℕ). AreWithin n a ls) (omega arith) more
within_append n at (k ∷ ks) ls are more =
    (are.0, within_append n (at + k.size) ks ls are.1 (subst (λ (a : ℕ). AreWithin n a ls) (omega arith) more))

-- ---- one block further

pub sizes_to : (bs : List Block) (n : ℕ) (b : Block) → b ≡ get_or bs n b → n < length bs
    → sizes (pieces_in (take (n + 1) bs)) ≡ sizes (pieces_in (take n bs)) + sizes b.pieces.items
sizes_to bs n b is lt =
    ap sizes (pieces_more bs n b lt) ∙ sizes_join (pieces_in (take n bs)) (get_or bs n b).pieces.items
    ∙ ap (λ (x : Block). sizes (pieces_in (take n bs)) + sizes x.pieces.items) (sym is)

pub counts_to : (bs : List Block) (n : ℕ) (b : Block) → b ≡ get_or bs n b → n < length bs
    → length (pieces_in (take (n + 1) bs)) ≡ length (pieces_in (take n bs)) + length b.pieces.items
counts_to bs n b is lt =
    ap length (pieces_more bs n b lt) ∙ length-append (pieces_in (take n bs)) (get_or bs n b).pieces.items
    ∙ ap (λ (x : Block). length (pieces_in (take n bs)) + length x.pieces.items) (sym is)

pub sizes_within : (bs : List Block) (n : ℕ) → sizes (pieces_in (take n bs)) ≤ sizes (pieces_in bs)
sizes_within bs n = omega (arith, ap sizes (pieces_front bs n), sizes_join (pieces_in (take n bs)) (pieces_in (drop n bs)))

pub counts_within : (bs : List Block) (n : ℕ) → length (pieces_in (take n bs)) ≤ length (pieces_in bs)
counts_within bs n = omega (arith, ap length (pieces_front bs n), length-append (pieces_in (take n bs)) (pieces_in (drop n bs)))

pub marked_here : (r : ModeRules) (s : Stack) (bs : List Block) (n : ℕ) (b : Block) → b ≡ get_or bs n b → n < length bs → AreMarked r s bs
    → IsMarked (after_pieces r (pieces_in (take n bs)) s) b
marked_here r s bs n b is lt are = subst (λ (x : Block). IsMarked (after_pieces r (pieces_in (take n bs)) s) x) (sym is) (marked_at r s bs n b lt are)

pub first_next : (bs : List Block) (from : ℕ) (p : Spot) (place m : ℕ) (s : Stack) (b : Block) → IsFirst bs from p place → b ≡ get_or bs p.block b
    → p.block + 1 < length bs → IsMarked s b → b.reach ≤ from - place → m ≡ length b.pieces.items
    → IsFirst bs from (record { block = p.block + 1; piece = p.piece; count = p.count + m }) (place + b.size)
first_next bs from p place m s b is at lt marked fits count =
    let here : place ≤ from = omega (arith, is.at, within_size from 0 (pieces_in (take p.block bs)) (omega arith) is.within) in
    let there : p.block < length bs = omega (arith, lt) in
    record {
      spot = record {
        block_in = omega (arith, lt);
        piece_in = omega (arith, is.begins);
        count_is = omega (arith, is.spot.count_is, is.begins, count, counts_to bs p.block b at there);
      };
      begins = is.begins;
      there = λ _. lt;
      at = omega (arith, is.at, marked.size, sizes_to bs p.block b at there);
      within =
          subst (AreWithin from 0) (sym (pieces_more bs p.block b there ∙ ap (λ (x : Block). pieces_in (take p.block bs) ++ x.pieces.items) (sym at)))
          (within_append from 0 (pieces_in (take p.block bs)) b.pieces.items is.within
          (subst (λ (a : ℕ). AreWithin from a b.pieces.items) (omega (arith, is.at))
          (within_more (place + b.reach) from place b.pieces.items (omega (arith, fits, here)) (to_place b.reach place b.pieces.items marked.within))));
    }

-- ---- the start

-- it is in front of the first piece that depends on something from `from` on, or after all pieces
module _ (bs : List Block) (block piece count from at : ℕ) (b : Block) (s : Stack) (spot : IsSpot bs block piece count) (is : pieces_at bs block ≡ b.pieces.items)
    (here : at ≤ from) (marked : IsMarked s b) (within : AreWithin from at (take piece b.pieces.items))
    (stops : block + 1 < length bs → from < at + b.reach) where
  -- all pieces of the block stay: so it is the last
  is_last : length b.pieces.items ≤ piece → length bs ≤ suc block
  is_last all = by_size (cases_lt (suc block) (length bs))
    where
      never : suc block < length bs → ⊥
      never lt =
          let whole : AreWithin from at b.pieces.items = subst (AreWithin from at) (take_all piece b.pieces.items all) within in
          let less : b.reach ≤ from - at =
          marked.least (from - at) (from_place (from - at) at b.pieces.items (subst (λ (n : ℕ). AreWithin n at b.pieces.items) (omega (arith, here)) whole)) in
          omega (arith, less, here, stops (omega (arith, lt)))

      by_size : (suc block < length bs) ⊎ (length bs ≤ suc block) → length bs ≤ suc block
      by_size (inl lt) = absurd (never lt)
      by_size (inr le) = le

  pub start_first : ((k : Kept) → slice_get b.pieces.items piece ≡ Some k → from < at + sizes (take piece b.pieces.items) + reach_of k)
      → (k : Kept) → slice_get (pieces_in bs) count ≡ Some k → from < at + sizes (take piece b.pieces.items) + reach_of k
  start_first next k got =
      by_rest (drop piece b.pieces.items) refl
    where
      to_rest : slice_get (drop piece b.pieces.items ++ pieces_in (drop (suc block) bs)) 0 ≡ Some k
      to_rest =
          ap (λ (ks : List Kept). slice_get (drop piece ks ++ pieces_in (drop (suc block) bs)) 0) (sym is)
          ∙ ap (λ (ks : List Kept). slice_get ks 0) (sym (spot_behind bs block piece count spot)) ∙ sym (got_behind (pieces_in bs) count) ∙ got

      by_rest : (ls : List Kept) → drop piece b.pieces.items ≡ ls → from < at + sizes (take piece b.pieces.items) + reach_of k
      by_rest [] e =
          let all : length b.pieces.items ≤ piece = omega (arith, ap length e, length-drop piece b.pieces.items) in
          let none : slice_get ([] ++ pieces_in []) 0 ≡ Some k =
          ap (λ (ks : List Kept). slice_get (ks ++ pieces_in []) 0) (sym e)
          ∙ ap (λ (cs : List Block). slice_get (drop piece b.pieces.items ++ pieces_in cs) 0) (sym (drop_all (suc block) bs (is_last all))) ∙ to_rest in
          absurd (none-some k none)
      by_rest (l ∷ ls) e =
          next k (got_behind b.pieces.items piece ∙ ap (λ (ks : List Kept). slice_get ks 0) e
          ∙ ap (λ (ks : List Kept). slice_get (ks ++ pieces_in (drop (suc block) bs)) 0) (sym e) ∙ to_rest)

module _ (r : ModeRules) (bs : List Block) (from : ℕ) (p : Spot) (place n : ℕ) (b : Block) (begin front : Place) (is : IsFirst bs from p place) (at : b ≡ get_or bs p.block b)
    (lt : p.block < length bs) (marked : AreMarked r start bs) where
  pieces_here : pieces_at bs p.block ≡ b.pieces.items
  pieces_here = block_at bs p.block b lt ∙ ap (λ (x : Block). x.pieces.items) (sym at)

  here : place ≤ from
  here = omega (arith, is.at, within_size from 0 (pieces_in (take p.block bs)) (omega arith) is.within)

  mark : IsMarked (after_pieces r (pieces_in (take p.block bs)) start) b
  mark = marked_here r start bs p.block b at lt marked

  spot_in : n ≤ length b.pieces.items → IsSpot bs p.block n (p.count + n)
  spot_in le = record {
    block_in = is.spot.block_in;
    piece_in = omega (arith, le, ap length pieces_here);
    count_is = omega (arith, is.spot.count_is, is.begins);
  }

  in_front : n ≤ length b.pieces.items → take (p.count + n) (pieces_in bs) ≡ pieces_in (take p.block bs) ++ take n b.pieces.items
  in_front le = spot_front bs p.block n (p.count + n) (spot_in le) ∙ ap (λ (ks : List Kept). pieces_in (take p.block bs) ++ take n ks) pieces_here

  pub is_start : n ≤ length b.pieces.items → begin.at ≡ place → begin.stack ≡ b.stack → front.at ≡ place + sizes (take n b.pieces.items)
      → front.stack ≡ after_pieces r (take n b.pieces.items) b.stack → AreWithin from place (take n b.pieces.items)
      → ((k : Kept) → slice_get b.pieces.items n ≡ Some k → from < front.at + reach_of k) → (p.block + 1 < length bs → from < place + b.reach)
      → IsStart r bs from (record { spot = record { block = p.block; piece = n; count = p.count + n }; begin = begin; place = front })
  is_start le begin_at begin_stack front_at front_stack within next stops = record {
    spot = spot_in le;
    begin_at = begin_at ∙ is.at;
    begin_stack = begin_stack ∙ mark.stack;
    place_at = omega (arith, front_at, is.at, ap sizes (in_front le), sizes_join (pieces_in (take p.block bs)) (take n b.pieces.items));
    place_stack =
        front_stack ∙ ap (after_pieces r (take n b.pieces.items)) mark.stack ∙ sym (after_join r (pieces_in (take p.block bs)) (take n b.pieces.items) start)
        ∙ ap (λ (ks : List Kept). after_pieces r ks start) (sym (in_front le));
    within =
        subst (AreWithin from 0) (sym (in_front le))
        (within_append from 0 (pieces_in (take p.block bs)) (take n b.pieces.items) is.within
        (subst (λ (a : ℕ). AreWithin from a (take n b.pieces.items)) (omega (arith, is.at)) within));
    first = λ k got.
        subst (λ (a : ℕ). from < a + reach_of k) (sym front_at)
        (start_first bs p.block n (p.count + n) from place b (after_pieces r (pieces_in (take p.block bs)) start) (spot_in le) pieces_here here mark within stops
        (λ l found. subst (λ (a : ℕ). from < a + reach_of l) front_at (next l found)) k got);
  }
