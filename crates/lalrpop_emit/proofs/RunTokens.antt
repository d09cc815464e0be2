-- What the next end of a block says of the text.
use Rattle.std.proofs.Common.{◌≡◌, ◌≢◌, ℕ, ◌+◌, ◌-◌, ◌*◌, ◌/◌, ◌%◌, ◌^◌, ◌<◌, ◌≤◌, inl, inr, List, length, take, drop, slice_index, refl, sym, ap, subst, ◌∙◌, arith, length-drop, ⊎_elim}
use Rattle.std.specs.Prelude.{Some}
use Rattle.std.specs.Int.{bit_at}
use Rattle.std.proofs.lemmas.List.{drop-drop, length-take-le}
use Rattle.lalrpop_hir.specs.Longest.{IsLongest}
use Rattle.lalrpop_dense.specs.DenseTable.{TableNumbers}
use Rattle.lalrpop_emit.specs.declared.run.Run.{Run}
use Rattle.lalrpop_emit.specs.Ahead.{AheadNumbers, StandsFor, standing_after, rule_at, no_rule}
use Rattle.lalrpop_emit.specs.Internal.Columns.{AreColumns}
use Rattle.lalrpop_emit.specs.Internal.Running.{AreEnds, HasNoEnd, HasRoom, IsAt, IsAtPlace, IsBlock, IsNextEnd, IsSameBlock, IsRunThrough, IsTokenAt, IsWordOf, Serves}
use Rattle.lalrpop_emit.proofs.AheadColumns.{has_columns}
use Rattle.lalrpop_emit.proofs.AheadEnds.{AreRowsOf, begins_in_rows, next_in_rows, rule_in_rows}
use Rattle.lalrpop_emit.proofs.AheadRows.{row_of}
use Rattle.lalrpop_emit.proofs.RunBits.{resumed}
use Rattle.lalrpop_emit.proofs.RunBlocks.{block_there}
use Rattle.lalrpop_emit.proofs.AheadTokens.{IsNextEnd as IsNextEndOf, BeginsAt, between_ends, token_between}

-- ---- the same block

pub same_ends : (least : ℕ) (old new : Run) → IsSameBlock old new → AreEnds least old → AreEnds least new
same_ends least old new same h = record {
  whole = omega (arith, same.length, h.whole);
  are = λ w l.
      subst (λ v. IsWordOf least v.items w (slice_index new.ends.items w)) (sym same.rows)
      (subst (λ v. IsWordOf least old.rows.items w (slice_index v.items w)) (sym same.ends) (h.are w (omega (arith, l, same.length))));
}

-- a block in which only the place has moved on is still run through
pub same_run : (a : AheadNumbers) (t : TableNumbers) (text : List ℕ) (old new : Run) → IsSameBlock old new → IsRunThrough a t text old → IsRunThrough a t text new
same_run a t text old new same r =
    let columns : take old.length old.columns.items ≡ take new.length new.columns.items = ap (λ (n : ℕ). take n old.columns.items) (sym same.length) ∙ ap (λ v. take new.length v.items) (sym same.columns) in
    record {
      ahead = r.ahead;
      classes = r.classes;
      fits = r.fits;
      inside = omega (arith, same.base, same.length, r.inside);
      columns =
          subst (λ (n : ℕ). AreColumns t a.width 0 (drop n text) (take new.length new.columns.items)) (sym same.base)
          (subst (AreColumns t a.width 0 (drop old.base text)) columns r.columns);
      rows = λ k l.
          subst (λ v. StandsFor a r.ahead.standings (slice_index v.items k) (standing_after t a.width (take (k + 1) (take new.length new.columns.items)))) (sym same.rows)
          (subst (λ columns2. StandsFor a r.ahead.standings (slice_index old.rows.items k) (standing_after t a.width (take (k + 1) columns2))) columns (r.rows k (omega (arith, l, same.length))));
      ends = same_ends a.ends old new same r.ends;
    }

pub same_block : (a : AheadNumbers) (t : TableNumbers) (text : List ℕ) (old new : Run) → IsSameBlock old new → IsBlock a t text old → IsBlock a t text new
same_block a t text old new same h = ⊎_elim (λ none. inl (same.length ∙ none)) (λ r. inr (same_run a t text old new same r)) h

-- the block of a mode that came on top elsewhere
pub run_since : (a : AheadNumbers) (t : TableNumbers) (text : List ℕ) (run : Run) (since : ℕ) → IsRunThrough a t text run → IsRunThrough a t text (record run { since = since })
run_since a t text run since r = record {
  ahead = r.ahead;
  classes = r.classes;
  fits = r.fits;
  inside = r.inside;
  columns = r.columns;
  rows = r.rows;
  ends = record { whole = r.ends.whole; are = r.ends.are };
}

pub block_since : (a : AheadNumbers) (t : TableNumbers) (text : List ℕ) (run : Run) (since : ℕ) → IsBlock a t text run → IsBlock a t text (record run { since = since })
block_since a t text run since h = ⊎_elim inl (λ r. inr (run_since a t text run since r)) h

-- ---- the place in the block

-- the token that begins at the place of the text ends here, if nothing else is known of it
pub record IsKnownEnd (a : AheadNumbers) (t : TableNumbers) (text : List ℕ) (at : ℕ) (run : Run) (end : ℕ) : Type 0 where
  pub there : IsAt a t text run at
  pub next : IsNextEnd a.ends run (at - run.base) end

module _ (a : AheadNumbers) (t : TableNumbers) (text : List ℕ) (at : ℕ) (old new : Run) (same : IsSameBlock old new)
    (place : (least x : ℕ) → IsAtPlace least old x → IsAtPlace least new x) where
  at_same : IsAt a t text old at → IsAt a t text new at
  at_same i = record {
    through = same_run a t text old new same i.through;
    behind = omega (arith, same.base, i.behind);
    place = subst (λ (n : ℕ). IsAtPlace a.ends new (at - n)) (sym same.base) (place a.ends (at - old.base) i.place);
  }

  pub serves_on : (HasNoEnd old → HasNoEnd new) → Serves a t text old at → Serves a t text new at
  serves_on none s = ⊎_elim (λ n. inl (none n)) (λ i. inr (at_same i)) s

  -- where an end was found
  pub known_end : (end : ℕ) → ¬ HasNoEnd old → ((least x : ℕ) → IsAtPlace least old x → IsNextEnd least new x end) → Serves a t text old at → IsKnownEnd a t text at new end
  known_end end some next s =
      ⊎_elim (λ n. absurd (some n))
      (λ (i : IsAt a t text old at). record {
        there = at_same i;
        next = subst (λ (n : ℕ). IsNextEnd a.ends new (at - n) end) (sym same.base) (next a.ends (at - old.base) i.place);
      })
      s

pub place_of : (a : AheadNumbers) (t : TableNumbers) (text : List ℕ) (at : ℕ) (run : Run) → ¬ HasNoEnd run → Serves a t text run at → IsAtPlace a.ends run (at - run.base)
place_of a t text at run some s = ⊎_elim (λ n. absurd (some n)) (λ i. i.place) s

-- a block in which the place was found again
pub serves_again : (a : AheadNumbers) (t : TableNumbers) (text : List ℕ) (run : Run) (at word bits : ℕ) → IsBlock a t text run → run.base ≤ at → at - run.base < run.length
    → bit_at (slice_index run.ends.items ((at - run.base) / 64)) ((at - run.base) % 64) ≡ 1 → word ≡ (at - run.base) / 64
    → bits ≡ (slice_index run.ends.items ((at - run.base) / 64) / 2 ^ ((at - run.base) % 64) - 1) * 2 ^ ((at - run.base) % 64) % 2 ^ 64
    → Serves a t text (record run { word = word; bits = bits }) at
serves_again a t text run at word bits block behind inside set word_is bits_are =
    let r = block_there a t text run block (omega (arith, inside)) in
    inr (record {
      through = same_run a t text run (record run { word = word; bits = bits })
          (record { base = refl; length = refl; mode = refl; since = refl; columns = refl; rows = refl; ends = refl }) r;
      behind = behind;
      place = resumed a.ends run (at - run.base) word bits r.ends inside set word_is bits_are;
    })

-- ---- the token that ends next

module _ (a : AheadNumbers) (t : TableNumbers) (text : List ℕ) (at : ℕ) (run : Run) (end : ℕ) (known : IsKnownEnd a t text at run end) (room : HasRoom run) where
  size : length (take run.length run.columns.items) ≡ run.length
  size = length-take-le run.length run.columns.items (omega (arith, room.length, room.columns))

  are : AreRowsOf a known.there.through.ahead.standings t (take run.length run.columns.items) run.rows.items
  are k l = known.there.through.rows k (omega (arith, l, size))

  pub end_within : (0 < end) × (end < run.length)
  end_within = (omega (arith, known.next.behind), omega (arith, known.next.to, known.there.place.word, known.there.place.marked.whole))

  pub rule_cell : slice_index run.rows.items (end - 1) + a.width < length a.cells
  rule_cell =
      let before : end - 1 < run.length = omega (arith, end_within.1) in
      let row = row_of a t known.there.through.ahead (slice_index run.rows.items (end - 1)) _ (known.there.through.rows (end - 1) before) in
      row.2

  begun : BeginsAt t a.width (take run.length run.columns.items) (at - run.base)
  begun =
      begins_in_rows a t (take run.length run.columns.items) run.rows.items known.there.through.ahead are (at - run.base)
      (omega (arith, size, end_within.1, known.next.behind)) known.there.place.begins

  next : IsNextEndOf t a.width (take run.length run.columns.items) (at - run.base) end
  next =
      next_in_rows a t (take run.length run.columns.items) run.rows.items known.there.through.ahead are (at - run.base) end known.next.behind
      (omega (arith, size, end_within.1)) known.next.ends known.next.none

  module _ (rule : ℕ) (read : slice_index a.cells (slice_index run.rows.items (end - 1) + a.width) ≡ rule) (some : rule ≢ no_rule) where
    rule_is : rule_at t (standing_after t a.width (take end (take run.length run.columns.items))) ≡ Some rule
    rule_is =
        rule_in_rows a t (take run.length run.columns.items) run.rows.items known.there.through.ahead are end rule end_within.0
        (omega (arith, size, end_within.1)) read some

    token_there : IsTokenAt t text (run.base + (at - run.base)) rule (run.base + end)
    token_there =
        let rest = drop run.base text in
        let start = at - run.base in
        let columns = take run.length run.columns.items in
        let has = has_columns a t known.there.through.ahead in
        let inside = token_between t a.width rest columns start end rule has known.there.through.columns begun next rule_is in
        let size2 : end - start ≡ run.base + end - (run.base + start) = omega arith in
        record {
          longest = λ d h ts ps s.
              let found = between_ends t a.width d ts ps rest columns start end rule has h s known.there.through.columns begun next rule_is in
              subst (λ (k : ℕ). IsLongest ts ps (drop (run.base + start) text) (Some (rule, take k (drop (run.base + start) text)))) size2
              (subst (λ bytes. IsLongest ts ps bytes (Some (rule, take (end - start) bytes))) (drop-drop start run.base text) found.0);
          some = omega (arith, known.next.behind);
          within = omega (arith, inside.0, length-drop run.base text, known.there.through.inside);
          rules = inside.1;
        }

    pub token_known : IsTokenAt t text at rule (run.base + end)
    token_known =
        let here : run.base + (at - run.base) ≡ at = omega (arith, known.there.behind) in
        subst (λ (k : ℕ). IsTokenAt t text k rule (run.base + end)) here token_there
