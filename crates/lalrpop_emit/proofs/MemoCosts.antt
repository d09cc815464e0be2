-- What is read in vain is paid for by bits that are new, so all calls with one memo read little in vain: `total_in_vain`.
use Rattle.std.proofs.Common.{◌≡◌, ◌≢◌, ℕ, zero, suc, ◌+◌, ◌*◌, ◌/◌, ◌<◌, ◌≤◌, ◌⊎◌, inl, inr, List, [], ◌∷◌, length, sym, ap, subst, arith}
use Rattle.std.specs.Prelude.{slice_index}
use Rattle.std.specs.List.{sum_by}
use Rattle.std.proofs.lemmas.Bool.{cases_lt}
use Rattle.std.proofs.lemmas.List.Sums.{sum_by-cons}
use Rattle.std.proofs.lemmas.Str.{length-encode, len_utf8_bounds}
use Rattle.lalrpop_dense.specs.DenseTable.{TableNumbers}
use Rattle.lalrpop_emit.specs.Ahead.{AheadNumbers, IsAheadOf, no_rule}
use Rattle.lalrpop_emit.specs.Internal.AheadRows.{IsRowOf}
use Rattle.lalrpop_emit.specs.Internal.Memo.{ArePaid, Call, IsInVain, IsNoted, IsPassed, IsReadTo, IsRoomy, IsStep, IsWaitingRow, LeadOn, LeadToEnd, StopsAt, noted_count, vain}
use Rattle.lalrpop_emit.specs.declared.longest_match.Walk.{Walk}
use Rattle.lalrpop_emit.proofs.Memos.{noted_most, some_room}
use Rattle.lalrpop_emit.proofs.Steps.{passed, same_step, step_row, step_within}
use Rattle.lalrpop_emit.proofs.WaitingRows.{waits_long}

-- a step passes one multiple of 64 at most
pub step_short : (a : AheadNumbers) (t : TableNumbers) (text : List ℕ) (row at row2 at2 : ℕ) → IsStep a t text row at row2 at2 → at2 ≤ at + 64
step_short a t text row at row2 at2 s =
    let bounds = len_utf8_bounds s.character in
    omega (arith, s.place, length-encode s.character, bounds.0, bounds.1)

module _ (a : AheadNumbers) (t : TableNumbers) (text : List ℕ) (end : ℕ) where
  -- it is within the text
  vain_within : (memo : List ℕ) (n row at : ℕ) → at ≤ length text → LeadToEnd a t text memo end n row at → end ≤ length text
  vain_within memo zero row at within same = omega (arith, same, within)
  vain_within memo (suc n) row at within (row2, at2, (s, none, clear, rest)) = vain_within memo n row2 at2 (step_within a t text row at row2 at2 s).1 rest

  pub vain_before : (memo : List ℕ) (row at row2 at2 : ℕ) → IsStep a t text row at row2 at2 → slice_index a.cells (row2 + a.width) ≡ no_rule
      → (IsWaitingRow a row2 → at2 < end → at / 64 < at2 / 64 → ¬ IsNoted memo a (length text) row2 at2) → IsInVain a t text memo end row2 at2 → IsInVain a t text memo end row at
  vain_before memo row at row2 at2 s none clear (n, rest) = (suc n, (row2, at2, (s, none, clear, rest)))

  pub vain_goes_on : (memo : List ℕ) (row at : ℕ) → IsInVain a t text memo end row at → at < end → ¬ StopsAt a t text row at
  vain_goes_on memo row at (zero, same) before stops = omega (arith, same, before)
  vain_goes_on memo row at (suc n, (row2, at2, (s, none, clear, rest))) before stops = stops row2 at2 s

  -- the next step in vain
  abbrev IsNextInVain : List ℕ → ℕ → ℕ → ℕ → Type 0
  IsNextInVain memo at row2 at2 =
      (slice_index a.cells (row2 + a.width) ≡ no_rule) × (IsWaitingRow a row2 → at2 < end → at / 64 < at2 / 64 → ¬ IsNoted memo a (length text) row2 at2)
      × IsInVain a t text memo end row2 at2

  vain_next : (memo : List ℕ) (row at row2 at2 : ℕ) → IsInVain a t text memo end row at → at < end → IsStep a t text row at row2 at2 → IsNextInVain memo at row2 at2
  vain_next memo row at row2 at2 (zero, same) before s = absurd (omega (arith, same, before))
  vain_next memo row at row2 at2 (suc n, (row3, at3, (s3, none, clear, rest))) before s =
      let same = same_step a t text row at row3 at3 s3 row2 at2 s in
      subst (λ (r : ℕ). IsNextInVain memo at r at2) same.0 (subst (λ (p : ℕ). IsNextInVain memo at row3 p) same.1 (none, clear, (n, rest)))

  -- a character has at most four bytes
  vain_short : (memo : List ℕ) (n row at : ℕ) → LeadToEnd a t text memo end n row at → end ≤ at + 4 * n
  vain_short memo zero row at same = omega (arith, same)
  vain_short memo (suc n) row at (row2, at2, (s, none, clear, rest)) =
      let bounds = len_utf8_bounds s.character in
      omega (arith, vain_short memo n row2 at2 rest, s.place, length-encode s.character, bounds.1)

  -- 64 bytes before the end the row waits long
  vain_waits : (memo : List ℕ) (n row at row2 at2 : ℕ) → IsAheadOf a t → IsRowOf a row → IsStep a t text row at row2 at2 → slice_index a.cells (row2 + a.width) ≡ no_rule
      → LeadToEnd a t text memo end n row2 at2 → at2 + 64 < end → IsWaitingRow a row2
  vain_waits memo n row at row2 at2 h is s none rest far = waits_long a t h text memo end n row at row2 at2 is s none rest (omega (arith, vain_short memo n row2 at2 rest, far))

  -- where much is read in vain, a memo with room for it isn't empty
  pub vain_room : (memo : List ℕ) (row at : ℕ) → IsAheadOf a t → IsRowOf a row → IsInVain a t text memo end row at → at + 128 < end → IsRoomy a (length text) memo → 0 < length memo
  vain_room memo row at h is (zero, same) far roomy = absurd (omega (arith, same, far))
  vain_room memo row at h is (suc n, (row2, at2, (s, none, clear, rest))) far roomy =
      let within = vain_within memo n row2 at2 (step_within a t text row at row2 at2 s).1 rest in
      let short = step_short a t text row at row2 at2 s in
      some_room a (length text) memo row2 (omega (arith, within, far)) (vain_waits memo n row at row2 at2 h is s none rest (omega (arith, short, far))) roomy

  module _ (h : IsAheadOf a t) (old new : List ℕ) (place : ℕ)
      (others : (row at : ℕ) → IsRowOf a row → 0 < row → IsPassed text at → IsNoted new a (length text) row at → IsNoted old a (length text) row at ⊎ (at ≡ place)) where
    -- a bit that is set at the place changes nothing after it
    vain_kept : (n row at : ℕ) → IsRowOf a row → place ≤ at → LeadToEnd a t text old end n row at → LeadToEnd a t text new end n row at
    vain_kept zero row at is behind same = same
    vain_kept (suc n) row at is behind (row2, at2, (s, none, clear, rest)) =
        let is2 = step_row a t text row at row2 at2 s h is in
        let further = (step_within a t text row at row2 at2 s).0 in (
          row2,
          at2,
          (
            s,
            none,
            λ waits before passes noted. elim (others row2 at2 is2 s.some (passed a t text row at row2 at2 s passes) noted) [
              | inl was ↦ clear waits before passes was
              | inr same ↦ omega (arith, same, further, behind)
            ],
            vain_kept n row2 at2 is2 (omega (arith, further, behind)) rest,
          ),
        )

-- up to the place what was read in vain is paid for; what is left is known
pub record IsPaidUpTo (a : AheadNumbers) (t : TableNumbers) (text old memo : List ℕ) (end from row at : ℕ) : Type 0 where
  pub left : IsInVain a t text memo end row at
  pub before : at + 64 < end → at / 64 + noted_count old ≤ from / 64 + noted_count memo
  pub near : end ≤ at + 64 → end / 64 + noted_count old ≤ from / 64 + noted_count memo + 2

module _ (a : AheadNumbers) (t : TableNumbers) (text old memo : List ℕ) (end from row at : ℕ) where
  pub paid_start : IsInVain a t text old end row at → IsPaidUpTo a t text old old end at row at
  paid_start vain = record { left = vain; before = λ l. omega arith; near = λ l. omega (arith, l) }

  pub paid_done : IsPaidUpTo a t text old memo end from row at → end ≤ at → end / 64 + noted_count old ≤ from / 64 + noted_count memo + 2
  paid_done p behind = p.near (omega (arith, behind))

  -- what is paid for at the place is, in any case
  paid_so_far : IsPaidUpTo a t text old memo end from row at → (end / 64 + noted_count old ≤ from / 64 + noted_count memo + 2) ⊎ (at / 64 + noted_count old ≤ from / 64 + noted_count memo)
  paid_so_far p = elim (cases_lt (at + 64) end) [ inl far ↦ inr (p.before far) | inr near ↦ inl (p.near near) ]

  module _ (row2 at2 : ℕ) (p : IsPaidUpTo a t text old memo end from row at) (inside : at < end) (s : IsStep a t text row at row2 at2) where
    pub paid_on : at2 / 64 ≤ at / 64 → IsPaidUpTo a t text old memo end from row2 at2
    paid_on same = record {
      left = (vain_next a t text end memo row at row2 at2 p.left inside s).2;
      before = λ l. omega (arith, same, p.before (omega (arith, l, (step_within a t text row at row2 at2 s).0)));
      near = λ l. elim (paid_so_far p) [ inl paid ↦ paid | inr paid ↦ omega (arith, paid, same, l) ];
    }

    pub paid_pass : (new : List ℕ) → IsAheadOf a t → IsRowOf a row → at / 64 < at2 / 64
        → ((row at : ℕ) → IsRowOf a row → 0 < row → IsPassed text at → IsNoted new a (length text) row at → IsNoted memo a (length text) row at ⊎ (at ≡ at2))
        → noted_count memo ≤ noted_count new → (IsWaitingRow a row2 → ¬ IsNoted memo a (length text) row2 at2 → noted_count new ≡ noted_count memo + 1)
        → IsPaidUpTo a t text old new end from row2 at2
    paid_pass new h is passes others more one =
        let next = vain_next a t text end memo row at row2 at2 p.left inside s in
        let short = step_short a t text row at row2 at2 s in
        let further = (step_within a t text row at row2 at2 s).0 in
        record {
          left = (next.2.0, vain_kept a t text end h memo new at2 others next.2.0 row2 at2 (step_row a t text row at row2 at2 s h is) (omega arith) next.2.1);
          before = λ l.
              let waits = vain_waits a t text end memo next.2.0 row at row2 at2 h is s next.0 next.2.1 l in
              omega (arith, short, p.before (omega (arith, l, further)), one waits (next.1 waits (omega (arith, l)) passes));
          near = λ l. elim (paid_so_far p) [ inl paid ↦ omega (arith, paid, more) | inr paid ↦ omega (arith, paid, more, short, l) ];
        }

-- ---- one step of a walk that keeps the last match

module _ (a : AheadNumbers) (t : TableNumbers) (text memo : List ℕ) (end : ℕ) (walk last next now : Walk) (s : IsStep a t text walk.row walk.at next.row next.at)
    (is : ((slice_index a.cells (next.row + a.width) ≢ no_rule) × (now ≡ next)) ⊎ ((slice_index a.cells (next.row + a.width) ≡ no_rule) × (now ≡ last))) where
  pub vain_last : (IsInVain a t text memo end walk.row walk.at → IsInVain a t text memo end last.row last.at)
      → (slice_index a.cells (next.row + a.width) ≡ no_rule → IsWaitingRow a next.row → next.at < end → walk.at / 64 < next.at / 64 → ¬ IsNoted memo a (length text) next.row next.at) → IsInVain a t text memo end next.row next.at
      → IsInVain a t text memo end now.row now.at
  vain_last since clear vain = elim is [
    | inl there ↦ subst (λ w. IsInVain a t text memo end w.row w.at) (sym there.1) vain
    | inr before ↦
        subst (λ w. IsInVain a t text memo end w.row w.at) (sym before.1)
        (since (vain_before a t text end memo walk.row walk.at next.row next.at s before.0 (clear before.0) vain))
  ]

module _ (a : AheadNumbers) (t : TableNumbers) (text memo : List ℕ) (walk last next now : Walk) (s : IsStep a t text walk.row walk.at next.row next.at)
    (is : ((slice_index a.cells (next.row + a.width) ≢ no_rule) × (now ≡ next)) ⊎ ((slice_index a.cells (next.row + a.width) ≡ no_rule) × (now ≡ last))) (behind : last.at ≤ walk.at) where
  pub last_behind : now.at ≤ next.at
  last_behind =
      let within = step_within a t text walk.row walk.at next.row next.at s in
      elim is [ inl there ↦ omega (arith, ap (λ w. w.at) there.1) | inr before ↦ omega (arith, ap (λ w. w.at) before.1, behind, within.0) ]

module _ (a : AheadNumbers) (t : TableNumbers) (text : List ℕ) (walk last next now : Walk) (s : IsStep a t text walk.row walk.at next.row next.at)
    (is : ((slice_index a.cells (next.row + a.width) ≢ no_rule) × (now ≡ next)) ⊎ ((slice_index a.cells (next.row + a.width) ≡ no_rule) × (now ≡ last))) where
  pub lead_on : (n : ℕ) × LeadOn a t text last.row last.at n walk.row walk.at → (n : ℕ) × LeadOn a t text now.row now.at n next.row next.at
  lead_on (n, lead) = elim is [
    | inl there ↦ (0, (ap (λ w. w.row) (sym there.1), ap (λ w. w.at) (sym there.1)))
    | inr before ↦ subst (λ w. (n : ℕ) × LeadOn a t text w.row w.at n next.row next.at) (sym before.1) (suc n, (walk.row, walk.at, (lead, s)))
  ]

module _ (a : AheadNumbers) (t : TableNumbers) (text memo : List ℕ) (row at row2 end : ℕ) (lead : (n : ℕ) × LeadOn a t text row at n row2 end) where
  pub read_to_end : StopsAt a t text row2 end → IsReadTo a t text memo row at end
  read_to_end stops = record { characters = lead.0; row_there = row2; lead = lead.1; stop = inl stops }

  pub read_to_bit : IsPassed text end → IsNoted memo a (length text) row2 end → IsReadTo a t text memo row at end
  read_to_bit passed noted = record { characters = lead.0; row_there = row2; lead = lead.1; stop = inr (passed, noted) }

-- ---- all calls with one memo

-- new bits pay for 64 bytes each, and no more bits are left than 64 for each word
vain_left : (memo : List ℕ) (calls : List Call) → ArePaid memo calls → sum_by vain calls + 64 * noted_count memo ≤ 64 * 64 * length memo + 192 * length calls
vain_left memo [] paid = omega (arith, noted_most memo)
vain_left memo (call ∷ calls) (same, paid, rest) =
    let further = vain_left call.after calls rest in
    let before : noted_count call.before ≡ noted_count memo = ap noted_count same in
    let size : length call.before ≡ length memo = ap length same in
    omega (arith, further, before, size, paid.behind, paid.size, paid.paid, sum_by-cons vain call calls)

-- what all calls with one memo read in vain is at most 64 bytes for each bit that the memo has, and 192 for each call
pub total_in_vain : (memo : List ℕ) (calls : List Call) → ArePaid memo calls → sum_by vain calls ≤ 64 * 64 * length memo + 192 * length calls
total_in_vain memo calls paid = omega (arith, vain_left memo calls paid)
