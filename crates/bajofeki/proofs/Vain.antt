-- What runs read in vain, and the notes that pay for it.
use Rattle.std.proofs.Common.{◌≡◌, ◌≢◌, ℕ, ◌+◌, ◌-◌, ◌*◌, ◌/◌, ◌<◌, ◌≤◌, ◌⊎◌, inl, inr, List, [], ◌∷◌, ◌++◌, length, take, drop, refl, sym, ap, subst, ◌∙◌, arith, append_assoc, length-append, length-drop, length-take}
use Rattle.std.specs.Prelude.{Option, Some, None, IfNone}
use Rattle.std.specs.Char.{encode_utf8}
use Rattle.std.specs.List.{All}
use Rattle.std.specs.Str.{chars, IsUtf8, IsCharBoundary, encode_utf8_all}
use Rattle.std.proofs.lemmas.Bool.{cases_lt}
use Rattle.std.proofs.lemmas.List.{append_cancel_left, take_at, take-append-drop}
use Rattle.std.proofs.lemmas.List.Elements.{All-nil, All-weaker}
use Rattle.std.proofs.lemmas.Str.{chars-append, encodes-append, encodes-chars, encodes_same, IsUtf8-append, IsUtf8-take, IsCharBoundary-at_seam}
use Rattle.lalrpop_hir.proofs.Cuts.{IsCut, GoesOn, goes_on}
use Rattle.lalrpop_dfa.specs.declared.Kind.TheVariants.{Neither}
use Rattle.bajofeki.specs.declared.memo.Memo.{Memo}
use Rattle.bajofeki.specs.declared.walker.Walker.{Walker}
use Rattle.bajofeki.specs.Internal.Walking.{behind, behind_from, next_of, says}
use Rattle.bajofeki.specs.Internal.Noted.{IsKnown, IsOver, IsStand}
use Rattle.bajofeki.specs.Internal.Paying.{AreDistinct, AreUnknown, IsNew, IsRunPaid, IsVain, size_of}
use Rattle.bajofeki.proofs.FrontCosts.{new_before}
use Rattle.bajofeki.proofs.Noting.{begins, stand_cut}
use Rattle.bajofeki.proofs.Walking.{behind_append, behind_from_append}

-- ---- before what settles a run

-- a word with bytes has characters
some_word : (z : List ℕ) → 0 < length (encode_utf8_all z) → 0 < length z
some_word [] some = absurd (omega (arith, some))
some_word (c ∷ z) some = omega arith

-- each place there is open
over_opens : (w : Walker) (p n : ℕ) (v z y : List ℕ) → IsOver w p v n → v ≡ z ++ y → 0 < length z → length (encode_utf8_all z) < n → says w (behind_from w p z) ≡ Neither
over_opens w p n [] z y o e some below = absurd (omega (arith, some, ap length e, length-append z y))
over_opens w p n (c ∷ v) [] y o e some below = absurd (omega (arith, some))
over_opens w p n (c ∷ v) (b ∷ z) y (inl o) e some below = absurd (omega (arith, o.0, below))
over_opens w p n (c ∷ v) (b ∷ z) y (inr (inl o)) e some below =
    let first : c ≡ b = cc (e) in
    absurd (omega (arith, o.0, below, ap (λ (x : ℕ). length (encode_utf8 x)) first, length-append (encode_utf8 b) (encode_utf8_all z)))
over_opens w p n (c ∷ v) (b ∷ []) y (inr (inr (neither, (m, (size, o))))) e some below =
    let first : c ≡ b = cc (e) in
    subst (λ (x : ℕ). says w (next_of w p x) ≡ Neither) first neither
over_opens w p n (c ∷ v) (b ∷ a ∷ z) y (inr (inr (neither, (m, (size, o))))) e some below =
    let first : c ≡ b = cc (e) in
    let left : v ≡ (a ∷ z) ++ y = cc (e) in
    subst (λ (x : ℕ). says w (behind_from w (next_of w p x) (a ∷ z)) ≡ Neither) first
    (over_opens w (next_of w p c) m v (a ∷ z) y o left (omega arith)
    (omega (arith, size, below, ap (λ (x : ℕ). length (encode_utf8 x)) first, length-append (encode_utf8 b) (encode_utf8_all (a ∷ z)))))

-- and so it is after each longer front of the text
module _ (w : Walker) (text : List ℕ) (end n m : ℕ) (cut : IsCut text end (drop end text)) (over : IsOver w (behind w (chars (take end text))) (chars (drop end text)) m)
    (above : end < n) (below : n < end + m) (within : n ≤ length text) where
  open_along : GoesOn text (drop end text) end (take n text) → says w (behind w (chars (take n text))) ≡ Neither
  open_along g =
      let word : chars (take n text) ≡ chars (take end text) ++ chars g.more = ap chars g.is ∙ chars-append (take end text) g.more cut.seen_utf8 in
      let left : chars (drop end text) ≡ chars g.more ++ chars g.left = ap chars g.rest_is ∙ chars-append g.more g.left g.utf8 in
      let long : end + length g.more ≡ n = omega (arith, length-take n text, within, ap length g.is, length-append (take end text) g.more, cut.place) in
      let bytes : length (encode_utf8_all (chars g.more)) ≡ length g.more = ap length (encodes-chars g.more g.utf8) in
      ap (says w) (ap (behind w) word ∙ behind_append w (chars (take end text)) (chars g.more))
      ∙ over_opens w (behind w (chars (take end text))) m (chars (drop end text)) (chars g.more) (chars g.left) over left (some_word (chars g.more) (omega (arith, bytes, long, above)))
      (omega (arith, bytes, long, below))

  pub open_behind : IsUtf8 (take n text) → says w (behind w (chars (take n text))) ≡ Neither
  open_behind utf8 =
      open_along (goes_on text (drop end text) end (take n text) cut (drop n text, (sym (take-append-drop n text), utf8)) (omega (arith, length-take n text, within, above)))

-- the match has as many bytes as the run stood after
pub stand_size : (w : Walker) (text : List ℕ) (end place : ℕ) (best : Option (ℕ × List ℕ)) → IsStand w text end place best → size_of best ≡ end
stand_size w text end place None h = omega (arith, h.last, length-take end text, h.within)
stand_size w text end place (Some m) h = omega (arith, ap length h.last.1, length-take end text, h.within)

-- ---- characters for which nothing is noted

-- one more of them
pub unknown_push : (w : Walker) (m : Memo) (mode at place c : ℕ) (v : List ℕ) → AreUnknown w m mode at place v → says w (next_of w (behind_from w place v) c) ≡ Neither
    → ((at + length (encode_utf8_all v)) / 64 ≢ (at + length (encode_utf8_all v) + length (encode_utf8 c)) / 64
    → ¬ IsKnown m mode (next_of w (behind_from w place v) c) (at + length (encode_utf8_all v) + length (encode_utf8 c)))
    → AreUnknown w m mode at place (v ++ c ∷ [])
unknown_push w m mode at place c [] u neither new =
    let same : at + 0 ≡ at = omega arith in
    (neither, subst (λ (e : ℕ). e / 64 ≢ (e + length (encode_utf8 c)) / 64 → ¬ IsKnown m mode (next_of w place c) (e + length (encode_utf8 c))) same new, tt)
unknown_push w m mode at place c (b ∷ v) u neither new =
    let there : at + length (encode_utf8_all (b ∷ v)) ≡ at + length (encode_utf8 b) + length (encode_utf8_all v) = omega (arith, length-append (encode_utf8 b) (encode_utf8_all v)) in (
      u.0,
      u.1,
      unknown_push w m mode (at + length (encode_utf8 b)) (next_of w place b) c v u.2 neither
          (subst (λ (e : ℕ). e / 64 ≢ (e + length (encode_utf8 c)) / 64
          → ¬ IsKnown m mode (next_of w (behind_from w (next_of w place b) v) c) (e + length (encode_utf8 c))) there new),
    )

-- the last of them leads to an open place
unknown_open : (w : Walker) (m : Memo) (mode at place : ℕ) (v : List ℕ) → AreUnknown w m mode at place v → 0 < length v → says w (behind_from w place v) ≡ Neither
unknown_open w m mode at place [] u some = absurd (omega (arith, some))
unknown_open w m mode at place (c ∷ []) u some = u.0
unknown_open w m mode at place (c ∷ b ∷ v) u some = unknown_open w m mode (at + length (encode_utf8 c)) (next_of w place c) (b ∷ v) u.2 (omega arith)

-- a run that stood after the first `end` bytes read these characters since, up to the byte `at`
pub record IsVainTo (w : Walker) (m : Memo) (mode begin : ℕ) (text : List ℕ) (end there at place : ℕ) (rest v : List ℕ) : Type 0 where
  pub bytes : end + length (encode_utf8_all v) ≡ at
  pub reached : place ≡ behind_from w there v
  pub left : chars (drop end text) ≡ v ++ chars rest
  pub unknown : AreUnknown w m mode (begin + end) there v

pub vain_none : (w : Walker) (m : Memo) (mode begin : ℕ) (text : List ℕ) (at place : ℕ) (rest : List ℕ) → drop at text ≡ rest → IsVainTo w m mode begin text at place at place rest []
vain_none w m mode begin text at place rest e = record { bytes = omega arith; reached = refl; left = ap chars e; unknown = tt }

-- one more of them
pub vain_more : (w : Walker) (m : Memo) (mode begin : ℕ) (text : List ℕ) (end there at at2 place place2 c : ℕ) (rest rest2 v : List ℕ) → IsVainTo w m mode begin text end there at place rest v
    → chars rest ≡ c ∷ chars rest2 → at2 ≡ at + length (encode_utf8 c) → place2 ≡ next_of w place c → says w place2 ≡ Neither
    → ((begin + at) / 64 ≢ (begin + at2) / 64 → ¬ IsKnown m mode place2 (begin + at2)) → IsVainTo w m mode begin text end there at2 place2 rest2 (v ++ c ∷ [])
vain_more w m mode begin text end there at at2 place place2 c rest rest2 v h word size next neither new =
    let led : place2 ≡ next_of w (behind_from w there v) c = next ∙ ap (λ (p : ℕ). next_of w p c) h.reached in
    let from : begin + at ≡ begin + end + length (encode_utf8_all v) = omega (arith, h.bytes) in
    let to : begin + at2 ≡ begin + end + length (encode_utf8_all v) + length (encode_utf8 c) = omega (arith, h.bytes, size) in
    record {
      bytes = omega (arith, h.bytes, size, ap length (encodes-append v (c ∷ [])), length-append (encode_utf8_all v) (encode_utf8_all (c ∷ [])), length-append (encode_utf8 c) []);
      reached = led ∙ sym (behind_from_append w there v (c ∷ []));
      left = h.left ∙ ap (λ xs. v ++ xs) word ∙ sym (append_assoc v (c ∷ []) (chars rest2));
      unknown = unknown_push w m mode (begin + end) there c v h.unknown (ap (says w) (sym led) ∙ neither)
          (subst (λ (e : ℕ). (begin + end + length (encode_utf8_all v)) / 64 ≢ e / 64 → ¬ IsKnown m mode (next_of w (behind_from w there v) c) e) to
          (subst (λ (e : ℕ). e / 64 ≢ (begin + at2) / 64 → ¬ IsKnown m mode (next_of w (behind_from w there v) c) (begin + at2)) from
          (subst (λ (p : ℕ). (begin + at) / 64 ≢ (begin + at2) / 64 → ¬ IsKnown m mode p (begin + at2)) led new)));
    }

-- the run ends after one more character, or where the text ends
pub vain_stop : (w : Walker) (m : Memo) (mode begin : ℕ) (text : List ℕ) (end there at place read : ℕ) (rest v : List ℕ) → IsVainTo w m mode begin text end there at place rest v
    → at ≤ read → read ≤ at + 4 → read ≤ length text → IsVain w m mode begin text end there read v
vain_stop w m mode begin text end there at place read rest v h from to within = record {
  within = within;
  front = (chars rest, h.left);
  above = omega (arith, h.bytes, from);
  below = omega (arith, h.bytes, to);
  unknown = h.unknown;
}

pub if_none : (o : Option ℕ) (P : Type 0) → IfNone o P → ((x : ℕ) → o ≡ Some x → ⊥) → P
if_none None P h never = h
if_none (Some x) P h never = absurd (never x refl)

-- ---- where they end in the text

-- what is left of a text after its first characters
left_behind : (rest v more : List ℕ) → IsUtf8 rest → chars rest ≡ v ++ more → (left : List ℕ) × ((rest ≡ encode_utf8_all v ++ left) × IsUtf8 left)
left_behind rest [] more utf8 e = (rest, (refl, utf8))
left_behind rest (c ∷ v) more utf8 e =
    let b = begins rest c (v ++ more) utf8 e in
    let l = left_behind b.left v more b.utf8 b.word in
    (l.0, (b.is ∙ ap (λ xs. encode_utf8 c ++ xs) l.1.0 ∙ sym (append_assoc (encode_utf8 c) (encode_utf8_all v) l.0), l.1.1))

pub record EndsAt (text : List ℕ) (end : ℕ) (v : List ℕ) (far : ℕ) : Type 0 where
  pub boundary : IsCharBoundary text far
  pub word : chars (take far text) ≡ chars (take end text) ++ v

pub ends_at : (text rest v more : List ℕ) (end : ℕ) → IsCut text end rest → chars rest ≡ v ++ more → EndsAt text end v (end + length (encode_utf8_all v))
ends_at text rest v more end cut e =
    let far : ℕ = end + length (encode_utf8_all v) in
    let l = left_behind rest v more cut.rest_utf8 e in
    let seam : text ≡ (take end text ++ encode_utf8_all v) ++ l.0 =
    cut.split ∙ ap (λ xs. take end text ++ xs) l.1.0 ∙ sym (append_assoc (take end text) (encode_utf8_all v) l.0) in
    let size : length (take end text ++ encode_utf8_all v) ≡ far = omega (arith, length-append (take end text) (encode_utf8_all v), cut.place) in
    let utf8 : IsUtf8 text = subst IsUtf8 (sym cut.split) (IsUtf8-append (take end text) rest cut.seen_utf8 cut.rest_utf8) in
    let boundary : IsCharBoundary text far = subst (IsCharBoundary text) size (IsCharBoundary-at_seam text (take end text ++ encode_utf8_all v) l.0 seam l.1.1) in
    let front : take far text ≡ take end text ++ encode_utf8_all v = ap (take far) seam ∙ take_at (take end text ++ encode_utf8_all v) l.0 far size in
    let g = goes_on text rest end (take far text) cut (drop far text, (sym (take-append-drop far text), IsUtf8-take text far utf8 boundary)) (omega (arith, ap length front, size)) in
    let same : g.more ≡ encode_utf8_all v = append_cancel_left (take end text) g.more (encode_utf8_all v) (sym g.is ∙ front) in
    let word : chars g.more ≡ v = encodes_same (chars g.more) v (encodes-chars g.more g.utf8 ∙ same) in
    record {
      boundary = boundary;
      word = ap chars g.is ∙ chars-append (take end text) g.more cut.seen_utf8 ∙ ap (λ xs. chars (take end text) ++ xs) word;
    }

-- ---- a run is paid for

-- what a run read in vain and noted
pub run_paid : (w : Walker) (old new : Memo) (mode begin : ℕ) (text : List ℕ) (end place read before middle after : ℕ) (best : Option (ℕ × List ℕ)) (vain : List ℕ)
    → IsStand w text end place best → IsVain w old mode begin text end place read vain → middle ≤ before + read → after ≤ middle + (read - end)
    → (read - end < 64 → after ≡ middle)
    → (64 ≤ read - end → (more : List ℕ) → chars (drop end text) ≡ vain ++ more → AreUnknown w old mode (begin + end) place vain
    → length (encode_utf8_all vain) ≤ read - end → read - end ≤ length (encode_utf8_all vain) + 4 → read - end ≤ length (drop end text)
    → (news : List (ℕ × (ℕ × ℕ))) × (All (IsNew w old new mode (begin + end) (drop end text) (length (encode_utf8_all vain))) news
    × AreDistinct news × (read - end ≤ 64 * length news + 67)))
    → (news : List (ℕ × (ℕ × ℕ))) × ((far : ℕ) × IsRunPaid w old new mode begin text (size_of best) before after news far)
run_paid w old new mode begin text end place read before middle after best vain stand is ran noted few news = by_size (cases_lt (read - end) 64)
  where
    far : ℕ
    far = end + length (encode_utf8_all vain)

    there : EndsAt text end vain far
    there = ends_at text (drop end text) vain is.front.0 end (stand_cut w text end place best stand) is.front.1

    size : size_of best ≡ end
    size = stand_size w text end place best stand

    last_open : size_of best < far → says w (behind w (chars (take far text))) ≡ Neither
    last_open above =
        ap (says w) (ap (behind w) there.word ∙ behind_append w (chars (take end text)) vain)
        ∙ subst (λ (p : ℕ). says w (behind_from w p vain) ≡ Neither) stand.reached
        (unknown_open w old mode (begin + end) place vain is.unknown (some_word vain (omega (arith, size, above))))

    by_size : (read - end < 64) ⊎ (64 ≤ read - end) → (news : List (ℕ × (ℕ × ℕ))) × ((far : ℕ) × IsRunPaid w old new mode begin text (size_of best) before after news far)
    by_size (inl small) = (
      [],
      (
        far,
        record {
          boundary = there.boundary;
          past = omega (arith, size);
          is_open = last_open;
          each = All-nil (IsNew w old new mode begin text far);
          distinct = tt;
          cost = omega (arith, size, small, few small, ran, is.above);
        },
      ),
    )
    by_size (inr big) =
        let made = news big is.front.0 is.front.1 is.unknown (omega (arith, is.above)) (omega (arith, is.below)) (omega (arith, is.within, length-drop end text)) in (
          made.0,
          (
            far,
            record {
              boundary = there.boundary;
              past = omega (arith, size);
              is_open = last_open;
              each = All-weaker (IsNew w old new mode (begin + end) (drop end text) (length (encode_utf8_all vain))) (IsNew w old new mode begin text far)
                  (λ x made_so. new_before w old old new mode begin end (length (encode_utf8_all vain)) far text x stand.within (omega arith) (λ m p e known. known) made_so) made.0 made.1.0;
              distinct = made.1.1;
              cost = omega (arith, size, big, noted, ran, made.1.2);
            },
          ),
        )
