-- What a run notes along what it read in vain: new notes, one wherever a character passes a multiple of 64 bytes.
use Rattle.std.proofs.Common.{◌≡◌, ◌≢◌, ℕ, ◌+◌, ◌*◌, ◌/◌, ◌<◌, ◌≤◌, ◌⊎◌, inl, inr, List, [], ◌∷◌, ◌++◌, length, refl, sym, ap, subst, ◌∙◌, arith, length-append}
use Rattle.std.specs.Char.{encode_utf8}
use Rattle.std.specs.List.{All, Contains}
use Rattle.std.specs.Str.{chars, encode_utf8_all, IsUtf8}
use Rattle.std.proofs.lemmas.Bool.{cases_eq}
use Rattle.std.proofs.lemmas.List.Elements.{All-nil, All-cons, All-contains, All-weaker}
use Rattle.std.proofs.lemmas.Str.{chars_past_char, IsCharBoundary-from_take, length-encode, length-le-encodes, len_utf8_bounds}
use Rattle.lalrpop_hir.proofs.Cuts.{IsCut, cut_more, cut_within}
use Rattle.lalrpop_dfa.specs.declared.Kind.TheVariants.{Neither}
use Rattle.bajofeki.specs.declared.memo.Memo.{Memo}
use Rattle.bajofeki.specs.declared.walker.Walker.{Walker}
use Rattle.bajofeki.specs.Internal.Walking.{IsMet, next_of, says}
use Rattle.bajofeki.specs.Internal.Noted.{IsKnown}
use Rattle.bajofeki.specs.Internal.Paying.{AreDistinct, AreUnknown, IsCrossing, IsNew}
use Rattle.bajofeki.proofs.Fronts.{no_boundary}

-- a character takes one to four bytes
pub char_size : (c : ℕ) → (1 ≤ length (encode_utf8 c)) × (length (encode_utf8 c) ≤ 4)
char_size c = (omega (arith, length-encode c, len_utf8_bounds c), omega (arith, length-encode c, len_utf8_bounds c))

-- ---- new notes

-- a new note is one for a longer front of the text too, and when more is noted
pub new_more : (w : Walker) (old m n : Memo) (mode begin : ℕ) (text : List ℕ) (far far2 : ℕ) (x : ℕ × (ℕ × ℕ)) → ((a p e : ℕ) → IsKnown m a p e → IsKnown n a p e) → far ≤ far2
    → IsNew w old m mode begin text far x → IsNew w old n mode begin text far2 x
new_more w old m n mode begin text far far2 x stays le is = record {
  mode_is = is.mode_is;
  met = is.met;
  is_open = is.is_open;
  there = (is.there.0, (is.there.1.0, omega (arith, le, is.there.1.1), is.there.1.2));
  unknown = is.unknown;
  known = stays x.0 x.1.0 x.1.1 is.known;
}

-- a note further on is none of them
pub not_among : (w : Walker) (old m : Memo) (mode begin : ℕ) (text : List ℕ) (far : ℕ) (news : List (ℕ × (ℕ × ℕ))) (x : ℕ × (ℕ × ℕ)) → begin + far < x.1.1
    → All (IsNew w old m mode begin text far) news → ¬ Contains news x
not_among w old m mode begin text far news x past each among =
    let is = All-contains (IsNew w old m mode begin text far) news x each among in
    omega (arith, past, is.there.1.0, is.there.1.1)

-- where a character passes a multiple of 64 bytes of the longer text, it is the first one there
pub crossing_there : (begin at at2 c : ℕ) (text rest rest2 : List ℕ) → IsUtf8 text → IsCut text at rest → rest ≡ encode_utf8 c ++ rest2 → at2 ≡ at + length (encode_utf8 c)
    → (begin + at) / 64 ≢ (begin + at2) / 64 → IsCrossing begin text at2
crossing_there begin at at2 c text rest rest2 utf8 cut is further apart =
    let later = cut_more text rest rest2 at at2 c utf8 cut is further in
    let past : (begin + at) / 64 < (begin + at2) / 64 = passed (begin + at) (begin + at2) (omega (arith, further)) apart in
    let below : begin + at < (begin + at2) / 64 * 64 = under (begin + at) ((begin + at2) / 64) past in
    record {
      boundary = IsCharBoundary-from_take text at2 utf8 (omega (arith, cut_within text rest2 at2 later)) later.seen_utf8;
      later = omega (arith, below);
      first = λ k less here. no_boundary text rest rest2 at at2 c k utf8 cut is further (omega (arith, below, here)) less;
    }
  where
    passed : (x y : ℕ) → x ≤ y → x / 64 ≢ y / 64 → x / 64 < y / 64
    passed x y le other = omega (arith, le, other)

    under : (x q : ℕ) → x / 64 < q → x < q * 64
    under x q less = omega (arith, less)

-- ---- along the text

-- what was noted up to a place in the text, after its first `off` bytes: all of what was read in vain, or all before the place
pub record AreNoted (w : Walker) (old new : Memo) (mode at : ℕ) (text vain more : List ℕ) (off place : ℕ) (rest : List ℕ) : Type 0 where
  pub done : ℕ
  pub news : List (ℕ × (ℕ × ℕ))
  pub each : All (IsNew w old new mode at text done) news
  pub distinct : AreDistinct news
  pub enough : (at + done) / 64 ≤ at / 64 + length news
  pub left : (done ≡ length (encode_utf8_all vain))
      ⊎ ((done ≡ off) × ((left : List ℕ) × ((chars rest ≡ left ++ more) × (off + length (encode_utf8_all left) ≡ length (encode_utf8_all vain)) × AreUnknown w old mode (at + off) place left)))

pub noted_none : (w : Walker) (m : Memo) (mode at place : ℕ) (text vain more : List ℕ) → chars text ≡ vain ++ more → AreUnknown w m mode at place vain
    → AreNoted w m m mode at text vain more 0 place text
noted_none w m mode at place text vain more is unknown = record {
  done = 0;
  news = [];
  each = All-nil (IsNew w m m mode at text 0);
  distinct = tt;
  enough = omega arith;
  left = inr (refl, (vain, (is, omega arith, subst (λ (n : ℕ). AreUnknown w m mode n place vain) (let e : at ≡ at + 0 = omega arith in e) unknown)));
}

-- one character more: what was read in vain leads to an open place, and where it passes a multiple of 64 bytes, that is noted
pub noted_next : (w : Walker) (old m n : Memo) (mode at off off2 place place2 c : ℕ) (text rest rest2 vain more : List ℕ) → IsUtf8 text → IsCut text off rest
    → rest ≡ encode_utf8 c ++ rest2 → off2 ≡ off + length (encode_utf8 c) → place2 ≡ next_of w place c → IsMet w place2 → says w place2 ≡ Neither
    → ((a p e : ℕ) → IsKnown m a p e → IsKnown n a p e) → ((at + off) / 64 ≢ (at + off2) / 64 → IsKnown n mode place2 (at + off2))
    → AreNoted w old m mode at text vain more off place rest → AreNoted w old n mode at text vain more off2 place2 rest2
noted_next w old m n mode at off off2 place place2 c text rest rest2 vain more utf8 cut is further leads met neither stays noted h = by_left h.left
  where
    kept : (far : ℕ) → h.done ≤ far → All (IsNew w old n mode at text far) h.news
    kept far le =
        All-weaker (IsNew w old m mode at text h.done) (IsNew w old n mode at text far) (λ x new. new_more w old m n mode at text h.done far x stays le new) h.news h.each

    all_done : h.done ≡ length (encode_utf8_all vain) → AreNoted w old n mode at text vain more off2 place2 rest2
    all_done all = record {
      done = h.done;
      news = h.news;
      each = kept h.done (omega arith);
      distinct = h.distinct;
      enough = h.enough;
      left = inl all;
    }

    -- the character is one of those that were read in vain
    goes_on : (left : List ℕ) → h.done ≡ off → chars rest ≡ c ∷ left ++ more → off + length (encode_utf8_all (c ∷ left)) ≡ length (encode_utf8_all vain)
        → AreUnknown w old mode (at + off) place (c ∷ left) → AreNoted w old n mode at text vain more off2 place2 rest2
    goes_on left here word size unknown = by_crossing (cases_eq ((at + off) / 64) ((at + off2) / 64))
      where
        sum : (at + off) + length (encode_utf8 c) ≡ at + off2
        sum = omega (arith, further)

        left_word : chars rest2 ≡ left ++ more
        left_word = let both : c ∷ chars rest2 ≡ c ∷ left ++ more = sym (chars_past_char rest rest2 c cut.rest_utf8 is) ∙ word in cc (both)

        left_size : off2 + length (encode_utf8_all left) ≡ length (encode_utf8_all vain)
        left_size = omega (arith, size, further, length-append (encode_utf8 c) (encode_utf8_all left))

        left_unknown : AreUnknown w old mode (at + off2) place2 left
        left_unknown =
            subst (λ (p : ℕ). AreUnknown w old mode (at + off2) p left) (sym leads) (subst (λ (e : ℕ). AreUnknown w old mode e (next_of w place c) left) sum unknown.2)

        by_crossing : ((at + off) / 64 ≡ (at + off2) / 64) ⊎ ((at + off) / 64 ≡ (at + off2) / 64 → ⊥) → AreNoted w old n mode at text vain more off2 place2 rest2
        by_crossing (inl same) = record {
          done = off2;
          news = h.news;
          each = kept off2 (omega (arith, here, further));
          distinct = h.distinct;
          enough = omega (arith, same, h.enough, ap (λ (k : ℕ). (at + k) / 64) here);
          left = inr (refl, (left, (left_word, left_size, left_unknown)));
        }
        by_crossing (inr apart) =
            let x : ℕ × (ℕ × ℕ) = (mode, (place2, at + off2)) in
            let new : IsNew w old n mode at text off2 x = record {
              mode_is = refl;
              met = met;
              is_open = neither;
              there = (off2, (refl, omega arith, crossing_there at off off2 c text rest rest2 utf8 cut is further apart));
              unknown = unknown_there apart;
              known = noted apart;
            } in
            record {
              done = off2;
              news = x ∷ h.news;
              each = All-cons (IsNew w old n mode at text off2) x h.news new (kept off2 (omega (arith, here, further)));
              distinct = (not_among w old m mode at text h.done h.news x (omega (arith, here, further, char_size c)) h.each, h.distinct);
              enough = omega (arith, one_more);
              left = inr (refl, (left, (left_word, left_size, left_unknown)));
            }
          where
            unknown_there : (at + off) / 64 ≢ (at + off2) / 64 → ¬ IsKnown old mode place2 (at + off2)
            unknown_there other =
                subst (λ (p : ℕ). ¬ IsKnown old mode p (at + off2)) (sym leads)
                (subst (λ (e : ℕ). ((at + off) / 64 ≢ e / 64) → ¬ IsKnown old mode (next_of w place c) e) sum unknown.1 other)

            one_more : (at + off2) / 64 ≤ at / 64 + (length h.news + 1)
            one_more =
                let step : (at + off2) / 64 ≤ (at + off) / 64 + 1 = omega (arith, further, char_size c) in
                omega (arith, step, h.enough, ap (λ (k : ℕ). (at + k) / 64) here)

    by_left : (h.done ≡ length (encode_utf8_all vain))
        ⊎ ((h.done ≡ off) × ((left : List ℕ) × ((chars rest ≡ left ++ more) × (off + length (encode_utf8_all left) ≡ length (encode_utf8_all vain)) × AreUnknown w old mode (at + off) place left)))
        → AreNoted w old n mode at text vain more off2 place2 rest2
    by_left (inl all) = all_done all
    by_left (inr (here, ([], (word, size, unknown)))) = all_done (omega (arith, here, size))
    by_left (inr (here, (b ∷ left, (word, size, unknown)))) =
        let both : c ∷ chars rest2 ≡ b ∷ (left ++ more) = sym (chars_past_char rest rest2 c cut.rest_utf8 is) ∙ word in
        let first : b ≡ c = cc (both) in
        goes_on left here (subst (λ (x : ℕ). chars rest ≡ x ∷ left ++ more) first word)
        (subst (λ (x : ℕ). off + length (encode_utf8_all (x ∷ left)) ≡ length (encode_utf8_all vain)) first size)
        (subst (λ (x : ℕ). AreUnknown w old mode (at + off) place (x ∷ left)) first unknown)

-- if all but a few bytes before `until` were passed, there are enough notes
pub noted_all : (w : Walker) (old new : Memo) (mode at off place until : ℕ) (text rest vain more : List ℕ) → AreNoted w old new mode at text vain more off place rest
    → until ≤ length (encode_utf8_all vain) + 4 → ((c : ℕ) (v : List ℕ) → chars rest ≡ c ∷ v → says w (next_of w place c) ≡ Neither → until ≤ off + 4)
    → (news : List (ℕ × (ℕ × ℕ))) × (All (IsNew w old new mode at text (length (encode_utf8_all vain))) news × AreDistinct news × (until ≤ 64 * length news + 67))
noted_all w old new mode at off place until text rest vain more h far ends = by_left h.left
  where
    counted : (done k : ℕ) → (at + done) / 64 ≤ at / 64 + k → until ≤ done + 4 → until ≤ 64 * k + 67
    counted done k enough near = omega (arith, enough, near)

    given : h.done ≤ length (encode_utf8_all vain) → until ≤ h.done + 4
        → (news : List (ℕ × (ℕ × ℕ))) × (All (IsNew w old new mode at text (length (encode_utf8_all vain))) news × AreDistinct news × (until ≤ 64 * length news + 67))
    given le near = (
      h.news,
      (
        All-weaker (IsNew w old new mode at text h.done) (IsNew w old new mode at text (length (encode_utf8_all vain)))
            (λ x is. new_more w old new new mode at text h.done (length (encode_utf8_all vain)) x (λ a p e known. known) le is) h.news h.each,
        h.distinct,
        counted h.done (length h.news) h.enough near,
      ),
    )

    by_left : (h.done ≡ length (encode_utf8_all vain))
        ⊎ ((h.done ≡ off) × ((left : List ℕ) × ((chars rest ≡ left ++ more) × (off + length (encode_utf8_all left) ≡ length (encode_utf8_all vain)) × AreUnknown w old mode (at + off) place left)))
        → (news : List (ℕ × (ℕ × ℕ))) × (All (IsNew w old new mode at text (length (encode_utf8_all vain))) news × AreDistinct news × (until ≤ 64 * length news + 67))
    by_left (inl all) = given (omega (arith, all)) (omega (arith, all, far))
    by_left (inr (here, ([], (word, size, unknown)))) = given (omega (arith, here, size)) (omega (arith, here, size, far))
    by_left (inr (here, (c ∷ left, (word, size, unknown)))) =
        given (omega (arith, here, size)) (omega (arith, here, ends c (left ++ more) word unknown.0))

-- ---- steps

-- so many steps were made, where what is left of what was read in vain is still to come
pub record AreCounted (w : Walker) (m : Memo) (mode at : ℕ) (vain more : List ℕ) (off place : ℕ) (rest : List ℕ) (before now : ℕ) : Type 0 where
  pub left : List ℕ
  pub steps : before + length vain ≤ now + length left
  pub there : (left ≡ [])
      ⊎ ((chars rest ≡ left ++ more) × (off + length (encode_utf8_all left) ≡ length (encode_utf8_all vain)) × AreUnknown w m mode (at + off) place left)

pub counted_none : (w : Walker) (m : Memo) (mode at place before : ℕ) (text vain more : List ℕ) → chars text ≡ vain ++ more → AreUnknown w m mode at place vain
    → AreCounted w m mode at vain more 0 place text before before
counted_none w m mode at place before text vain more is unknown = record {
  left = vain;
  steps = omega arith;
  there = inr (is, omega arith, subst (λ (n : ℕ). AreUnknown w m mode n place vain) (let e : at ≡ at + 0 = omega arith in e) unknown);
}

pub counted_next : (w : Walker) (m : Memo) (mode at off off2 place place2 c before now : ℕ) (rest rest2 vain more : List ℕ) → chars rest ≡ c ∷ chars rest2
    → off2 ≡ off + length (encode_utf8 c) → place2 ≡ next_of w place c → AreCounted w m mode at vain more off place rest before now
    → AreCounted w m mode at vain more off2 place2 rest2 before (now + 1)
counted_next w m mode at off off2 place place2 c before now rest rest2 vain more next further leads h = by_left h.left h.steps h.there
  where
    none_left : before + length vain ≤ now → AreCounted w m mode at vain more off2 place2 rest2 before (now + 1)
    none_left enough = record { left = []; steps = omega (arith, enough); there = inl refl }

    by_left : (left : List ℕ) → before + length vain ≤ now + length left
        → (left ≡ []) ⊎ ((chars rest ≡ left ++ more) × (off + length (encode_utf8_all left) ≡ length (encode_utf8_all vain)) × AreUnknown w m mode (at + off) place left)
        → AreCounted w m mode at vain more off2 place2 rest2 before (now + 1)
    by_left [] steps there = none_left (omega (arith, steps))
    by_left (b ∷ left) steps (inl none) = cc
    by_left (b ∷ left) steps (inr (word, size, unknown)) =
        let both : c ∷ chars rest2 ≡ b ∷ left ++ more = sym next ∙ word in
        let first : b ≡ c = cc (both) in
        let sum : (at + off) + length (encode_utf8 b) ≡ at + off2 = omega (arith, further, ap (λ (x : ℕ). length (encode_utf8 x)) first) in
        let same : next_of w place b ≡ place2 = ap (next_of w place) first ∙ sym leads in
        record {
          left = left;
          steps = omega (arith, steps);
          there = inr (
            (let tails : chars rest2 ≡ left ++ more = cc (both) in tails),
            omega (arith, size, further, ap (λ (x : ℕ). length (encode_utf8 x)) first, length-append (encode_utf8 b) (encode_utf8_all left)),
            subst (λ (p : ℕ). AreUnknown w m mode (at + off2) p left) same (subst (λ (e : ℕ). AreUnknown w m mode e (next_of w place b) left) sum unknown.2),
          );
        }

-- where the text ends, all of it was passed
pub counted_end : (w : Walker) (m : Memo) (mode at off place before now : ℕ) (rest vain more : List ℕ) → chars rest ≡ [] → AreCounted w m mode at vain more off place rest before now
    → before + length vain ≤ now
counted_end w m mode at off place before now rest vain more none h = by_left h.left h.steps h.there
  where
    by_left : (left : List ℕ) → before + length vain ≤ now + length left
        → (left ≡ []) ⊎ ((chars rest ≡ left ++ more) × (off + length (encode_utf8_all left) ≡ length (encode_utf8_all vain)) × AreUnknown w m mode (at + off) place left)
        → before + length vain ≤ now
    by_left [] steps there = omega (arith, steps)
    by_left (b ∷ left) steps (inl some) = cc
    by_left (b ∷ left) steps (inr (word, size, unknown)) = let both : [] ≡ b ∷ left ++ more = sym none ∙ word in cc

-- and where a character is read that leads to no open place, or ends at `until`
pub counted_all : (w : Walker) (m : Memo) (mode at off place before now until : ℕ) (rest vain more : List ℕ) → AreCounted w m mode at vain more off place rest before now
    → length (encode_utf8_all vain) ≤ until
    → ((c : ℕ) (v : List ℕ) → chars rest ≡ c ∷ v → says w (next_of w place c) ≡ Neither → until ≤ off + length (encode_utf8 c)) → before + length vain ≤ now + 1
counted_all w m mode at off place before now until rest vain more h within ends = by_left h.left h.steps h.there
  where
    by_left : (left : List ℕ) → before + length vain ≤ now + length left
        → (left ≡ []) ⊎ ((chars rest ≡ left ++ more) × (off + length (encode_utf8_all left) ≡ length (encode_utf8_all vain)) × AreUnknown w m mode (at + off) place left)
        → before + length vain ≤ now + 1
    by_left [] steps there = omega (arith, steps)
    by_left (c ∷ left) steps (inl some) = cc
    by_left (c ∷ left) steps (inr (word, size, unknown)) =
        omega (arith, steps, size, within, ends c (left ++ more) word unknown.0, length-append (encode_utf8 c) (encode_utf8_all left), length-le-encodes left)
