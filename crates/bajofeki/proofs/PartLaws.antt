-- What a text tells of bytes that begin with it, and the fault after which one stands.
use Rattle.std.proofs.Common.{◌≡◌, ◌≢◌, ℕ, ◌+◌, ◌-◌, ◌<◌, ◌≤◌, ◌⊎◌, inl, inr, Bool, true, false, List, [], ◌∷◌, ◌++◌, length, take, drop, arith, refl, sym, ap, subst, ◌∙◌, append_assoc, length-append, length-drop, length-take, take-add}
use Rattle.std.specs.Prelude.{Option, Some, None, IfSome, IfNone, is_some, ◌==◌}
use Rattle.std.specs.List.{copy_within}
use Rattle.std.specs.Str.{IsUtf8, IsCharBoundary}
use Rattle.std.proofs.lemmas.Bool.{cases_order, cases_lt}
use Rattle.std.proofs.lemmas.List.{append-nil, take-append-le, drop-append-le, take-append-drop, drop-drop, take_all}
use Rattle.std.proofs.lemmas.List.Edits.{take-paste}
use Rattle.std.proofs.lemmas.Str.{IsCharBoundary-start, IsUtf8-append, IsUtf8-drop}
use Rattle.std.proofs.Math.Seq.{paste, take-append_seam, drop-append_seam, take-length}
use Rattle.lalrpop_hir.specs.Tree.{Tree}
use Rattle.lalrpop_hir.specs.Longest.{IsMatch}
use Rattle.lalrpop_rules.specs.Found.{MatchesAt, NoMatchBefore}
use Rattle.lalrpop_rules.specs.Pieces.{IsFault}
use Rattle.bajofeki.specs.Begun.{NoCharacter, IsBegun, IsBad}
use Rattle.bajofeki.specs.Lexed.{BeginsLonger}
use Rattle.bajofeki.specs.Chunked.{IsOpen, IsOpenIn, MayBegin}
use Rattle.bajofeki.specs.Internal.Kept.{IsFront}
use Rattle.bajofeki.specs.Internal.Parts.{IsGiven, IsLeft, IsPart, IsParted, IsVoidTo, Tells, TellsTurn, size_in_fault, text_in}
use Rattle.bajofeki.specs.declared.parts.Part.{Part}
use Rattle.bajofeki.specs.declared.parts.FrontPiece.{FrontPiece}
use Rattle.bajofeki.specs.declared.parts.Told.{Told}
use Rattle.bajofeki.specs.declared.parts.Turn.TheVariants.{Void}
use Rattle.bajofeki.specs.declared.parts.Told.TheVariants.{Whole, Nothing, Open}
use Rattle.lalrpop_rules.proofs.FirstMatches.{match_within, some_length}
use Rattle.bajofeki.proofs.BytesLaws.{matches_more, none_after, none_at, none_at_front, none_before, none_in_begun, none_shorter}
use Rattle.bajofeki.proofs.FrontLaws.{front_after, front_text, fault_before, fault_whole, open_after}

-- a piece at the front of bytes begins them
begins : (ts : List Tree) (ps text : List ℕ) (o : Option ℕ) (slice : List ℕ) → IsFront ts ps text o slice → (rest : List ℕ) × (text ≡ slice ++ rest)
begins ts ps text (Some i) slice front = (front.0.0.0.0, front.0.0.0.1.0)
begins ts ps text None slice front = front.front

cut : (slice text rest : List ℕ) (n : ℕ) → text ≡ slice ++ rest → length slice ≡ n → slice ≡ take n text
cut slice text rest n split size =
    sym (take-append_seam slice rest) ∙ ap (take (length slice)) (sym split) ∙ ap (λ (k : ℕ). take k text) size

-- ---- what a text tells

module _ (ts : List Tree) (ps text : List ℕ) (rule : Option ℕ) (size reach : ℕ)
    (front : (other : List ℕ) → take reach text ≡ take reach other → (slice : List ℕ) × ((length slice ≡ size) × IsFront ts ps other rule slice))
    (within : size ≤ length text) where
  -- its piece, where no more than it settles that
  pub whole_near : (tail : List ℕ) → reach ≤ length text → IsFront ts ps (text ++ tail) rule (take size text)
  whole_near tail near =
      let is = front (text ++ tail) (sym (take-append-le reach text tail near)) in
      let split = begins ts ps (text ++ tail) rule is.0 is.1.1 in
      let same : is.0 ≡ take size text = cut is.0 (text ++ tail) split.0 size split.1 is.1.0 ∙ take-append-le size text tail within in
      subst (λ (p : List ℕ). IsFront ts ps (text ++ tail) rule p) same is.1.1

  here : IsFront ts ps text rule (take size text)
  here =
      let is = front text refl in
      let split = begins ts ps text rule is.0 is.1.1 in
      subst (λ (p : List ℕ). IsFront ts ps text rule p) (cut is.0 text split.0 size split.1 is.1.0) is.1.1

  there : length (take size text) ≡ size
  there = omega (arith, length-take size text, within)

  -- or it ends in the text
  pub whole_last : (tail : List ℕ) → IsUtf8 text → NoCharacter tail → (is_some rule ≡ true) ⊎ (size < length text)
      → IsFront ts ps (text ++ tail) rule (take size text)
  whole_last tail u none ends = front_text ts ps text tail rule (take size text) u none (short rule ends) here
    where
      short : (o : Option ℕ) → (is_some o ≡ true) ⊎ (size < length text) → IfNone o (length (take size text) < length text)
      short (Some i) e = tt
      short None (inl some) = absurd (cc)
      short None (inr less) = omega (arith, there, less)

  -- or nothing matches in it
  pub nothing_last : (tail : List ℕ) → IsUtf8 text → NoCharacter tail → is_some rule ≡ false → length text ≤ size → NoMatchBefore ts (text ++ tail) (length text)
  nothing_last tail u none no_rule long = none_before ts text tail (length text) u none (omega arith) (by_rule rule no_rule here)
    where
      by_rule : (o : Option ℕ) → is_some o ≡ false → IsFront ts ps text o (take size text) → NoMatchBefore ts text (length text)
      by_rule (Some i) no_rule is = absurd (cc)
      by_rule None no_rule fault =
          let all : length (take size text) ≡ length text = omega (arith, there, long, within) in
          subst (λ (n : ℕ). NoMatchBefore ts text n) all fault.nothing

  -- whether something matches at its front
  pub match_here : is_some rule ≡ true → MatchesAt ts text 0
  match_here some = by_rule rule some here
    where
      by_rule : (o : Option ℕ) → is_some o ≡ true → IsFront ts ps text o (take size text) → MatchesAt ts text 0
      by_rule (Some i) some is = (take size text, is.0.0)
      by_rule None some is = absurd (cc)

  pub none_here : 0 < size → is_some rule ≡ false → NoMatchBefore ts text 1
  none_here some no_rule = by_rule rule no_rule here
    where
      by_rule : (o : Option ℕ) → is_some o ≡ false → IsFront ts ps text o (take size text) → NoMatchBefore ts text 1
      by_rule (Some i) no_rule is = absurd (cc)
      by_rule None no_rule fault = λ n less m. fault.nothing n (omega (arith, less, there, some)) m

-- where there is no text
pub nothing_in_none : (ts : List Tree) (text tail : List ℕ) → length text ≡ 0 → NoMatchBefore ts (text ++ tail) (length text)
nothing_in_none ts text tail empty n less m = absurd (omega (arith, less, empty))

pub open_none : (ts : List Tree) (text : List ℕ) → length text ≡ 0 → IsOpen ts text
open_none ts text empty = inl (λ n less m. absurd (omega (arith, less, empty)))

pub none_in_none : (ts : List Tree) (text : List ℕ) → length text ≡ 0 → NoMatchBefore ts text 1
none_in_none ts text empty n less m = absurd (omega (arith, match_within ts text n m, empty))

-- ---- what is left after a text

-- no character is there, if it ended, or a byte of none follows
pub no_character : (left more : List ℕ) (is_bad over : Bool) → IsLeft left is_bad → (is_bad ≡ true) ⊎ (over ≡ true) → (over ≡ true → more ≡ [])
    → NoCharacter (left ++ more)
no_character left more true over is last may = (is.1 refl).1 more
no_character left more false over is (inl bad) may = absurd (cc)
no_character left more false over is (inr ended) may =
    subst (λ (t : List ℕ). NoCharacter t) (sym (ap (λ (t : List ℕ). left ++ t) (may ended) ∙ append-nil left)) (is.0 refl).0

-- all that is left from a place on
pub from_on : (n : ℕ) (bytes : List ℕ) → take (length bytes - n) (drop n bytes) ≡ drop n bytes
from_on n bytes = take_all (length bytes - n) (drop n bytes) (omega (arith, length-drop n bytes))

pub not_empty : (rest : List ℕ) (test : Bool) → test ≡ (length rest == 0) → test ≡ false → rest ≢ []
not_empty [] test is fails none = cc
not_empty (x ∷ rest) test is fails none = cc

-- ---- a part of the bytes

drop-take : (k m : ℕ) (xs : List ℕ) → k ≤ m → m ≤ length xs → drop k (take m xs) ≡ take (m - k) (drop k xs)
drop-take k m xs le within =
    let size : length (take k xs) ≡ k = omega (arith, length-take k xs, le, within) in
    let place : k + (m - k) ≡ m = omega (arith, le) in
    let split : take m xs ≡ take k xs ++ take (m - k) (drop k xs) = ap (λ (n : ℕ). take n xs) (sym place) ∙ take-add k (m - k) xs in
    ap (drop k) split ∙ ap (λ (n : ℕ). drop n (take k xs ++ take (m - k) (drop k xs))) (sym size) ∙ drop-append_seam (take k xs) (take (m - k) (drop k xs))

-- the text of a part, and what is left after it
pub part_split : (bytes : List ℕ) (p : Part) → IsParted bytes p → drop p.from bytes ≡ text_in bytes p ++ drop p.ends bytes
part_split bytes p parted =
    let place : p.from + (p.ends - p.from) ≡ p.ends = omega (arith, parted.order) in
    sym (take-append-drop (p.ends - p.from) (drop p.from bytes))
    ∙ ap (λ (t : List ℕ). text_in bytes p ++ t) (drop-drop (p.ends - p.from) p.from bytes ∙ ap (λ (n : ℕ). drop n bytes) place)

pub front_split : (bytes text : List ℕ) (p : Part) → IsParted bytes p → p.from ≡ 0 → text ≡ text_in bytes p → bytes ≡ text ++ drop p.ends bytes
front_split bytes text p parted front same =
    ap (λ (n : ℕ). drop n bytes) (sym front) ∙ part_split bytes p parted ∙ ap (λ (t : List ℕ). t ++ drop p.ends bytes) (sym same)

pub part_size : (bytes : List ℕ) (p : Part) → IsParted bytes p → p.from + length (text_in bytes p) ≡ p.ends
part_size bytes p parted = omega (arith, length-take (p.ends - p.from) (drop p.from bytes), length-drop p.from bytes, parted.order, parted.within)

-- the text at the front
pub parted_of : (bytes text left : List ℕ) (is_bad : Bool) → bytes ≡ text ++ left → IsUtf8 text → IsLeft left is_bad
    → IsParted bytes (record { from = 0; ends = length text; is_bad = is_bad })
parted_of bytes text left is_bad parts u is_left =
    let size : length text - 0 ≡ length text = omega arith in record {
      order = omega arith;
      within = omega (arith, ap length parts, length-append text left);
      utf8 = subst IsUtf8 (sym (ap (λ (n : ℕ). take n bytes) size ∙ ap (take (length text)) parts ∙ take-append_seam text left)) u;
      left = subst (λ (t : List ℕ). IsLeft t is_bad) (sym (ap (drop (length text)) parts ∙ drop-append_seam text left)) is_left;
    }

-- one that was found from a place on
pub parted_at : (bytes : List ℕ) (at : ℕ) (q : Part) → at ≤ length bytes → IsParted (drop at bytes) q → q.from ≡ 0
    → IsParted bytes (record { from = at; ends = at + q.ends; is_bad = q.is_bad })
parted_at bytes at q within parted front =
    let size : (at + q.ends) - at ≡ q.ends - q.from = omega (arith, front) in record {
      order = omega arith;
      within = omega (arith, within, parted.within, length-drop at bytes);
      utf8 = subst IsUtf8 (sym (ap (λ (n : ℕ). take n (drop at bytes)) size ∙ ap (λ (n : ℕ). take (q.ends - q.from) (drop n (drop at bytes))) (sym front))) parted.utf8;
      left = subst (λ (t : List ℕ). IsLeft t q.is_bad) (drop-drop q.ends at bytes ∙ ap (λ (n : ℕ). drop n bytes) (omega arith)) parted.left;
    }

-- one that goes on where another ended
pub parted_on : (bytes : List ℕ) (p q : Part) → p.from ≤ p.ends → p.ends ≤ length bytes → IsUtf8 (text_in bytes p) → IsParted (drop p.ends bytes) q → q.from ≡ 0
    → IsParted bytes (record { from = p.from; ends = p.ends + q.ends; is_bad = q.is_bad })
parted_on bytes p q order within u parted front =
    let more = parted_at bytes p.ends q within parted front in
    let size : (p.ends + q.ends) - p.from ≡ (p.ends - p.from) + ((p.ends + q.ends) - p.ends) = omega (arith, order) in
    let place : p.from + (p.ends - p.from) ≡ p.ends = omega (arith, order) in
    let whole : take ((p.ends + q.ends) - p.from) (drop p.from bytes) ≡ text_in bytes p ++ take ((p.ends + q.ends) - p.ends) (drop p.ends bytes) =
    ap (λ (n : ℕ). take n (drop p.from bytes)) size ∙ take-add (p.ends - p.from) ((p.ends + q.ends) - p.ends) (drop p.from bytes)
    ∙ ap (λ (t : List ℕ). text_in bytes p ++ take ((p.ends + q.ends) - p.ends) t) (drop-drop (p.ends - p.from) p.from bytes ∙ ap (λ (n : ℕ). drop n bytes) place) in record {
      order = omega (arith, order);
      within = more.within;
      utf8 = subst IsUtf8 (sym whole) (IsUtf8-append (text_in bytes p) (take ((p.ends + q.ends) - p.ends) (drop p.ends bytes)) u more.utf8);
      left = more.left;
    }

-- where a byte of no character was, nothing changes
pub parted_still : (bytes : List ℕ) (p : Part) → p.from ≤ p.ends → p.ends ≤ length bytes → IsUtf8 (text_in bytes p) → p.is_bad ≡ true
    → IsBad (drop p.ends bytes) → IsParted bytes p
parted_still bytes p order within u is bad = record {
  order = order;
  within = within;
  utf8 = u;
  left = ((λ goes. let e = sym is ∙ goes in absurd (cc)), (λ _. bad));
}

-- more comes
pub grown_text : (bytes chunk : List ℕ) (p : Part) → IsParted bytes p → text_in (bytes ++ chunk) p ≡ text_in bytes p
grown_text bytes chunk p parted =
    ap (take (p.ends - p.from)) (drop-append-le p.from bytes chunk (omega (arith, parted.order, parted.within)))
    ∙ take-append-le (p.ends - p.from) (drop p.from bytes) chunk (omega (arith, length-drop p.from bytes, parted.within))

pub grown_more : (bytes chunk : List ℕ) (p q : Part) → IsParted bytes p → q.from ≡ p.from → p.ends ≤ q.ends
    → text_in (bytes ++ chunk) q ≡ text_in bytes p ++ take (q.ends - p.ends) (drop (p.ends - p.from) (drop p.from (bytes ++ chunk)))
grown_more bytes chunk p q parted same on =
    let size : q.ends - q.from ≡ (p.ends - p.from) + (q.ends - p.ends) = omega (arith, same, on, parted.order) in
    ap (λ (n : ℕ). take n (drop q.from (bytes ++ chunk))) size ∙ ap (λ (n : ℕ). take ((p.ends - p.from) + (q.ends - p.ends)) (drop n (bytes ++ chunk))) same
    ∙ take-add (p.ends - p.from) (q.ends - p.ends) (drop p.from (bytes ++ chunk))
    ∙ ap (λ (t : List ℕ). t ++ take (q.ends - p.ends) (drop (p.ends - p.from) (drop p.from (bytes ++ chunk)))) (grown_text bytes chunk p parted)

pub grown_bad : (bytes chunk : List ℕ) (p : Part) → IsParted bytes p → p.is_bad ≡ true → IsBad (drop p.ends (bytes ++ chunk))
grown_bad bytes chunk p parted is =
    let bad = parted.left.1 is in
    let same : drop p.ends (bytes ++ chunk) ≡ drop p.ends bytes ++ chunk = drop-append-le p.ends bytes chunk parted.within in
    subst IsBad (sym same) (
      (λ none. omega (arith, ap length none, length-append (drop p.ends bytes) chunk, some_length (drop p.ends bytes) bad.0)),
      (λ more. subst NoCharacter (sym (append_assoc (drop p.ends bytes) chunk more)) (bad.1 (chunk ++ more))),
    )

pub grown_part : (ts : List Tree) (bytes chunk : List ℕ) (p q : Part) → IsPart ts bytes p → q.from ≡ p.from
    → (p.from ≤ p.ends → IsUtf8 (text_in (bytes ++ chunk) p) → (p.is_bad ≡ true → IsBad (drop p.ends (bytes ++ chunk))) → IsParted (bytes ++ chunk) q)
    → IsPart ts (bytes ++ chunk) q
grown_part ts bytes chunk p q part same read = record {
  parted = read part.parted.order (subst IsUtf8 (sym (grown_text bytes chunk p part.parted)) part.parted.utf8) (grown_bad bytes chunk p part.parted);
  nothing = λ more.
      subst (λ (n : ℕ). NoMatchBefore ts ((bytes ++ chunk) ++ more) n) (sym same)
      (subst (λ (t : List ℕ). NoMatchBefore ts t p.from) (sym (append_assoc bytes chunk more)) (part.nothing (chunk ++ more)));
}

-- what is left of it after a piece that ends in it
pub left_text : (bytes : List ℕ) (p : Part) (size : ℕ) → IsParted bytes p → p.from ≤ size → size ≤ p.ends
    → text_in (drop size bytes) (record { from = 0; ends = p.ends - size; is_bad = p.is_bad }) ≡ drop (size - p.from) (text_in bytes p)
left_text bytes p size parted from within =
    let count : (p.ends - size) - 0 ≡ (p.ends - p.from) - (size - p.from) = omega (arith, from, within) in
    let place : p.from + (size - p.from) ≡ size = omega (arith, from) in
    ap (λ (n : ℕ). take n (drop size bytes)) count
    ∙ ap (λ (t : List ℕ). take ((p.ends - p.from) - (size - p.from)) t) (sym (drop-drop (size - p.from) p.from bytes ∙ ap (λ (n : ℕ). drop n bytes) place))
    ∙ sym (drop-take (size - p.from) (p.ends - p.from) (drop p.from bytes) (omega (arith, within, from)) (omega (arith, length-drop p.from bytes, parted.within)))

pub left_parted : (bytes : List ℕ) (p : Part) (size : ℕ) → IsParted bytes p → p.from ≤ size → size ≤ p.ends
    → IsCharBoundary (text_in bytes p) (size - p.from) → IsParted (drop size bytes) (record { from = 0; ends = p.ends - size; is_bad = p.is_bad })
left_parted bytes p size parted from within begins = record {
  order = omega arith;
  within = omega (arith, length-drop size bytes, parted.within);
  utf8 = subst IsUtf8 (sym (left_text bytes p size parted from within)) (IsUtf8-drop (text_in bytes p) (size - p.from) parted.utf8 begins);
  left = subst (λ (t : List ℕ). IsLeft t p.is_bad) (sym (drop-drop (p.ends - size) size bytes ∙ ap (λ (n : ℕ). drop n bytes) (omega (arith, within)))) parted.left;
}

-- a part at the front: nothing is before it
pub front_part : (ts : List Tree) (bytes : List ℕ) (p : Part) → IsParted bytes p → p.from ≡ 0 → IsPart ts bytes p
front_part ts bytes p parted front = record { parted = parted; nothing = λ more n less m. absurd (omega (arith, less, front)) }

pub at_end_boundary : (text : List ℕ) (n : ℕ) → length text ≤ n → n ≤ length text → IsCharBoundary text n
at_end_boundary text n least most = (most, λ within high. absurd (omega (arith, within, least)))

-- ---- what a part tells

-- a piece by its rule and size
pub given_by : (ts : List Tree) (ps bytes : List ℕ) (over : Bool) (p : Part) (f : FrontPiece) (o : Option ℕ) (n : ℕ) → f.rule ≡ o → f.size ≡ n
    → IsGiven ts ps bytes over p (record { rule = o; size = n }) → IsGiven ts ps bytes over p f
given_by ts ps bytes over p f o n rule size is =
    subst (λ (k : ℕ). IsGiven ts ps bytes over p (record { rule = f.rule; size = k })) (sym size)
    (subst (λ (x : Option ℕ). IsGiven ts ps bytes over p (record { rule = x; size = n })) (sym rule) is)

module _ (ts : List Tree) (ps bytes : List ℕ) (p : Part) (over last : Bool) (part : IsPart ts bytes p) (is_last : last ≡ true → (p.is_bad ≡ true) ⊎ (over ≡ true)) where
  abbrev text : List ℕ
  text = text_in bytes p

  abbrev left : List ℕ
  left = drop p.ends bytes

  from_within : p.from ≤ length bytes
  from_within = omega (arith, part.parted.order, part.parted.within)

  behind : (more : List ℕ) → drop p.from (bytes ++ more) ≡ text ++ (left ++ more)
  behind more =
      drop-append-le p.from bytes more from_within ∙ ap (λ (t : List ℕ). t ++ more) (part_split bytes p part.parted) ∙ append_assoc text left more

  tail_none : (more : List ℕ) → (over ≡ true → more ≡ []) → last ≡ true → NoCharacter (left ++ more)
  tail_none more may is = no_character left more p.is_bad over part.parted.left (is_last is) may

  sizes : p.from + length text ≡ p.ends
  sizes = part_size bytes p part.parted

  front_here : p.from ≡ 0 → (more : List ℕ) → bytes ++ more ≡ text ++ (left ++ more)
  front_here front more = ap (λ (n : ℕ). drop n (bytes ++ more)) (sym front) ∙ behind more

  -- the piece, where nothing is before the text
  pub token_given : (o : Option ℕ) (n : ℕ) → Tells ts ps text last (Whole (record { rule = o; size = n })) → p.from ≡ 0
      → IsGiven ts ps bytes over p (record { rule = o; size = n })
  token_given o n told front = record {
    settled = λ more may.
        let here : IsFront ts ps (text ++ (left ++ more)) o (take n text) = told.1 (left ++ more) (tail_none more may) in
        let parts : bytes ≡ text ++ left = sym (append-nil bytes) ∙ front_here front [] ∙ ap (λ (t : List ℕ). text ++ t) (append-nil left) in
        let same : take n text ≡ take n bytes = sym (ap (take n) parts ∙ take-append-le n text left told.0.0) in
        subst (λ (q : List ℕ). IsFront ts ps (bytes ++ more) o q) same (subst (λ (t : List ℕ). IsFront ts ps t o (take n text)) (sym (front_here front more)) here);
    from = omega (arith, front);
    within = omega (arith, told.0.0, sizes, part.parted.within);
    boundary = λ _. subst (IsCharBoundary text) (omega (arith, front)) told.0;
  }

  in_fault : (o : Option ℕ) (n : ℕ) → IsCharBoundary text n → IsCharBoundary text (size_in_fault o n)
  in_fault None n begins = begins
  in_fault (Some i) n begins = IsCharBoundary-start text part.parted.utf8

  -- the fault that ends with a piece, or before it
  pub fault_given : (o : Option ℕ) (n size : ℕ) → Tells ts ps text last (Whole (record { rule = o; size = n })) → 0 < p.from → size ≡ p.from + size_in_fault o n
      → IsGiven ts ps bytes over p (record { rule = None; size = size })
  fault_given o n size told some is = record {
    settled = λ more may.
        let here : IsFront ts ps (text ++ (left ++ more)) o (take n text) = told.1 (left ++ more) (tail_none more may) in
        let there : IsFront ts ps (drop p.from (bytes ++ more)) o (take n text) = subst (λ (t : List ℕ). IsFront ts ps t o (take n text)) (sym (behind more)) here in
        let fault = front_after ts ps (bytes ++ more) o (take n text) p.from some (omega (arith, from_within, length-append bytes more)) (part.nothing more) there in
        let n_is : length (take n text) ≡ n = omega (arith, length-take n text, told.0.0) in
        let place : p.from + size_in_fault o (length (take n text)) ≡ size = ap (λ (k : ℕ). p.from + size_in_fault o k) n_is ∙ sym is in
        let front : take (p.from + size_in_fault o (length (take n text))) (bytes ++ more) ≡ take size bytes =
        ap (λ (k : ℕ). take k (bytes ++ more)) place ∙ take-append-le size bytes more size_within in
        subst (λ (q : List ℕ). IsFault ts (bytes ++ more) q) front fault;
    from = omega (arith, is);
    within = size_within;
    boundary = λ _. subst (IsCharBoundary text) (omega (arith, is)) (in_fault o n told.0);
  }
    where
      less : (o : Option ℕ) → size_in_fault o n ≤ n
      less None = omega arith
      less (Some i) = omega arith

      size_within : size ≤ length bytes
      size_within = omega (arith, is, less o, sizes, told.0.0, part.parted.within)

  -- something matches after it, and more may: the fault ends there all the same
  pub match_given : (void : ℕ) → Tells ts ps text last (Open true void) → 0 < p.from → IsGiven ts ps bytes over p (record { rule = None; size = p.from })
  match_given void told some = record {
    settled = λ more may.
        let match = matches_more ts text (left ++ more) 0 (told.2 refl) in
        let fault = fault_before ts (bytes ++ more) p.from some (part.nothing more) (match.0, subst (λ (t : List ℕ). IsMatch ts t match.0) (sym (behind more)) match.1) in
        subst (λ (q : List ℕ). IsFault ts (bytes ++ more) q) (take-append-le p.from bytes more from_within) fault;
    from = omega arith;
    within = from_within;
    boundary = λ _. subst (IsCharBoundary text) (omega arith) (IsCharBoundary-start text part.parted.utf8);
  }

  -- it is open
  front_open : p.from ≡ 0 → p.is_bad ≡ false → IsOpen ts text → IsOpenIn ts bytes
  front_open front goes is =
      let parts : bytes ≡ text ++ left = sym (append-nil bytes) ∙ front_here front [] ∙ ap (λ (t : List ℕ). text ++ t) (append-nil left) in
      (text, (left, (parts, (part.parted.left.0 goes, is))))

  after_open : p.is_bad ≡ false → NoMatchBefore ts text 1 → IsOpen ts text → IsOpenIn ts bytes
  after_open goes none is =
      let front : List ℕ = take p.from bytes in
      let whole : bytes ≡ (front ++ text) ++ left =
      sym (take-append-drop p.from bytes) ∙ ap (λ (t : List ℕ). front ++ t) (part_split bytes p part.parted) ∙ sym (append_assoc front text left) in
      let size : p.from ≡ length front = omega (arith, length-take p.from bytes, from_within) in
      let all : bytes ++ [] ≡ (front ++ text) ++ left = append-nil bytes ∙ whole in
      let before : NoMatchBefore ts (front ++ text) (length front) =
      none_shorter ts (front ++ text) left (length front)
      (subst (λ (n : ℕ). NoMatchBefore ts ((front ++ text) ++ left) n) size (subst (λ (t : List ℕ). NoMatchBefore ts t p.from) all (part.nothing []))) in
      (front ++ text, (left, (whole, (part.parted.left.0 goes, open_after ts front text before none is))))

  pub open_held : (is_match : Bool) (void : ℕ) → Tells ts ps text last (Open is_match void) → (is_match ≡ true → p.from ≡ 0) → p.is_bad ≡ false → IsOpenIn ts bytes
  open_held true void told first goes = front_open (first refl) goes told.1
  open_held false void told first goes = after_open goes (told.3 refl) told.1

  pub longer_held : BeginsLonger ts text → (0 < p.from → NoMatchBefore ts text 1) → p.is_bad ≡ false → IsOpenIn ts bytes
  longer_held longer none goes = elim (cases_lt 0 p.from) [
    | inl some ↦ after_open goes (none some) (inr (0, (part.parted.utf8, inl refl, longer)))
    | inr first ↦ front_open (omega (arith, first)) goes (inr (0, (part.parted.utf8, inl refl, longer)))
  ]

  -- nothing matches in it
  pub void_told : Tells ts ps text last Nothing → TellsTurn ts ps bytes over p Void
  void_told told = (ended, nothing)
    where
      ended : p.is_bad ≡ false → over ≡ true
      ended goes = elim (is_last told.0) [ inl bad ↦ (let e = sym bad ∙ goes in absurd (cc)) | inr is ↦ is ]

      tail : (more : List ℕ) (b : Bool) → p.is_bad ≡ b → (p.is_bad ≡ false → more ≡ []) → NoCharacter (left ++ more)
      tail more true is may = (part.parted.left.1 is).1 more
      tail more false is may = subst NoCharacter (sym (ap (λ (t : List ℕ). left ++ t) (may is) ∙ append-nil left)) (part.parted.left.0 is).0

      nothing : (more : List ℕ) → (p.is_bad ≡ false → more ≡ []) → NoMatchBefore ts (bytes ++ more) p.ends
      nothing more may =
          subst (λ (n : ℕ). NoMatchBefore ts (bytes ++ more) n) sizes
          (none_after ts (bytes ++ more) p.from (length text) (part.nothing more)
          (subst (λ (t : List ℕ). NoMatchBefore ts t (length text)) (sym (behind more)) (told.1 (left ++ more) (tail more p.is_bad refl may))))

-- where nothing matches in a part, nothing does at the byte of no character that follows
pub bad_void : (ts : List Tree) (ps bytes : List ℕ) (p : Part) (over : Bool) → IsParted bytes p → TellsTurn ts ps bytes over p Void → p.is_bad ≡ true
    → (more : List ℕ) → NoMatchBefore ts (bytes ++ more) (p.ends + 1)
bad_void ts ps bytes p over parted void is more =
    let left : drop p.ends (bytes ++ more) ≡ drop p.ends bytes ++ more = drop-append-le p.ends bytes more parted.within in
    let none : NoMatchBefore ts (drop p.ends (bytes ++ more)) 1 =
    subst (λ (t : List ℕ). NoMatchBefore ts t 1) (sym left) (none_at ts (drop p.ends bytes ++ more) (none_at_front ts (drop p.ends bytes ++ more) ((parted.left.1 is).1 more))) in
    none_after ts (bytes ++ more) p.ends 1 (void.1 more (λ goes. let e = sym is ∙ goes in absurd (cc))) none

pub bad_within : (bytes : List ℕ) (p : Part) → IsParted bytes p → p.is_bad ≡ true → p.ends + 1 ≤ length bytes
bad_within bytes p parted is = omega (arith, some_length (drop p.ends bytes) (parted.left.1 is).0, length-drop p.ends bytes)

-- where nothing comes, all is a fault
pub all_given : (ts : List Tree) (ps bytes : List ℕ) (p : Part) (over : Bool) → IsPart ts bytes p → TellsTurn ts ps bytes over p Void → p.is_bad ≡ false → bytes ≢ []
    → IsGiven ts ps bytes over p (record { rule = None; size = length bytes })
all_given ts ps bytes p over part void goes some = record {
  settled = λ more may.
      let none : more ≡ [] = may (void.0 goes) in
      let all : bytes ++ more ≡ bytes = ap (λ (t : List ℕ). bytes ++ t) none ∙ append-nil bytes in
      let before : NoMatchBefore ts bytes p.ends = subst (λ (t : List ℕ). NoMatchBefore ts t p.ends) all (void.1 more (λ _. none)) in
      let behind : NoMatchBefore ts (drop p.ends bytes) (length (drop p.ends bytes)) = none_in_begun ts (drop p.ends bytes) (part.parted.left.0 goes) in
      let size : p.ends + length (drop p.ends bytes) ≡ length bytes = omega (arith, length-drop p.ends bytes, part.parted.within) in
      let nothing : NoMatchBefore ts bytes (length bytes) =
      subst (λ (n : ℕ). NoMatchBefore ts bytes n) size (none_after ts bytes p.ends (length (drop p.ends bytes)) before behind) in
      subst (λ (t : List ℕ). IsFault ts t (take (length bytes) bytes)) (sym all)
      (subst (λ (q : List ℕ). IsFault ts bytes q) (sym (take-length bytes)) (fault_whole ts bytes some nothing));
  from = omega (arith, part.parted.order, part.parted.within);
  within = omega arith;
  boundary = λ within.
      at_end_boundary (text_in bytes p) (length bytes - p.from) (omega (arith, part_size bytes p part.parted, part.parted.within))
      (omega (arith, part_size bytes p part.parted, within, part.parted.within));
}

pub all_or_none : (ts : List Tree) (ps bytes : List ℕ) (over : Bool) (p : Part) → IsPart ts bytes p → TellsTurn ts ps bytes over p Void → p.is_bad ≡ false
    → (found : Option FrontPiece) → IfSome found (λ f. (bytes ≢ []) × (f.rule ≡ None) × (f.size ≡ length bytes)) → IfSome found (IsGiven ts ps bytes over p)
all_or_none ts ps bytes over p part void goes None is = tt
all_or_none ts ps bytes over p part void goes (Some f) is = given_by ts ps bytes over p f None (length bytes) is.1 is.2 (all_given ts ps bytes p over part void goes is.0)

-- the text of a part that begins later
pub void_text : (bytes : List ℕ) (p : Part) (n : ℕ) → IsParted bytes p → p.from + n ≤ p.ends → text_in bytes (record p { from = p.from + n }) ≡ drop n (text_in bytes p)
void_text bytes p n parted order =
    let count : p.ends - (p.from + n) ≡ (p.ends - p.from) - n = omega arith in
    ap (λ (k : ℕ). take k (drop (p.from + n) bytes)) count
    ∙ ap (λ (t : List ℕ). take ((p.ends - p.from) - n) t) (sym (drop-drop n p.from bytes))
    ∙ sym (drop-take n (p.ends - p.from) (drop p.from bytes) (omega (arith, order)) (omega (arith, length-drop p.from bytes, parted.within)))

-- where nothing matches at the front of its text, the part goes on after it
pub void_part : (ts : List Tree) (bytes : List ℕ) (p : Part) (n : ℕ) → IsPart ts bytes p → IsVoidTo ts (text_in bytes p) n → IsPart ts bytes (record p { from = p.from + n })
void_part ts bytes p n part void =
    let size = part_size bytes p part.parted in
    let order : p.from + n ≤ p.ends = omega (arith, size, void.begins.0) in
    let count : p.ends - (p.from + n) ≡ (p.ends - p.from) - n = omega arith in
    let text : text_in bytes (record p { from = p.from + n }) ≡ drop n (text_in bytes p) = void_text bytes p n part.parted order in record {
      parted = record {
        order = order;
        within = part.parted.within;
        utf8 = subst IsUtf8 (sym text) (IsUtf8-drop (text_in bytes p) n part.parted.utf8 void.begins);
        left = part.parted.left;
      };
      nothing = λ more.
          none_after ts (bytes ++ more) p.from n (part.nothing more)
          (subst (λ (t : List ℕ). NoMatchBefore ts t n) (sym (drop-append-le p.from bytes more (omega (arith, part.parted.order, part.parted.within)) ∙ ap (λ (t : List ℕ). t ++ more) (part_split bytes p part.parted) ∙ append_assoc (text_in bytes p) (drop p.ends bytes) more))
          (void.nothing (drop p.ends bytes ++ more)));
    }

-- ---- bytes that are moved

pub shifted : (bytes : List ℕ) (n end : ℕ) → end ≡ length bytes → n ≤ length bytes → take (length bytes - n) (copy_within bytes n end 0) ≡ drop n bytes
shifted bytes n end all within =
    let left : ℕ = length bytes - n in
    let size : length (drop n bytes) ≡ left = length-drop n bytes in
    let zero : 0 + left ≡ left = omega arith in
    ap (λ (e : ℕ). take left (paste bytes 0 (drop n bytes) (e - n))) all ∙ ap (λ (k : ℕ). take k (paste bytes 0 (drop n bytes) left)) (sym zero)
    ∙ take-paste bytes 0 (drop n bytes) left (omega arith) (omega (arith, size))
    ∙ take_all left (drop n bytes) (omega (arith, size))

-- ---- where a fault begins

pub fault_may : (ts : List Tree) (bytes text left : List ℕ) (is_bad over last : Bool) → bytes ≡ text ++ left → IsLeft left is_bad
    → (last ≡ true → (is_bad ≡ true) ⊎ (over ≡ true)) → ((tail : List ℕ) → (last ≡ true → NoCharacter tail) → NoMatchBefore ts (text ++ tail) 1)
    → (more : List ℕ) → (over ≡ true → more ≡ []) → NoMatchBefore ts (bytes ++ more) 1
fault_may ts bytes text left is_bad over last parts is_left is_last none more may =
    subst (λ (t : List ℕ). NoMatchBefore ts t 1) (sym (ap (λ (t : List ℕ). t ++ more) parts ∙ append_assoc text left more))
    (none (left ++ more) (λ is. no_character left more is_bad over is_left (is_last is) may))

pub match_may : (ts : List Tree) (bytes text left : List ℕ) (is_bad over last : Bool) → bytes ≡ text ++ left → IsUtf8 text → IsLeft left is_bad
    → (last ≡ false → (is_bad ≡ false) × (over ≡ false)) → MatchesAt ts text 0 ⊎ ((last ≡ false) × BeginsLonger ts text)
    → MatchesAt ts bytes 0 ⊎ ((over ≡ false) × MayBegin ts bytes)
match_may ts bytes text left is_bad over last parts u is_left goes (inl m) =
    inl (subst (λ (t : List ℕ). MatchesAt ts t 0) (sym parts) (matches_more ts text left 0 m))
match_may ts bytes text left is_bad over last parts u is_left goes (inr (not_last, longer)) =
    let g = goes not_last in inr (g.1, (text, (left, (parts, (u, (is_left.0 g.0, longer))))))
