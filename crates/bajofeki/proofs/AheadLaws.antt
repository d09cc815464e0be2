-- Tokens that are found ahead are settled, whatever comes.
use Rattle.std.proofs.Common.{◌≡◌, ◌≢◌, Bool, ℕ, ◌+◌, ◌-◌, ◌<◌, ◌≤◌, inl, inr, List, [], ◌∷◌, ◌++◌, length, take, drop, refl, sym, ap, subst, ◌∙◌, arith, length-append, length-take}
use Rattle.std.specs.Prelude.{Option, Some, true, false, slice_get}
use Rattle.std.specs.Char.{encode_utf8}
use Rattle.std.specs.Str.{chars, encode_utf8_all, IsUtf8, IsCharBoundary}
use Rattle.std.specs.List.{All}
use Rattle.std.proofs.lemmas.List.{append_assoc, drop-drop, take-append-drop, take-append-le, take_at}
use Rattle.std.proofs.lemmas.List.Elements.{All-head, All-tail}
use Rattle.std.proofs.lemmas.Str.{encode_same, IsUtf8-take, IsUtf8-drop, IsCharBoundary-from_take}
use Rattle.lalrpop_hir.specs.Tree.{Tree}
use Rattle.lalrpop_hir.specs.Word.{IsWord}
use Rattle.lalrpop_hir.specs.Longest.{IsLongest}
use Rattle.lalrpop_hir.specs.Prefix.{IsPrefix}
use Rattle.lalrpop_hir.proofs.Cuts.{IsCut, cut_more, cut_within, word_after}
use Rattle.lalrpop_hir.proofs.Strongest.{IsOnlyStrongest-from_greatest}
use Rattle.lalrpop_dfa.specs.Dfa.{Row, Recognizes, RecognizesAll}
use Rattle.lalrpop_dense.specs.Leading.{IsDeadEnd, IsDeadAt, IsEnd, IsStopped, AreAhead}
use Rattle.lalrpop_dense.specs.Rules.{IsBuiltFrom}
use Rattle.bajofeki.specs.declared.found_ahead.FoundAhead.{FoundAhead}
use Rattle.lalrpop_rules.specs.Modes.{ModeRules, trees_in}
use Rattle.bajofeki.specs.declared.kept.Kept.{Kept}
use Rattle.bajofeki.specs.declared.parts.Part.{Part}
use Rattle.bajofeki.specs.declared.parts.FrontPiece.{FrontPiece}
use Rattle.bajofeki.specs.declared.parts.Told.TheVariants.{Whole}
use Rattle.bajofeki.specs.Internal.Ahead.{AreFound, AreFoundAfter, IsFirst, IsKeptOf, LeadOn, LeadOnAfter}
use Rattle.bajofeki.specs.Internal.Kept.{IsFront, IsKept}
use Rattle.bajofeki.specs.Internal.Parts.{IsGiven, IsPart, IsParted, Tells, text_in}
use Rattle.bajofeki.specs.Internal.Reach.{AreAlike, IsSettledBy}
use Rattle.bajofeki.proofs.FrontCosts.{boundary_left}
use Rattle.bajofeki.proofs.Places.{front_kept}
use Rattle.bajofeki.proofs.PartLaws.{part_size, token_given}
use Rattle.bajofeki.proofs.Settling.{token_settled}

recognizes : (d : List Row) (ts : List Tree) (ps : List ℕ) → RecognizesAll d ts ps → Recognizes d ts ps
recognizes d ts ps h = record { kinds = λ w word. h.kinds w; stays = λ p c fits. h.stays p c }

scalars_word : (v : List ℕ) → All (λ c. c < 1114112) v → IsWord v
scalars_word [] h = tt
scalars_word (c ∷ v) h =
    (let below : c < 1114112 = All-head (λ n. n < 1114112) c v h in omega (arith, below), scalars_word v (All-tail (λ n. n < 1114112) c v h))

-- a dead end settles what matches
dead_settles : (d : List Row) (ts : List Tree) (ps text : List ℕ) (n : ℕ) → RecognizesAll d ts ps → IsUtf8 text → IsDeadAt d text n → IsSettledBy ts text n
dead_settles d ts ps text n h u dead = inr (
  take n text,
  (
    (drop n text, (sym (take-append-drop n text), IsUtf8-take text n u dead.boundary)),
    omega (arith, length-take n text),
    λ v scalars some. dead.dead ts ps v (recognizes d ts ps h) (scalars_word v scalars),
  ),
)

-- so the token is at the front of each text that begins with this one
pub dead_told : (d : List Row) (ts : List Tree) (ps text slice : List ℕ) (f : FrontPiece) (i n : ℕ) → IsBuiltFrom ts ps d → IsUtf8 text → IsLongest ts ps text (Some (i, slice))
    → slice ≡ take f.size text → IsCharBoundary text f.size → f.rule ≡ Some i → IsDeadAt d text n → Tells ts ps text false (Whole f)
dead_told d ts ps text slice f i n built u longest cut boundary rule dead = (
  boundary,
  λ tail none.
      let alike : AreAlike n text (text ++ tail) = sym (take-append-le n text tail dead.boundary.0) in
      let front : IsFront ts ps (text ++ tail) (Some i) slice =
      token_settled ts ps text (text ++ tail) i slice n (longest, IsOnlyStrongest-from_greatest ts ps (chars slice) i built.no_clash longest.2)
      (dead_settles d ts ps text n built.stands u dead) alike in
      subst (λ (o : Option ℕ). IsFront ts ps (text ++ tail) o (take f.size text)) (sym rule) (subst (λ (p : List ℕ). IsFront ts ps (text ++ tail) (Some i) p) cut front),
)

-- the character after a token that was found ahead makes a dead end
end_dead : (d : List Row) (text : List ℕ) (n : ℕ) → IsUtf8 text → IsCharBoundary text n → (s : IsStopped d (chars (take n text)) (drop n text))
    → IsDeadAt d text (n + length (encode_utf8 s.next))
end_dead d text n u begins s =
    let cut : IsCut text n (drop n text) = record {
      split = sym (take-append-drop n text);
      place = omega (arith, length-take n text, begins.0);
      seen_utf8 = IsUtf8-take text n u begins;
      rest_utf8 = IsUtf8-drop text n u begins;
    } in
    let n2 = n + length (encode_utf8 s.next) in
    let more : IsCut text n2 s.rest = cut_more text (drop n text) s.rest n n2 s.next u cut s.split refl in
    record {
      boundary = IsCharBoundary-from_take text n2 u (omega (arith, cut_within text s.rest n2 more)) more.seen_utf8;
      dead = subst (IsDeadEnd d) (sym (word_after text (drop n text) s.rest n n2 s.next cut s.split refl)) s.dead;
    }

-- so it is at the front of each text that begins with this one
pub end_told : (d : List Row) (ts : List Tree) (ps text : List ℕ) (f : FrontPiece) (i : ℕ) → IsBuiltFrom ts ps d → IsUtf8 text → IsEnd d text 0 i f.size → f.rule ≡ Some i
    → Tells ts ps text false (Whole f)
end_told d ts ps text f i built u e rule =
    let size : f.size - 0 ≡ f.size = omega arith in
    let stopped : IsStopped d (chars (take f.size text)) (drop f.size text) = subst (λ (n : ℕ). IsStopped d (chars (take n text)) (drop f.size text)) size e.stopped in
    let longest : IsLongest ts ps text (Some (i, take f.size text)) =
    subst (λ (n : ℕ). IsLongest ts ps text (Some (i, take n text))) size (e.longest ts ps (recognizes d ts ps built.stands)) in
    dead_told d ts ps text (take f.size text) f i (f.size + length (encode_utf8 stopped.next)) built u longest refl e.boundary rule
    (end_dead d text f.size u e.boundary stopped)

-- ---- the first of them

end_in_rest : (d : List Row) (whole : List ℕ) (at i e size : ℕ) → IsEnd d whole at i e → size ≡ e - at → IsEnd d (drop at whole) 0 i size
end_in_rest d whole at i e size h is =
    let behind : at ≤ e = omega (arith, h.some) in
    let place : at + size ≡ e = omega (arith, is, behind) in
    let left : drop size (drop at whole) ≡ drop e whole = drop-drop size at whole ∙ ap (λ (k : ℕ). drop k whole) place in
    let same : e - at ≡ size - 0 = omega (arith, is) in
    record {
      some = omega (arith, is, h.some);
      boundary = subst (IsCharBoundary (drop at whole)) (sym is) (boundary_left whole at e behind h.boundary);
      longest = λ ts ps s. subst (λ (n : ℕ). IsLongest ts ps (drop at whole) (Some (i, take n (drop at whole)))) same (h.longest ts ps s);
      stopped =
          subst (λ (n : ℕ). IsStopped d (chars (take n (drop at whole))) (drop size (drop at whole))) same
          (subst (IsStopped d (chars (take (e - at) (drop at whole)))) (sym left) h.stopped);
    }

pub first_found : (d : List Row) (text : List ℕ) (a b : FoundAhead) (f : FrontPiece) (i e : ℕ) → LeadOn d text a → a.ends ≡ (i, e) ∷ b.ends → b.at ≡ e → f.rule ≡ Some i → f.size ≡ e - a.at
    → IsFirst d text f b
first_found d text a b f i e lead ends at rule size =
    let whole = lead.0 in
    let ahead : AreAhead d whole a.at ((i, e) ∷ b.ends) = subst (AreAhead d whole a.at) ends lead.1.1 in
    let here : IsEnd d (drop a.at whole) 0 i f.size = end_in_rest d whole a.at i e f.size ahead.0 size in
    let place : a.at + f.size ≡ e = omega (arith, size, ahead.0.some) in
    let left : drop b.at whole ≡ drop f.size text =
    ap (λ (k : ℕ). drop k whole) (at ∙ sym place) ∙ sym (drop-drop f.size a.at whole) ∙ ap (drop f.size) lead.1.0 in
    (i, (rule, subst (λ (t : List ℕ). IsEnd d t 0 i f.size) lead.1.0 here, (whole, (left, subst (λ (n : ℕ). AreAhead d whole n b.ends) (sym at) ahead.1))))

-- ---- a run with a limit

pub run_told : (d : List Row) (ts : List Tree) (ps text slice : List ℕ) (f : FrontPiece) (i n : ℕ) → IsBuiltFrom ts ps d → IsUtf8 text
    → ((us : List Tree) (qs : List ℕ) → Recognizes d us qs → IsLongest us qs text (Some (i, slice))) → IsPrefix slice text → f.rule ≡ Some i → f.size ≡ length slice
    → IsDeadAt d text n → Tells ts ps text false (Whole f)
run_told d ts ps text slice f i n built u longest (rest, (split, utf8)) rule size dead =
    let cut : take f.size text ≡ slice = ap (λ (k : ℕ). take k text) size ∙ ap (take (length slice)) split ∙ take_at slice rest (length slice) refl in
    let begins : IsCharBoundary text f.size =
    IsCharBoundary-from_take text f.size u (omega (arith, size, ap length split, length-append slice rest)) (subst IsUtf8 (sym cut) utf8) in
    dead_told d ts ps text slice f i n built u (longest ts ps (recognizes d ts ps built.stands)) (sym cut) begins rule dead

-- ---- in a part of bytes

-- where some are found, the part begins the bytes
pub found_first : (r : ModeRules) (mode : ℕ) (bytes : List ℕ) (p : Part) (a : FoundAhead) → AreFound r mode bytes p a → a.ends ≢ []
    → (p.from ≡ 0) × ((d : List Row) → slice_get r.automata mode ≡ Some d → LeadOn d (text_in bytes p) a)
found_first r mode bytes p a (inl none) some = absurd (some none)
found_first r mode bytes p a (inr (first, inl none)) some = absurd (some none)
found_first r mode bytes p a (inr (first, inr (within, lead))) some = (first, lead)

pub first_given : (r : ModeRules) (mode : ℕ) (bytes : List ℕ) (p : Part) (over : Bool) (d : List Row) (f : FrontPiece) (a : FoundAhead) → IsPart (trees_in r mode) bytes p
    → IsBuiltFrom (trees_in r mode) r.precedences d → p.from ≡ 0 → IsFirst d (text_in bytes p) f a → IsGiven (trees_in r mode) r.precedences bytes over p f
first_given r mode bytes p over d f a part built front first =
    token_given (trees_in r mode) r.precedences bytes p over false part (λ is. absurd (cc)) f.rule f.size
    (end_told d (trees_in r mode) r.precedences (text_in bytes p) f first.0 built part.parted.utf8 first.1.1 first.1.0) front

-- what leads on after a piece leads on in what is left, in the same mode
module _ (r : ModeRules) (mode mode2 size : ℕ) (a b : FoundAhead) (same : Bool)
    (kept : same ≡ true → (mode2 ≡ mode) × ((b.ends ≡ a.ends) × (b.at ≡ a.at))) (none : same ≡ false → b.ends ≡ []) where
  none_behind : (t : Bool) → same ≡ t → a.ends ≡ [] → b.ends ≡ []
  none_behind true is empty = (kept is).1.0 ∙ empty
  none_behind false is empty = none is

  lead_in : (text : List ℕ) (t : Bool) → same ≡ t → (size ≤ length text) × ((d : List Row) → slice_get r.automata mode ≡ Some d → LeadOn d (drop size text) a)
      → LeadOnAfter r mode2 (drop size text) 0 b
  lead_in text false is lead = inl (none is)
  lead_in text true is (within, lead) =
      let k = kept is in
      inr (
        omega arith,
        λ d there.
            let l = lead d (subst (λ (m : ℕ). slice_get r.automata m ≡ Some d) k.0 there) in (
              l.0,
              (
                ap (λ (n : ℕ). drop n l.0) k.1.1 ∙ l.1.0,
                subst (λ (n : ℕ). AreAhead d l.0 n b.ends) (sym k.1.1) (subst (λ (es : List (ℕ × ℕ)). AreAhead d l.0 a.at es) (sym k.1.0) l.1.1),
              ),
            ),
      )

  pub lead_behind : (text : List ℕ) → LeadOnAfter r mode text size a → LeadOnAfter r mode2 (drop size text) 0 b
  lead_behind text (inl empty) = inl (none_behind same refl empty)
  lead_behind text (inr lead) = lead_in text same refl lead

  -- and what is found after a piece of the part is found there
  pub found_behind : (bytes left : List ℕ) (p q : Part) → AreFoundAfter r mode bytes p size a → IsParted bytes p → q.from ≡ 0
      → (p.from ≡ 0 → size ≤ p.ends → text_in left q ≡ drop size (text_in bytes p)) → AreFound r mode2 left q b
  found_behind bytes left p q (inl empty) parted front text = inl (none_behind same refl empty)
  found_behind bytes left p q (inr (first, inl empty)) parted front text = inl (none_behind same refl empty)
  found_behind bytes left p q (inr (first, inr lead)) parted front text =
      let is : text_in left q ≡ drop size (text_in bytes p) = text first (omega (arith, lead.0, first, part_size bytes p parted)) in
      inr (front, subst (λ (t : List ℕ). LeadOnAfter r mode2 t 0 b) (sym is) (lead_in (text_in bytes p) same refl lead))

-- ---- what is kept of a token that is found ahead

-- a text that holds a part of a character holds all of it
whole_char : (c : ℕ) (rest more tail : List ℕ) → IsUtf8 more → more ≢ [] → encode_utf8 c ++ rest ≡ more ++ tail → length (encode_utf8 c) ≤ length more
whole_char c rest more tail (cs, (scalars, is)) some split = by cs is
  where
    by : (cs : List ℕ) → encode_utf8_all cs ≡ more → length (encode_utf8 c) ≤ length more
    by [] is = absurd (some (sym is))
    by (d ∷ ds) is =
        let joined : encode_utf8 d ++ (encode_utf8_all ds ++ tail) ≡ encode_utf8 c ++ rest =
        sym (append_assoc (encode_utf8 d) (encode_utf8_all ds) tail) ∙ ap (λ (t : List ℕ). t ++ tail) is ∙ sym split in
        let same : d ≡ c = (encode_same d c (encode_utf8_all ds ++ tail) rest joined).0 in
        omega (arith, ap length (sym is), length-append (encode_utf8 d) (encode_utf8_all ds), ap (λ (n : ℕ). length (encode_utf8 n)) same)

-- no character begins between the token's end and the place after the next character
none_between : (text rest : List ℕ) (c size n : ℕ) → IsUtf8 text → IsCharBoundary text size → drop size text ≡ encode_utf8 c ++ rest → size < n → n < size + length (encode_utf8 c)
    → n ≤ length text → ¬ IsUtf8 (take n text)
none_between text rest c size n u begins split above below within front =
    let there : IsCharBoundary text n = IsCharBoundary-from_take text n u within front in
    let more : List ℕ = take (n - size) (drop size text) in
    let place : size + (n - size) ≡ n = omega (arith, above) in
    let here : IsCharBoundary (drop size text) (n - size) = boundary_left text size n (omega (arith, above)) there in
    let utf8 : IsUtf8 more = IsUtf8-take (drop size text) (n - size) (IsUtf8-drop text size u begins) here in
    let long : length more ≡ n - size = omega (arith, length-take (n - size) (drop size text), here.0) in
    let is : encode_utf8 c ++ rest ≡ more ++ drop (n - size) (drop size text) = sym split ∙ sym (take-append-drop (n - size) (drop size text)) in
    let all = whole_char c rest more (drop (n - size) (drop size text)) utf8 (λ none. omega (arith, ap length none, long, above)) is in
    omega (arith, all, long, below, above)

pub first_kept : (r : ModeRules) (mode : ℕ) (d : List Row) (text : List ℕ) (f : FrontPiece) (k : Kept) (a : FoundAhead) → IsBuiltFrom (trees_in r mode) r.precedences d → IsUtf8 text
    → IsFirst d text f a → IsKeptOf text f k → IsKept r mode text k
first_kept r mode d text f k a built u first kept =
    let ts = trees_in r mode in
    let i = first.0 in
    let e = first.1.1 in
    let zero_less : f.size - 0 ≡ f.size = omega arith in
    let stopped : IsStopped d (chars (take f.size text)) (drop f.size text) = subst (λ (n : ℕ). IsStopped d (chars (take n text)) (drop f.size text)) zero_less e.stopped in
    let longest : IsLongest ts r.precedences text (Some (i, take f.size text)) =
    subst (λ (n : ℕ). IsLongest ts r.precedences text (Some (i, take n text))) zero_less (e.longest ts r.precedences (recognizes d ts r.precedences built.stands)) in
    let c = kept.next in
    let same : c ≡ stopped.next = (encode_same c stopped.next kept.rest stopped.rest (sym kept.split ∙ stopped.split)).0 in
    let n = f.size + length (encode_utf8 stopped.next) in
    let far : f.size + length (encode_utf8 c) ≡ n = ap (λ (x : ℕ). f.size + length (encode_utf8 x)) same in
    let settled : IsSettledBy ts text n = dead_settles d ts r.precedences text n built.stands u (end_dead d text f.size u e.boundary stopped) in
    let long : length (take f.size text) ≡ f.size = omega (arith, length-take f.size text, e.boundary.0) in
    let only = IsOnlyStrongest-from_greatest ts r.precedences (chars (take f.size text)) i built.no_clash longest.2 in
    front_kept r mode text k (Some i) f.size n
    (λ other alike. (take f.size text, (long, token_settled ts r.precedences text other i (take f.size text) n (longest, only) settled alike)))
    (λ m above below within front. absurd (none_between text kept.rest c f.size m u e.boundary kept.split above (omega (arith, far, below)) within front))
    (kept.rule ∙ first.1.0, kept.size, kept.reach ∙ far)
