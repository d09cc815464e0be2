-- A text of tokens grows by one token after another.
use Rattle.std.proofs.Common.{◌≡◌, ℕ, ◌+◌, ◌-◌, ◌<◌, ◌≤◌, ◌⊎◌, ◌↔◌, inl, inr, List, [], ◌∷◌, ◌++◌, length, take, map, get_or, refl, sym, ap, subst, ◌∙◌, arith, length-append, append_assoc, eq-eqb}
use Rattle.std.specs.Prelude.{Some, slice_get, IsTrue, ◌==◌}
use Rattle.std.proofs.lemmas.Bool.{eqb-true}
use Rattle.std.specs.Str.{chars}
use Rattle.std.proofs.lemmas.List.{append-nil, nil_from_length, take_more, take_all}
use Rattle.std.proofs.lemmas.List.Elements.{All-nil, All-push}
use Rattle.std.specs.Option.{option_map}
use Rattle.std.proofs.lemmas.Option.{get_or_from_slice_get, slice_get_within, slice_get-map, slice_get_read, some_pair_parts}
use Rattle.lalrpop_hir.specs.Tree.{Tree}
use Rattle.lalrpop_hir.specs.Longest.{IsLongest}
use Rattle.lalrpop_hir.specs.Winners.{IsOnlyStrongest}
use Rattle.lalrpop_hir.specs.Tokens.{IsToken, AreTokens}
use Rattle.lalrpop_hir.specs.declared.token.Token.{Token}
use Rattle.lalrpop_hir.proofs.Longests.{longest-unique}
use Rattle.lalrpop_dense.specs.Neighbours.{CanFollow, IsParted, text_of, IsWhole, CanPart, CanPartAll, placed}
use Rattle.lalrpop_lexer.specs.Joined.{plain, IsJoined, CanJoin, IsJoinError}
use Rattle.lalrpop_lexer.specs.declared.join_error.JoinError.TheVariants.{Inseparable}
use Rattle.lalrpop_lexer.specs.Internal.Joining.{IsBetween, IsJoinedUpTo}
use Rattle.lalrpop_dense.proofs.NeighbourLaws.{parted_cut_back}

-- ---- whether a token is what is cut from its text

pub whole_if_found : (ts : List Tree) (ps : List ℕ) (x : ℕ × List ℕ) (found : Token) → IsToken ts ps x.1 0 found → found.index ≡ x.0 → length found.slice.now ≡ length x.1
    → IsWhole ts ps x
whole_if_found ts ps x found is same size =
    let front = is.1.0.0 in
    let none : front.0 ≡ [] = nil_from_length front.0 (omega (arith, ap length front.1.0, length-append found.slice.now front.0)) in
    let text : found.slice.now ≡ x.1 = sym (front.1.0 ∙ ap (λ (r : List ℕ). found.slice.now ++ r) none ∙ append-nil found.slice.now) in (
      subst (λ (i : ℕ). IsLongest ts ps x.1 (Some (i, x.1))) same (subst (λ (t : List ℕ). IsLongest ts ps x.1 (Some (found.index, t))) text is.1),
      subst (λ (i : ℕ). IsOnlyStrongest ts ps (chars x.1) i) same (subst (λ (t : List ℕ). IsOnlyStrongest ts ps (chars t) found.index) text is.2),
    )

pub found_if_whole : (ts : List Tree) (ps : List ℕ) (x : ℕ × List ℕ) (found : Token) → IsToken ts ps x.1 0 found → IsWhole ts ps x → (found.index ≡ x.0) × (found.slice.now ≡ x.1)
found_if_whole ts ps x found is whole = some_pair_parts found.index x.0 found.slice.now x.1 (longest-unique ts ps x.1 _ _ is.1 whole.0)

-- where the trees are the same, the lengths decide
pub decided_by_length : (ts : List Tree) (ps : List ℕ) (x : ℕ × List ℕ) (found : Token) → IsToken ts ps x.1 0 found → found.index ≡ x.0
    → IsTrue (length found.slice.now == length x.1) ↔ IsWhole ts ps x
decided_by_length ts ps x found is same = (
  (λ e. whole_if_found ts ps x found is same (eqb-true (length found.slice.now) (length x.1) e)),
  (λ whole. eq-eqb (length found.slice.now) (length x.1) (ap length (found_if_whole ts ps x found is whole).1)),
)

-- ---- the token at a place
pub plain_at : (tokens : List Token) (i : ℕ) (token : Token) → i < length tokens → token ≡ get_or tokens i token → slice_get (map plain tokens) i ≡ Some (plain token)
plain_at tokens i token less read = slice_get-map plain tokens i ∙ ap (option_map plain) (slice_get_read tokens (length tokens) i token refl less read)

-- two tokens that nothing keeps apart
pub inseparable_at : (ts : List Tree) (ps : List ℕ) (sep : ℕ × List ℕ) (tokens : List Token) (n : ℕ) (x y : Token) → 0 < n → n < length tokens
    → x ≡ get_or tokens (n - 1) x → y ≡ get_or tokens n y → (¬ CanFollow ts ps x.index y.index) → (¬ CanPart ts ps sep (plain x) (plain y))
    → CanJoin ts ps sep (take n (map plain tokens)) → IsJoinError ts ps sep (map plain tokens) (Inseparable (n - 1))
inseparable_at ts ps sep tokens n x y some less read_x read_y far apart can =
    let back : n - 1 + 1 ≡ n = omega arith in (
      plain x,
      plain y,
      (
        plain_at tokens (n - 1) x (omega arith) read_x,
        subst (λ (k : ℕ). slice_get (map plain tokens) k ≡ Some (plain y)) (sym back) (plain_at tokens n y less read_y),
        far,
        apart,
        subst (λ (k : ℕ). CanJoin ts ps sep (take k (map plain tokens))) (sym back) can,
      ),
    )

module _ (ts : List Tree) (ps : List ℕ) (sep : ℕ × List ℕ) where
  -- ---- lists with one token more at the end

  text_of-append : (xs ys : List (ℕ × List ℕ)) → text_of (xs ++ ys) ≡ text_of xs ++ text_of ys
  text_of-append [] ys = refl
  text_of-append (x ∷ xs) ys = ap (λ (t : List ℕ). x.1 ++ t) (text_of-append xs ys) ∙ sym (append_assoc x.1 (text_of xs) (text_of ys))

  -- what comes to the list that is written
  abbrev Comes : ℕ × List ℕ → ℕ × List ℕ → List (ℕ × List ℕ) → Type 0
  Comes x y more = (CanFollow ts ps x.0 y.0 × (more ≡ y ∷ [])) ⊎ ((¬ CanFollow ts ps x.0 y.0) × (more ≡ sep ∷ y ∷ []))

  -- a list behind the first token stays behind it
  way_on : (x y : ℕ × List ℕ) (ys zs more : List (ℕ × List ℕ)) → (CanFollow ts ps x.0 y.0 × (ys ≡ x ∷ zs)) ⊎ ((¬ CanFollow ts ps x.0 y.0) × (ys ≡ x ∷ sep ∷ zs))
      → (CanFollow ts ps x.0 y.0 × (ys ++ more ≡ x ∷ (zs ++ more))) ⊎ ((¬ CanFollow ts ps x.0 y.0) × (ys ++ more ≡ x ∷ sep ∷ (zs ++ more)))
  way_on x y ys zs more (inl near) = inl (near.0, ap (λ (l : List (ℕ × List ℕ)). l ++ more) near.1)
  way_on x y ys zs more (inr apart) = inr (apart.0, ap (λ (l : List (ℕ × List ℕ)). l ++ more) apart.1)

  parted_push : (front : List (ℕ × List ℕ)) (x y : ℕ × List ℕ) (ys more : List (ℕ × List ℕ)) → IsParted ts ps sep (front ++ x ∷ []) ys → Comes x y more
      → IsParted ts ps sep ((front ++ x ∷ []) ++ y ∷ []) (ys ++ more)
  parted_push [] x y ys more parted (inl near) =
      (y ∷ [], (refl, inl (near.0, ap (λ (l : List (ℕ × List ℕ)). l ++ more) parted ∙ ap (λ (l : List (ℕ × List ℕ)). x ∷ l) near.1)))
  parted_push [] x y ys more parted (inr apart) =
      (y ∷ [], (refl, inr (apart.0, ap (λ (l : List (ℕ × List ℕ)). l ++ more) parted ∙ ap (λ (l : List (ℕ × List ℕ)). x ∷ l) apart.1)))
  parted_push (a ∷ []) x y ys more (zs, (parted, way)) comes = (zs ++ more, (parted_push [] x y zs more parted comes, way_on a x ys zs more way))
  parted_push (a ∷ b ∷ front) x y ys more (zs, (parted, way)) comes = (zs ++ more, (parted_push (b ∷ front) x y zs more parted comes, way_on a b ys zs more way))

  can_part_push : (front : List (ℕ × List ℕ)) (x y : ℕ × List ℕ) → CanPartAll ts ps sep (front ++ x ∷ []) → ((¬ CanFollow ts ps x.0 y.0) → CanPart ts ps sep x y)
      → CanPartAll ts ps sep ((front ++ x ∷ []) ++ y ∷ [])
  can_part_push [] x y can parts = (parts, tt)
  can_part_push (a ∷ []) x y can parts = (can.0, can_part_push [] x y can.1 parts)
  can_part_push (a ∷ b ∷ front) x y can parts = (can.0, can_part_push (b ∷ front) x y can.1 parts)

  -- ---- the first n tokens, and one more

  taken : (xs : List (ℕ × List ℕ)) (n : ℕ) (x : ℕ × List ℕ) → slice_get xs n ≡ Some x → take (n + 1) xs ≡ take n xs ++ x ∷ []
  taken xs n x at = take_more xs n x (slice_get_within xs n x at) ∙ ap (λ (y : ℕ × List ℕ). take n xs ++ y ∷ []) (get_or_from_slice_get xs n x x at)

  pub nothing_joined : (xs : List (ℕ × List ℕ)) → IsWhole ts ps sep → IsJoinedUpTo ts ps sep xs 0 []
  nothing_joined xs whole = record {
    can = record { separator = whole; tokens = All-nil (IsWhole ts ps); parts = tt };
    written = [];
    parted = refl;
    spelled = refl;
  }

  pub first_joined : (xs : List (ℕ × List ℕ)) (n : ℕ) (text : List ℕ) (x : ℕ × List ℕ) → IsJoinedUpTo ts ps sep xs n text → n ≡ 0 → slice_get xs n ≡ Some x → IsWhole ts ps x
      → IsJoinedUpTo ts ps sep xs (n + 1) (text ++ x.1)
  first_joined xs n text x up first at whole =
      let none : take n xs ≡ [] = ap (λ (k : ℕ). take k xs) first in
      let one : take (n + 1) xs ≡ x ∷ [] = taken xs n x at ∙ ap (λ (l : List (ℕ × List ℕ)). l ++ x ∷ []) none in
      let empty : up.written ≡ [] = subst (λ (l : List (ℕ × List ℕ)). IsParted ts ps sep l up.written) none up.parted in
      record {
        can = subst (CanJoin ts ps sep) (sym one) (record { separator = up.can.separator; tokens = All-push (IsWhole ts ps) [] x (All-nil (IsWhole ts ps)) whole; parts = tt });
        written = x ∷ [];
        parted = subst (λ (l : List (ℕ × List ℕ)). IsParted ts ps sep l (x ∷ [])) (sym one) refl;
        spelled = ap (λ (t : List ℕ). t ++ x.1) (up.spelled ∙ ap text_of empty) ∙ sym (append-nil x.1);
      }

  -- the tokens that come, and their text
  coming : (x y : ℕ × List ℕ) (between : List ℕ) → IsBetween ts ps sep x y between → (more : List (ℕ × List ℕ)) × (Comes x y more × (between ++ y.1 ≡ text_of more))
  coming x y between (inl near) = (y ∷ [], (inl (near.0, refl), ap (λ (t : List ℕ). t ++ y.1) near.1 ∙ sym (append-nil y.1)))
  coming x y between (inr apart) =
      (sep ∷ y ∷ [], (inr (apart.0, refl), ap (λ (t : List ℕ). t ++ y.1) apart.2 ∙ ap (λ (t : List ℕ). sep.1 ++ t) (sym (append-nil y.1))))

  parts_of : (x y : ℕ × List ℕ) (between : List ℕ) → IsBetween ts ps sep x y between → (¬ CanFollow ts ps x.0 y.0) → CanPart ts ps sep x y
  parts_of x y between (inl near) far = absurd (far near.0)
  parts_of x y between (inr apart) far = apart.1

  pub next_joined : (xs : List (ℕ × List ℕ)) (m n : ℕ) (text between : List ℕ) (x y : ℕ × List ℕ) → IsJoinedUpTo ts ps sep xs n text → n ≡ m + 1 → slice_get xs m ≡ Some x
      → slice_get xs n ≡ Some y → IsWhole ts ps y → IsBetween ts ps sep x y between → IsJoinedUpTo ts ps sep xs (n + 1) ((text ++ between) ++ y.1)
  next_joined xs m n text between x y up next at_x at_y whole is =
      let before : take n xs ≡ take m xs ++ x ∷ [] = ap (λ (k : ℕ). take k xs) next ∙ taken xs m x at_x in
      let after : take (n + 1) xs ≡ (take m xs ++ x ∷ []) ++ y ∷ [] = taken xs n y at_y ∙ ap (λ (l : List (ℕ × List ℕ)). l ++ y ∷ []) before in
      let comes = coming x y between is in
      let can : CanJoin ts ps sep (take m xs ++ x ∷ []) = subst (CanJoin ts ps sep) before up.can in
      record {
        can = subst (CanJoin ts ps sep) (sym after) (record {
          separator = can.separator;
          tokens = All-push (IsWhole ts ps) (take m xs ++ x ∷ []) y can.tokens whole;
          parts = can_part_push (take m xs) x y can.parts (parts_of x y between is);
        });
        written = up.written ++ comes.0;
        parted = subst (λ (l : List (ℕ × List ℕ)). IsParted ts ps sep l (up.written ++ comes.0)) (sym after)
            (parted_push (take m xs) x y up.written comes.0 (subst (λ (l : List (ℕ × List ℕ)). IsParted ts ps sep l up.written) before up.parted) comes.1.0);
        spelled = append_assoc text between y.1 ∙ ap (λ (t : List ℕ). t ++ (between ++ y.1)) up.spelled ∙ ap (λ (t : List ℕ). text_of up.written ++ t) comes.1.1
            ∙ sym (text_of-append up.written comes.0);
      }

  -- ---- the end

  pub all_joined : (xs : List (ℕ × List ℕ)) (n : ℕ) (text : List ℕ) → IsJoinedUpTo ts ps sep xs n text → length xs ≤ n → IsJoined ts ps sep xs text × CanJoin ts ps sep xs
  all_joined xs n text up end =
      let all : take n xs ≡ xs = take_all n xs end in
      let can : CanJoin ts ps sep xs = subst (CanJoin ts ps sep) all up.can in
      let parted : IsParted ts ps sep xs up.written = subst (λ (l : List (ℕ × List ℕ)). IsParted ts ps sep l up.written) all up.parted in (
        record {
          written = up.written;
          parted = parted;
          spelled = up.spelled;
          tokens = subst (λ (t : List ℕ). AreTokens ts ps t 0 (placed 0 up.written)) (sym up.spelled)
              (parted_cut_back ts ps sep xs up.written parted can.separator can.tokens can.parts);
        },
        can,
      )
