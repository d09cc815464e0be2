-- One iteration of each loop of the bracket parser, and how the loops end.
use Rattle.std.proofs.Common.{◌≡◌, ◌≢◌, ℕ, suc, ◌+◌, ◌-◌, ◌<◌, ◌≤◌, ◌==◌, max, true, false, [], ◌∷◌, ◌++◌, length, drop, IsTrue, IsFalse, MatchOption, take, Bool, Option, Some, None, refl, arith, sym, ap, ◌∙◌, subst, inl, inr, slice_get, length-drop}
use Rattle.std.specs.Bool.{then_some}
use Rattle.std.specs.List.{prefix_len}
use Rattle.std.specs.Char.{is_ascii_lowercase}
use Rattle.std.proofs.lemmas.Bool.{ne_eqb, eqb-true}
use Rattle.std.proofs.Math.Seq.{take-append_seam, drop-append_seam}
use Rattle.std.proofs.lemmas.List.{take_all, drop-drop}
use Rattle.lalrpop_re.specs.Text.{Text, begins}
use Rattle.lalrpop_re.specs.CharacterSet.{is_one_of, Set, complement, union_all}
use Rattle.lalrpop_re.specs.declared.flags.Flags.{Flags}
use Rattle.lalrpop_re.specs.declared.error.RegexError.{RegexError}
use Rattle.lalrpop_re.specs.declared.error.RegexError.TheVariants.{Syntax, OutOfMemory}
use Rattle.lalrpop_re.specs.Escape.{character}
use Rattle.lalrpop_re.specs.Bracket.{SetOperator, apply, ends_operand, leaf_or_complement}
use Rattle.lalrpop_re.specs.PosixSet.{posix_set}
use Rattle.lalrpop_re.specs.Internal.Reading.{span, posix_named, posix, primary, operator_of, SetPart, Union, simple_item, item_or, item, operand, whole_operand, operations, all_operations, operands, bracket_with, bracket}
use Rattle.lalrpop_re.specs.Internal.Views.{Refuses}
use Rattle.lalrpop_re.proofs.Steps.{decided, span_joins}
use Rattle.lalrpop_re.proofs.BracketLaws.{Item-shorter, Operand-shorter, spelling-shorter, operator_sound, item_sound, operand_sound, operand_enough, operations_enough, operand_end, operand_go, item_is_posix, item_is_bracket, bracket_sound}

-- a refusal is passed on, since the two readings fail together
pub refuses_on : {A B : Type 0} (e : RegexError) (o : Option A) (r : Option B) → Refuses e o → (o ≡ None → r ≡ None) → Refuses e r
refuses_on (Syntax position kind) o r h k = k h
refuses_on OutOfMemory o r h k = tt

pub operator_long : (t : Text) (o : SetOperator) → operator_of t ≡ Some o → suc (suc (length (drop 2 t))) ≡ length t
operator_long t o e = sym (spelling-shorter o (drop 2 t)) ∙ ap length (operator_sound t o e)

pub is_empty : (t : Text) → (length t == 0) ≡ true → t ≡ []
is_empty [] h = refl
is_empty (c ∷ t) h = let k : suc (length t) ≡ 0 = eqb-true (suc (length t)) 0 h in absurd (omega arith)

-- ---- primaries and POSIX classes

pub primary_plain : (t r : Text) (c : ℕ) → slice_get t 0 ≡ Some c → (c ≡ 92 → ⊥) → r ≡ drop 1 t → primary t ≡ Some (character c, r)
unfolding primary
primary_plain [] r c e n k = absurd cc
primary_plain (d ∷ t) r c e n k =
    let same : d ≡ c = cc in
    let other : is_one_of "\\" d ≡ false = rw (ne_eqb 92 d (λ q. n (sym (q ∙ same)))) refl in
    rw (other, k) (ap (λ b. Some (character b, t)) same)

span_len : (test : ℕ → Bool) (t : Text) → length (span test t).0 ≡ prefix_len test t
span_len test [] = refl
span_len test (c ∷ t) = elim (decided (test c)) [
  | inl h ↦ let k = span_len test t in rw h (omega (arith, k))
  | inr h ↦ rw h refl
]

span_front : (test : ℕ → Bool) (t : Text) → take (prefix_len test t) t ≡ (span test t).0
span_front test t = rw (sym (span_len test t)) (ap (take (length (span test t).0)) (sym (span_joins test t)) ∙ take-append_seam (span test t).0 (span test t).1)

span_rest : (test : ℕ → Bool) (t : Text) → drop (prefix_len test t) t ≡ (span test t).1
span_rest test t = rw (sym (span_len test t)) (ap (drop (length (span test t).0)) (sym (span_joins test t)) ∙ drop-append_seam (span test t).0 (span test t).1)

-- if `:]` follows the letters, they are a name
pub name_found : (o : Option ℕ) (b : Bool) (n : ℕ) (t : Text) → o ≡ then_some b n → b ≡ begins ":]" (drop n t) → n ≡ prefix_len is_ascii_lowercase t
    → MatchOption o (IsFalse (begins ":]" (span is_ascii_lowercase t).1)) (λ k. IsTrue (begins ":]" (span is_ascii_lowercase t).1) × (k ≡ length (span is_ascii_lowercase t).0))
name_found o true n t e k l =
    let here : n ≡ length (span is_ascii_lowercase t).0 = l ∙ sym (span_len is_ascii_lowercase t) in
    rw e (sym (k ∙ ap (λ m. begins ":]" (drop m t)) l ∙ ap (λ (u : Text). begins ":]" u) (span_rest is_ascii_lowercase t)), here)
name_found o false n t e k l = rw e (sym (k ∙ ap (λ m. begins ":]" (drop m t)) l ∙ ap (λ (u : Text). begins ":]" u) (span_rest is_ascii_lowercase t)))

pub posix_open : (negated : Bool) (t : Text) → begins ":]" (span is_ascii_lowercase t).1 ≡ false → posix_named negated t ≡ None
unfolding posix_named
posix_open negated t h = rw h refl

pub posix_unknown : (negated : Bool) (t name : Text) → name ≡ take (length (span is_ascii_lowercase t).0) t → posix_set name ≡ None → posix_named negated t ≡ None
unfolding posix_named
posix_unknown negated t name e h =
    let same : name ≡ (span is_ascii_lowercase t).0 = e ∙ ap (λ n. take n t) (span_len is_ascii_lowercase t) ∙ span_front is_ascii_lowercase t in
    let none : posix_set (span is_ascii_lowercase t).0 ≡ None = rw (sym same) h in
    elim (decided (begins ":]" (span is_ascii_lowercase t).1)) [
      | inl k ↦ rw (k, none) refl
      | inr k ↦ rw k refl
    ]

pub posix_known : (negated : Bool) (t name : Text) (s : Set) → begins ":]" (span is_ascii_lowercase t).1 ≡ true → name ≡ take (length (span is_ascii_lowercase t).0) t → posix_set name ≡ Some s
    → posix_named negated t ≡ Some (s, negated, drop (length (span is_ascii_lowercase t).0 + 2) t)
unfolding posix_named
posix_known negated t name s h e k =
    let n : ℕ = length (span is_ascii_lowercase t).0 in
    let same : name ≡ (span is_ascii_lowercase t).0 = e ∙ ap (λ n. take n t) (span_len is_ascii_lowercase t) ∙ span_front is_ascii_lowercase t in
    let known : posix_set (span is_ascii_lowercase t).0 ≡ Some s = rw (sym same) k in
    let rest : drop 2 (span is_ascii_lowercase t).1 ≡ drop (n + 2) t =
    ap (drop 2) (sym (ap (λ n. drop n t) (span_len is_ascii_lowercase t) ∙ span_rest is_ascii_lowercase t)) ∙ drop-drop 2 n t in
    rw (h, known, rest) refl

-- a slice from n on
pub tail_part : (n : ℕ) (t : Text) → take (length t - n) (drop n t) ≡ drop n t
tail_part n t = take_all (length t - n) (drop n t) (omega (arith, length-drop n t))

pub name_part : (front len : ℕ) (rest t : Text) → rest ≡ t → len ≡ length (span is_ascii_lowercase (drop front t)).0 → take (front + len - front) (drop front rest) ≡ take (length (span is_ascii_lowercase (drop front t)).0) (drop front t)
name_part front len rest t e l = let k : front + len - front ≡ len = omega arith in rw (k, e, l) refl

module _ (f : Flags) (levels_left : ℕ) where
  -- ---- the items of an operand

  pub operand_stop : (u : Union) → ends_operand u.rest ≡ true → whole_operand f (bracket f levels_left) u ≡ Some u
  operand_stop u h = operand_end f (bracket f levels_left) (length u.rest) u h

  pub operand_turn : (u : Union) (i : SetPart) → ends_operand u.rest ≡ false → item f (bracket f levels_left) u.rest ≡ Some i
      → whole_operand f (bracket f levels_left) u ≡ whole_operand f (bracket f levels_left) (record { sets = u.sets ++ i.set ∷ []; depth = max u.depth i.depth; rest = i.rest })
  operand_turn u i h k =
      let s : length i.rest < length u.rest = Item-shorter (item_sound f levels_left (bracket f levels_left) (bracket_sound f levels_left) u.rest i h k).0 in
      operand_go f (bracket f levels_left) (length u.rest) u i h k
      ∙ operand_enough f levels_left (bracket f levels_left) (bracket_sound f levels_left) (length u.rest) (suc (length i.rest)) (record { sets = u.sets ++ i.set ∷ []; depth = max u.depth i.depth; rest = i.rest }) s (omega arith)

  pub operand_refused : (u : Union) → ends_operand u.rest ≡ false → item f (bracket f levels_left) u.rest ≡ None → whole_operand f (bracket f levels_left) u ≡ None
  unfolding operand
  operand_refused u h k = rw (h, k) refl

  item_open : item f (bracket f levels_left) [] ≡ None
  unfolding item item_or posix simple_item primary
  item_open = refl

  pub operand_open : (u : Union) → ends_operand u.rest ≡ false → u.rest ≡ [] → whole_operand f (bracket f levels_left) u ≡ None
  operand_open u h e = operand_refused u h (ap (λ (t : Text). item f (bracket f levels_left) t) e ∙ item_open)

  -- ---- the operands of a bracket

  pub operations_stop : (p : SetPart) → begins "]" p.rest ≡ true → all_operations f (bracket f levels_left) p ≡ Some p
  unfolding operations
  operations_stop p h = rw h refl

  pub operations_turn : (p : SetPart) (o : SetOperator) (r : Union) → begins "]" p.rest ≡ false → operator_of p.rest ≡ Some o
      → whole_operand f (bracket f levels_left) (record { sets = []; depth = 0; rest = drop 2 p.rest }) ≡ Some r
      → all_operations f (bracket f levels_left) p ≡ all_operations f (bracket f levels_left) (record { set = apply o p.set (union_all r.sets); depth = max p.depth r.depth; rest = r.rest })
  unfolding operations
  operations_turn p o r h k e =
      let s : length r.rest ≤ length (drop 2 p.rest) = Operand-shorter (operand_sound f levels_left (bracket f levels_left) (bracket_sound f levels_left) (suc (length (drop 2 p.rest))) (record { sets = []; depth = 0; rest = drop 2 p.rest }) r e).4 in
      let long = operator_long p.rest o k in
      rw (h, k, e) (operations_enough f levels_left (bracket f levels_left) (bracket_sound f levels_left) (length p.rest) (suc (length r.rest)) (record { set = apply o p.set (union_all r.sets); depth = max p.depth r.depth; rest = r.rest }) (omega arith) (omega arith))

  pub operations_lost : (p : SetPart) → begins "]" p.rest ≡ false → operator_of p.rest ≡ None → all_operations f (bracket f levels_left) p ≡ None
  unfolding operations
  operations_lost p h k = rw (h, k) refl

  pub operations_refused : (p : SetPart) (o : SetOperator) → begins "]" p.rest ≡ false → operator_of p.rest ≡ Some o
      → whole_operand f (bracket f levels_left) (record { sets = []; depth = 0; rest = drop 2 p.rest }) ≡ None → all_operations f (bracket f levels_left) p ≡ None
  unfolding operations
  operations_refused p o h k e = rw (h, k, e) refl

  -- the same where what the code keeps is equal to what is asked
  pub operand_turned : (g : Flags) (u : Union) (i : SetPart) (d e : ℕ) (t : Text) → ends_operand u.rest ≡ false → item f (bracket f levels_left) u.rest ≡ Some i → g ≡ f → e ≡ i.depth → d ≡ max u.depth e → t ≡ i.rest
      → whole_operand g (bracket g levels_left) (record { sets = u.sets ++ i.set ∷ []; depth = d; rest = t }) ≡ whole_operand f (bracket f levels_left) u
  operand_turned g u i d e t h k same one deep rest = rw (same, deep, one, rest) (sym (operand_turn u i h k))

  pub operations_turned : (g h : Flags) (p : SetPart) (o : SetOperator) (r : Union) (d e : ℕ) (t u : Text) → begins "]" p.rest ≡ false → operator_of p.rest ≡ Some o → g ≡ f → t ≡ drop 2 p.rest
      → whole_operand g (bracket g levels_left) (record { sets = []; depth = 0; rest = t }) ≡ Some r → h ≡ f → e ≡ r.depth → d ≡ max p.depth e → u ≡ r.rest
      → all_operations h (bracket h levels_left) (record { set = apply o p.set (union_all r.sets); depth = d; rest = u }) ≡ all_operations f (bracket f levels_left) p
  operations_turned g h p o r d e t u going found first behind right same one deep rest =
      rw (same, deep, one, rest) (sym (operations_turn p o r going found (rw (first, behind) at right)))

  pub operations_failed : (g : Flags) (p : SetPart) (o : SetOperator) (t : Text) → begins "]" p.rest ≡ false → operator_of p.rest ≡ Some o → g ≡ f → t ≡ drop 2 p.rest
      → whole_operand g (bracket g levels_left) (record { sets = []; depth = 0; rest = t }) ≡ None → all_operations f (bracket f levels_left) p ≡ None
  operations_failed g p o t going found first behind right = operations_refused p o going found (rw (first, behind) at right)

  -- ---- brackets and items

  pub enclosed_negated : (g : Flags) (t u : Text) (p : SetPart) → begins "[^" t ≡ true → g ≡ f → u ≡ drop 2 t → operands g (bracket g levels_left) u ≡ Some p
      → bracket_with f (bracket f levels_left) t ≡ Some (record { set = complement p.set; depth = p.depth + 1; rest = drop 1 p.rest })
  unfolding bracket_with
  enclosed_negated g t u p h same behind e = let k = rw (same, behind) at e in rw (h, k) refl

  pub enclosed_plain : (g : Flags) (t u : Text) (p : SetPart) → begins "[^" t ≡ false → begins "[" t ≡ true → g ≡ f → u ≡ drop 1 t → operands g (bracket g levels_left) u ≡ Some p
      → bracket_with f (bracket f levels_left) t ≡ Some (record { set = p.set; depth = p.depth + 1; rest = drop 1 p.rest })
  unfolding bracket_with
  enclosed_plain g t u p h here same behind e = let k = rw (same, behind) at e in rw (h, here, k) refl

  pub item_posix : (t : Text) (x : Set × Bool × Text) → posix t ≡ Some x → item f (bracket f levels_left) t ≡ Some (record { set = leaf_or_complement f x.0 x.1; depth = 0; rest = x.2 })
  item_posix t x h = item_is_posix f (bracket f levels_left) t x h

  pub item_bracket : (g : Flags) (t u : Text) (p : SetPart) → posix t ≡ None → begins "[" u ≡ true → g ≡ f → u ≡ t → bracket g levels_left u ≡ Some p → item f (bracket f levels_left) t ≡ Some p
  item_bracket g t u p none here same e h = item_is_bracket f (bracket f levels_left) t none (rw e at here) ∙ (rw (same, e) at h)

  -- ---- levels

  pub bracket_full : (t : Text) → levels_left ≡ 0 → bracket f levels_left t ≡ None
  unfolding bracket
  bracket_full t e = subst (λ n. bracket f n t ≡ None) (sym e) refl

  pub bracket_turn : (t : Text) → levels_left ≢ 0 → bracket f levels_left t ≡ bracket_with f (bracket f (levels_left - 1)) t
  unfolding bracket
  bracket_turn t h = let e : suc (levels_left - 1) ≡ levels_left = omega arith in subst (λ n. bracket f n t ≡ bracket_with f (bracket f (levels_left - 1)) t) e refl
