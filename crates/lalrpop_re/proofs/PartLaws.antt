-- Where a part stands in braces, and that no operator stands there.
use Rattle.std.proofs.Common.{◌≡◌, ℕ, ◌<◌, Bool, true, false, ◌&&◌, List, [], ◌∷◌, ◌++◌, length, drop, get_or, Option, Some, None, refl, arith, codes, sym, ap, ◌∙◌, subst}
use Rattle.std.specs.List.{list_all}
use Rattle.std.specs.Char.{is_ascii_digit, is_whitespace}
use Rattle.std.proofs.lemmas.Bool.{and_parts}
use Rattle.std.proofs.lemmas.Bool.Decides.{nat_tests}
use Rattle.unicode.specs.Binary.{is_white_space}
use Rattle.unicode.proofs.PropsStdLemmas.{is_white_space-std}
use Rattle.lalrpop_re.specs.Text.{Text, ◌▸◌, begins}
use Rattle.lalrpop_re.specs.declared.flags.Flags.{Flags}
use Rattle.lalrpop_re.specs.Operator.{Count, count, Bounds, optional, any_number, one_or_more, exactly, at_least, between, Operator, alone, turned}
use Rattle.lalrpop_re.specs.NamedPart.{NamedPart, begins_part, continues_part, is_part_name, part_named}
use Rattle.lalrpop_re.specs.Internal.Reading.{span, ends_part, part_after, is_at_operator}
use Rattle.lalrpop_re.proofs.Steps.{bind_some, some_is, guarded, starts_is, span_joins, span_is}
use Rattle.lalrpop_re.proofs.OpeningLaws.{all_weaker, not_of}

-- ---- the name and the `}`

continues_is_no_end : (c : ℕ) → continues_part c ≡ true → ends_part c ≡ true
continues_is_no_end c h = rw (not_of continues_part 125 c refl h) refl

part_name_ends : (name : List ℕ) → is_part_name name ≡ true → list_all ends_part name ≡ true
part_name_ends [] h = absurd cc
part_name_ends (c ∷ cs) h =
    let both = and_parts (begins_part c) _ h in
    rw (not_of begins_part 125 c refl both.0) (all_weaker continues_part ends_part continues_is_no_end cs both.1)

module _ (parts : List NamedPart) where
  pub part_after_is : (name : List ℕ) (r : Text) (p : NamedPart) → is_part_name name ≡ true → part_named parts name ≡ Some p → part_after parts (name ++ 125 ∷ r) ≡ Some (p, r)
  unfolding part_after
  part_after_is name r p h k = rw (span_is ends_part name (125 ∷ r) (part_name_ends name h) refl, h, k) refl

  pub part_after_sound : (t : Text) (x : NamedPart × Text) → part_after parts t ≡ Some x
      → (name : List ℕ) × (is_part_name name ≡ true) × (part_named parts name ≡ Some x.0) × (name ++ 125 ∷ x.1 ≡ t)
  unfolding part_after
  part_after_sound t x e =
      let found = span ends_part t in
      let g = guarded (begins "}" found.1 && is_part_name found.0) _ _ e in
      let both = and_parts (begins "}" found.1) _ g.0 in
      let p = bind_some (part_named parts found.0) _ _ g.1 in
      let joined : found.0 ++ 125 ∷ drop 1 found.1 ≡ t = ap (λ (u : Text). found.0 ++ u) (starts_is (codes "}") found.1 both.0) ∙ span_joins ends_part t in
      subst (λ (y : NamedPart × Text). (name : List ℕ) × (is_part_name name ≡ true) × (part_named parts name ≡ Some y.0) × (name ++ 125 ∷ y.1 ≡ t)) (some_is (p.0, drop 1 found.1) x p.2)
      (found.0, both.1, p.1, joined)

-- ---- no operator stands where a part does

no_space : (c : ℕ) → begins_part c ≡ true → is_white_space c ≡ false
no_space c h = sym (is_white_space-std c) ∙ std c h
  where
    std : (c : ℕ) → begins_part c ≡ true → is_whitespace c ≡ false
    std c h = grind (arith, nat_tests)

no_digit : (c : ℕ) → begins_part c ≡ true → is_ascii_digit c ≡ false
no_digit c h = grind (arith, nat_tests)

not_both : (b : Bool) → b ≡ true → b ≡ false → ⊥
not_both b is isnt = let e : true ≡ false = sym is ∙ isnt in absurd cc

first_is : (a c : ℕ) (s t : Text) → a ∷ s ≡ c ∷ t → a ≡ c
first_is a c s t e = ap (λ (v : List ℕ). get_or v 0 0) e

-- a count doesn't begin with a character that begins a name
no_front : (c : ℕ) (before digits rest t : Text) → begins_part c ≡ true → list_all is_white_space before ≡ true → list_all is_ascii_digit digits ≡ true
    → 0 < length digits → before ++ (digits ++ rest) ≡ c ∷ t → ⊥
no_front c [] [] rest t is ws ds some e = omega (arith, some)
no_front c [] (d ∷ ds) rest t is ws all some e =
    not_both (is_ascii_digit c) (subst (λ (a : ℕ). is_ascii_digit a ≡ true) (first_is d c (ds ++ rest) t e) (and_parts (is_ascii_digit d) _ all).0) (no_digit c is)
no_front c (b ∷ bs) digits rest t is all ds some e =
    not_both (is_white_space c) (subst (λ (a : ℕ). is_white_space a ≡ true) (first_is b c (bs ++ (digits ++ rest)) t e) (and_parts (is_white_space b) _ all).0) (no_space c is)

no_count : (name s r u : Text) (n : ℕ) → is_part_name name ≡ true → Count s r n → s ≡ name ++ u → ⊥
no_count [] s r u n is k e = absurd cc
no_count (c ∷ cs) s r u n is (count before digits behind ws ds some bs value small) e =
    no_front c before digits (behind ▸ r) (cs ++ u) (and_parts (begins_part c) _ is).0 ws ds some e

module _ (parts : List NamedPart) where
  count_is_no_part : {t r : Text} {n : ℕ} → Count t r n → part_after parts t ≡ None
  count_is_no_part {t = t} {r = r} {n = n} k = go (part_after parts t) refl
    where
      go : (o : Option (NamedPart × Text)) → part_after parts t ≡ o → o ≡ None
      go None e = refl
      go (Some x) e = let s = part_after_sound parts t x e in absurd (no_count s.0 t r (125 ∷ x.1) n s.1 k (sym s.3))

  Bounds-starts : {t r : Text} {n : ℕ} {m : Option ℕ} → Bounds t r n m → is_at_operator parts t ≡ true
  Bounds-starts optional = refl
  Bounds-starts any_number = refl
  Bounds-starts one_or_more = refl
  Bounds-starts (exactly c) = rw (count_is_no_part c) refl
  Bounds-starts (at_least c) = rw (count_is_no_part c) refl
  Bounds-starts (between c d le) = rw (count_is_no_part c) refl

  pub Operator-starts : {f : Flags} {t r : Text} {n : ℕ} {m : Option ℕ} {g : Bool} → Operator f t r n m g → is_at_operator parts t ≡ true
  Operator-starts (alone b h) = Bounds-starts b
  Operator-starts (turned b) = Bounds-starts b
