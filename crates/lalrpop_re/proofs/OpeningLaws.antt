-- Flags, names and what follows a `(`.
use Rattle.std.proofs.Common.{◌≡◌, ℕ, ◌<◌, Bool, true, false, not, nat_lt, ◌&&◌, ◌==◌, ◌⊎◌, List, [], ◌∷◌, ◌++◌, length, drop, Some, refl, codes, sym, ap, ◌∙◌, subst, inl, inr, IsTrue}
use Rattle.std.specs.List.{list_all}
use Rattle.std.proofs.lemmas.Bool.{lt-ltb, ltb-true, and_parts, eqb-true}
use Rattle.std.proofs.lemmas.List.{append-nil}
use Rattle.unicode.proofs.DerivedComputing.{ucd_derived}
use Rattle.unicode.proofs.CategoryComputing.{ucd_category}
use Rattle.lalrpop_re.specs.Text.{Text, ◌▸◌, begins}
use Rattle.lalrpop_re.specs.CharacterSet.{is_one_of}
use Rattle.lalrpop_re.specs.declared.flags.Flags.{Flags}
use Rattle.lalrpop_re.specs.Flag.{FlagLetters, on, on_and_off, is_distinct, with_flags}
use Rattle.lalrpop_re.specs.GroupName.{is_name, begins_name, continues_name}
use Rattle.lalrpop_re.specs.Internal.Reading.{span, is_nothing, flags_of, ends_name, ends_letters, Opening, plain_group, named_group, flagged_group, directive, no_opening, name_at, letters_at, opening}
use Rattle.lalrpop_re.proofs.Steps.{some_is, chosen, guarded, decided, starts_is, span_joins, span_passes, span_is}

nothing_is : (t : Text) → is_nothing t ≡ true → t ≡ []
nothing_is [] h = refl
nothing_is (c ∷ t) h = absurd cc

-- ---- flags

pub flags_sound : (f g : Flags) (letters : List ℕ) → flags_of f letters ≡ Some g → FlagLetters f letters g
unfolding flags_of
flags_sound f g letters e =
    let a = span (is_one_of "ismUu") letters in
    let joins = span_joins (is_one_of "ismUu") letters in
    let good = span_passes (is_one_of "ismUu") letters in
    elim (chosen (is_nothing a.1) _ _ _ e) [
      | inl k ↦
          let d = guarded (is_distinct a.0) _ _ k.1 in
          let no_more : a.1 ≡ [] = nothing_is a.1 k.0 in
          let same : a.0 ≡ letters = sym (append-nil a.0) ∙ ap (λ (u : List ℕ). a.0 ++ u) (sym no_more) ∙ joins in
          subst (λ (h : Flags). FlagLetters f letters h) (some_is _ g d.1) (subst (λ (w : List ℕ). FlagLetters f w (with_flags true f a.0)) same (on a.0 good d.0))
      | inr k ↦
          let d = guarded (begins "-" a.1 && (nat_lt 0 (length (drop 1 a.1)) && (list_all (is_one_of "ismU") (drop 1 a.1) && is_distinct (a.0 ++ drop 1 a.1)))) _ _ k.1 in
          let p = and_parts (begins "-" a.1) _ d.0 in
          let q = and_parts (nat_lt 0 (length (drop 1 a.1))) _ p.1 in
          let r = and_parts (list_all (is_one_of "ismU") (drop 1 a.1)) _ q.1 in
          let same : a.0 ++ 45 ∷ drop 1 a.1 ≡ letters = ap (λ (u : List ℕ). a.0 ++ u) (starts_is (codes "-") a.1 p.0) ∙ joins in
          subst (λ (h : Flags). FlagLetters f letters h) (some_is _ g d.1) (subst (λ (w : List ℕ). FlagLetters f w (with_flags false (with_flags true f a.0) (drop 1 a.1))) same (on_and_off a.0 (drop 1 a.1) good r.0 (ltb-true 0 _ q.0) r.1))
    ]

pub FlagLetters-complete : {f g : Flags} {letters : List ℕ} → FlagLetters f letters g → flags_of f letters ≡ Some g
unfolding flags_of
FlagLetters-complete (on letters a d) =
    let all : span (is_one_of "ismUu") letters ≡ (letters, []) = subst (λ (w : List ℕ). span (is_one_of "ismUu") w ≡ (letters, [])) (append-nil letters) (span_is (is_one_of "ismUu") letters [] a refl) in
    rw (all, d) refl
FlagLetters-complete (on_and_off letters others a b z d) = rw (span_is (is_one_of "ismUu") letters (45 ∷ others) a refl, lt-ltb 0 (length others) z, b, d) refl

-- ---- which characters flags and names lack

abbrev is_letter : ℕ → Bool
is_letter c = not (is_one_of "P<:)" c)

pub all_weaker : (p q : ℕ → Bool) → ((c : ℕ) → p c ≡ true → q c ≡ true) → (w : List ℕ) → list_all p w ≡ true → list_all q w ≡ true
all_weaker p q h [] k = refl
all_weaker p q h (c ∷ w) k = let both = and_parts (p c) _ k in rw (h c both.0, all_weaker p q h w both.1) refl

all_append : (p : ℕ → Bool) (v w : List ℕ) → list_all p v ≡ true → list_all p w ≡ true → list_all p (v ++ w) ≡ true
all_append p [] w h k = k
all_append p (c ∷ v) w h k = let both = and_parts (p c) _ h in rw (both.0, all_append p v w both.1 k) refl

pub not_of : (p : ℕ → Bool) (k c : ℕ) → p k ≡ false → p c ≡ true → (k == c) ≡ false
not_of p k c h e = elim (decided (k == c)) [
  | inl q ↦ absurd (let s : p k ≡ true = subst (λ b. p b ≡ true) (sym (eqb-true k c q)) e in let z : true ≡ false = sym s ∙ h in cc)
  | inr q ↦ q
]

on_letter : (c : ℕ) → is_one_of "ismUu" c ≡ true → is_letter c ≡ true
on_letter c h = rw (not_of (is_one_of "ismUu") 80 c refl h, not_of (is_one_of "ismUu") 60 c refl h, not_of (is_one_of "ismUu") 58 c refl h, not_of (is_one_of "ismUu") 41 c refl h) refl

off_letter : (c : ℕ) → is_one_of "ismU" c ≡ true → is_letter c ≡ true
off_letter c h = rw (not_of (is_one_of "ismU") 80 c refl h, not_of (is_one_of "ismU") 60 c refl h, not_of (is_one_of "ismU") 58 c refl h, not_of (is_one_of "ismU") 41 c refl h) refl

letters_only : {f g : Flags} {letters : List ℕ} → FlagLetters f letters g → list_all is_letter letters ≡ true
letters_only (on letters a d) = all_weaker (is_one_of "ismUu") is_letter on_letter letters a
letters_only (on_and_off letters others a b z d) = all_append is_letter letters (45 ∷ others) (all_weaker (is_one_of "ismUu") is_letter on_letter letters a) (all_weaker (is_one_of "ismU") is_letter off_letter others b)

letter_ends : (c : ℕ) → is_letter c ≡ true → ends_letters c ≡ true
letter_ends c h = rw (not_of is_letter 58 c refl h, not_of is_letter 41 c refl h) refl

no_mark_in_name : continues_name 62 ≡ false
unfolding ucd_derived ucd_category
no_mark_in_name = refl

no_mark_begins : begins_name 62 ≡ false
unfolding ucd_derived
no_mark_begins = refl

name_ends : (name : List ℕ) → is_name name ≡ true → list_all ends_name name ≡ true
name_ends [] h = absurd cc
name_ends (c ∷ cs) h =
    let both = and_parts (begins_name c) _ h in
    rw (not_of begins_name 62 c no_mark_begins both.0) (all_weaker continues_name ends_name (λ d k. rw (not_of continues_name 62 d no_mark_in_name k) refl) cs both.1)

-- ---- what follows a `(`

-- the text begins so
abbrev pub Opens : Text → Opening → Type 0
Opens t plain_group = Unit {0}
Opens t (named_group name u) = IsTrue (is_name name) × ((codes "?P<" ▸ name ▸ codes ">" ▸ u ≡ t) ⊎ (codes "?<" ▸ name ▸ codes ">" ▸ u ≡ t))
Opens t (flagged_group letters u) = codes "?" ▸ letters ▸ codes ":" ▸ u ≡ t
Opens t (directive letters u) = (codes "?" ▸ letters ▸ codes ")" ▸ u ≡ t) × (0 < length letters)
Opens t no_opening = Unit {0}

name_at_opens : (t v : Text) → ((name : List ℕ) (u : Text) → name ++ 62 ∷ u ≡ v → (codes "?P<" ▸ name ▸ codes ">" ▸ u ≡ t) ⊎ (codes "?<" ▸ name ▸ codes ">" ▸ u ≡ t)) → Opens t (name_at v)
unfolding name_at
name_at_opens t v h = elim (decided (begins ">" (span ends_name v).1 && is_name (span ends_name v).0)) [
  | inl k ↦
      let both = and_parts (begins ">" (span ends_name v).1) _ k in
      rw k (both.1, h (span ends_name v).0 (drop 1 (span ends_name v).1) (ap (λ (w : Text). (span ends_name v).0 ++ w) (starts_is (codes ">") (span ends_name v).1 both.0) ∙ span_joins ends_name v))
  | inr k ↦ rw k tt
]

letters_at_opens : (t v : Text) → 63 ∷ v ≡ t → Opens t (letters_at v)
unfolding letters_at
letters_at_opens t v e = elim (decided (begins ":" (span ends_letters v).1)) [
  | inl k ↦ rw k (ap (λ (w : Text). 63 ∷ w) (ap (λ (w : Text). (span ends_letters v).0 ++ w) (starts_is (codes ":") (span ends_letters v).1 k) ∙ span_joins ends_letters v) ∙ e)
  | inr k ↦ elim (decided (begins ")" (span ends_letters v).1 && nat_lt 0 (length (span ends_letters v).0))) [
    | inl l ↦
        let both = and_parts (begins ")" (span ends_letters v).1) _ l in
        rw (k, l) (ap (λ (w : Text). 63 ∷ w) (ap (λ (w : Text). (span ends_letters v).0 ++ w) (starts_is (codes ")") (span ends_letters v).1 both.0) ∙ span_joins ends_letters v) ∙ e, ltb-true 0 _ both.1)
    | inr l ↦ rw (k, l) tt
  ]
]

pub opens : (t : Text) → Opens t (opening t)
unfolding opening
opens t = elim (decided (begins "?P<" t)) [
  | inl k ↦ rw k (name_at_opens t (drop 3 t) (λ name u e. inl (ap (λ (w : Text). 63 ∷ 80 ∷ 60 ∷ w) e ∙ starts_is (codes "?P<") t k)))
  | inr k ↦ elim (decided (begins "?<" t)) [
    | inl l ↦ rw (k, l) (name_at_opens t (drop 2 t) (λ name u e. inr (ap (λ (w : Text). 63 ∷ 60 ∷ w) e ∙ starts_is (codes "?<") t l)))
    | inr l ↦ elim (decided (begins "?" t)) [
      | inl m ↦ rw (k, l, m) (letters_at_opens t (drop 1 t) (starts_is (codes "?") t m))
      | inr m ↦ rw (k, l, m) tt
    ]
  ]
]

pub opening_plain : (t : Text) → begins "?" t ≡ false → opening t ≡ plain_group
unfolding opening
opening_plain [] h = refl
opening_plain (c ∷ t) h = elim (decided (63 == c)) [
  | inl e ↦ absurd (let q : true ≡ false = rw e at h in cc)
  | inr e ↦ rw e refl
]

name_at_is : (name : List ℕ) (t : Text) → is_name name ≡ true → name_at (name ++ 62 ∷ t) ≡ named_group name t
unfolding name_at
name_at_is name t h = rw (span_is ends_name name (62 ∷ t) (name_ends name h) refl, h) refl

pub opening_named : (name : List ℕ) (t : Text) → is_name name ≡ true → opening (codes "?P<" ▸ name ▸ codes ">" ▸ t) ≡ named_group name t
unfolding opening
opening_named name t h = name_at_is name t h

pub opening_named_too : (name : List ℕ) (t : Text) → is_name name ≡ true → opening (codes "?<" ▸ name ▸ codes ">" ▸ t) ≡ named_group name t
unfolding opening
opening_named_too name t h = name_at_is name t h

opening_letters : (letters : List ℕ) (c : ℕ) (t : Text) → list_all is_letter letters ≡ true → (80 == c) ≡ false → (60 == c) ≡ false → opening (63 ∷ (letters ++ c ∷ t)) ≡ letters_at (letters ++ c ∷ t)
unfolding opening
opening_letters [] c t h p q = rw (p, q) refl
opening_letters (d ∷ letters) c t h p q =
    let k = (and_parts (is_letter d) _ h).0 in
    rw (not_of is_letter 80 d refl k, not_of is_letter 60 d refl k) refl

letters_at_colon : (letters : List ℕ) (t : Text) → list_all is_letter letters ≡ true → letters_at (letters ++ 58 ∷ t) ≡ flagged_group letters t
unfolding letters_at
letters_at_colon letters t h = rw (span_is ends_letters letters (58 ∷ t) (all_weaker is_letter ends_letters letter_ends letters h) refl) refl

letters_at_close : (letters : List ℕ) (t : Text) → list_all is_letter letters ≡ true → 0 < length letters → letters_at (letters ++ 41 ∷ t) ≡ directive letters t
unfolding letters_at
letters_at_close letters t h k = rw (span_is ends_letters letters (41 ∷ t) (all_weaker is_letter ends_letters letter_ends letters h) refl, lt-ltb 0 (length letters) k) refl

pub opening_flagged : {f g : Flags} (letters : List ℕ) (t : Text) → FlagLetters f letters g → opening (codes "?" ▸ letters ▸ codes ":" ▸ t) ≡ flagged_group letters t
opening_flagged letters t s = opening_letters letters 58 t (letters_only s) refl refl ∙ letters_at_colon letters t (letters_only s)

pub opening_directive : {f g : Flags} (letters : List ℕ) (t : Text) → FlagLetters f letters g → 0 < length letters → opening (codes "?" ▸ letters ▸ codes ")" ▸ t) ≡ directive letters t
opening_directive letters t s h = opening_letters letters 41 t (letters_only s) refl refl ∙ letters_at_close letters t (letters_only s) h
