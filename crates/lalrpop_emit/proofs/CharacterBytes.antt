-- The bytes of a character, by how many there are.
use Rattle.std.proofs.Common.{◌≡◌, ℕ, suc, ◌+◌, ◌-◌, ◌*◌, ◌/◌, ◌%◌, ◌<◌, ◌≤◌, ◌⊎◌, List, [], ◌∷◌, ◌++◌, length, drop, slice_index, sym, ap, ap₂, ◌∙◌, inl, inr, ⊎_elim, arith, drop-cons, get_or-drop, lt-ltb, le-ltb, length-append, length-drop, subst, Bool, true, false, ◌↔◌, Option, Some, None}
use Rattle.std.proofs.lemmas.Bool.{cond-true, cond-false, cases_lt}
use Rattle.std.proofs.lemmas.Bool.Decides.{nat_tests}
use Rattle.std.proofs.lemmas.Str.{encode_ascii}
use Rattle.std.specs.Bool.{IsTrue}
use Rattle.std.specs.Option.{MatchOption}
use Rattle.std.specs.Char.{IsScalar, InScalarRange, encode_utf8}
use Rattle.lalrpop_emit.specs.Internal.Characters.{IsCharacterAt, IsFollowing}
use Rattle.lalrpop_emit.specs.declared.driver.Character.{Character}

-- ---- what the bytes are

pub encode_two : (c : ℕ) → 128 ≤ c → c < 2048 → encode_utf8 c ≡ (192 + c / 64) ∷ (128 + c % 64) ∷ []
unfolding encode_utf8
encode_two c low high = cond-false _ _ _ (le-ltb c 128 low) ∙ cond-true _ _ _ (lt-ltb c 2048 high)

pub encode_three : (c : ℕ) → 2048 ≤ c → c < 65536 → encode_utf8 c ≡ (224 + c / 4096) ∷ (128 + (c / 64) % 64) ∷ (128 + c % 64) ∷ []
unfolding encode_utf8
encode_three c low high = cond-false _ _ _ (le-ltb c 128 (omega arith)) ∙ cond-false _ _ _ (le-ltb c 2048 low) ∙ cond-true _ _ _ (lt-ltb c 65536 high)

pub encode_four : (c : ℕ) → 65536 ≤ c → encode_utf8 c ≡ (240 + c / 262144) ∷ (128 + (c / 4096) % 64) ∷ (128 + (c / 64) % 64) ∷ (128 + c % 64) ∷ []
unfolding encode_utf8
encode_four c low = cond-false _ _ _ (le-ltb c 128 (omega arith)) ∙ cond-false _ _ _ (le-ltb c 2048 (omega arith)) ∙ cond-false _ _ _ (le-ltb c 65536 low)

abbrev pub IsOneByte : List ℕ → ℕ → ℕ → Type 0
IsOneByte text at c = (c < 128) × (slice_index text at ≡ c)

abbrev pub IsTwoBytes : List ℕ → ℕ → ℕ → Type 0
IsTwoBytes text at c =
    (128 ≤ c) × (c < 2048) × (at + 1 < length text) × (slice_index text at ≡ 192 + c / 64) × (slice_index text (at + 1) ≡ 128 + c % 64)

abbrev pub IsThreeBytes : List ℕ → ℕ → ℕ → Type 0
IsThreeBytes text at c =
    (2048 ≤ c) × (c < 65536) × (at + 2 < length text) × (slice_index text at ≡ 224 + c / 4096) × (slice_index text (at + 1) ≡ 128 + (c / 64) % 64)
    × (slice_index text (at + 2) ≡ 128 + c % 64)

abbrev pub IsFourBytes : List ℕ → ℕ → ℕ → Type 0
IsFourBytes text at c =
    (65536 ≤ c) × (at + 3 < length text) × (slice_index text at ≡ 240 + c / 262144) × (slice_index text (at + 1) ≡ 128 + (c / 4096) % 64)
    × (slice_index text (at + 2) ≡ 128 + (c / 64) % 64) × (slice_index text (at + 3) ≡ 128 + c % 64)

-- ---- the bytes of a character that stands there

byte_of : (text : List ℕ) (at k : ℕ) (bs : List ℕ) → drop at text ≡ bs → slice_index text (at + k) ≡ slice_index bs k
byte_of text at k bs e = sym (get_or-drop at text k 0) ∙ ap (λ l. slice_index l k) e

first_of : (text : List ℕ) (at : ℕ) (bs : List ℕ) → drop at text ≡ bs → slice_index text at ≡ slice_index bs 0
first_of text at bs e = let same : at ≡ at + 0 = omega arith in ap (slice_index text) same ∙ byte_of text at 0 bs e

pub in_range : (c : ℕ) → IsScalar c → InScalarRange c
in_range c h = grind (arith, nat_tests)

pub is_scalar : (c : ℕ) → InScalarRange c → IsScalar c
is_scalar c h = grind (arith, nat_tests)

pub bytes_at : (text : List ℕ) (at c : ℕ) → at < length text → IsCharacterAt text at c
    → IsOneByte text at c ⊎ (IsTwoBytes text at c ⊎ (IsThreeBytes text at c ⊎ IsFourBytes text at c))
bytes_at text at c here h =
    let fits : at + length (encode_utf8 c) ≤ length text = omega (arith, ap length h.split, length-append (encode_utf8 c) h.rest, length-drop at text) in
    ⊎_elim
    (λ (one : c < 128). let e = h.split ∙ ap (λ bs. bs ++ h.rest) (encode_ascii c one) in inl (one, first_of text at _ e))
    (λ (from_two : 128 ≤ c). inr (⊎_elim
    (λ (two : c < 2048). let is = encode_two c from_two two in let e = h.split ∙ ap (λ bs. bs ++ h.rest) is in
    inl (from_two, two, omega (arith, ap length is), first_of text at _ e, byte_of text at 1 _ e))
    (λ (from_three : 2048 ≤ c). inr (⊎_elim
    (λ (three : c < 65536). let is = encode_three c from_three three in let e = h.split ∙ ap (λ bs. bs ++ h.rest) is in
    inl (from_three, three, omega (arith, ap length is), first_of text at _ e, byte_of text at 1 _ e, byte_of text at 2 _ e))
    (λ (four : 65536 ≤ c). let is = encode_four c four in let e = h.split ∙ ap (λ bs. bs ++ h.rest) is in
    inr (four, omega (arith, ap length is), first_of text at _ e, byte_of text at 1 _ e, byte_of text at 2 _ e, byte_of text at 3 _ e))
    (cases_lt c 65536)))
    (cases_lt c 2048)))
    (cases_lt c 128)

-- ---- a character by its bytes

-- one more byte of what stands at the place
step : (text : List ℕ) (i j b : ℕ) → i < length text → slice_index text i ≡ b → j ≡ suc i → drop i text ≡ b ∷ drop j text
step text i j b h is next = drop-cons text i 0 h ∙ ap₂ (λ x n. x ∷ drop n text) is (sym next)

-- the character with this size is there
abbrev pub Stands : List ℕ → ℕ → ℕ → ℕ → Type 0
Stands text at size c = IsCharacterAt text at c × (size ≡ length (encode_utf8 c))

pub stands_one : (text : List ℕ) (at c : ℕ) → at < length text → IsScalar c → IsOneByte text at c → Stands text at 1 c
stands_one text at c here s h =
    let is = encode_ascii c h.0 in (
      record { scalar = s; rest = drop (at + 1) text; split = step text at (at + 1) _ here h.1 (omega arith) ∙ ap (λ bs. bs ++ drop (at + 1) text) (sym is) },
      sym (ap length is),
    )

pub stands_two : (text : List ℕ) (at c : ℕ) → IsScalar c → IsTwoBytes text at c → Stands text at 2 c
stands_two text at c s h =
    let is = encode_two c h.0 h.1 in (
      record {
        scalar = s;
        rest = drop (at + 2) text;
        split = step text at (at + 1) _ (omega arith) h.3 (omega arith)
            ∙ ap (λ l. (192 + c / 64) ∷ l) (step text (at + 1) (at + 2) _ h.2 h.4 (omega arith))
            ∙ ap (λ bs. bs ++ drop (at + 2) text) (sym is);
      },
      sym (ap length is),
    )

pub stands_three : (text : List ℕ) (at c : ℕ) → IsScalar c → IsThreeBytes text at c → Stands text at 3 c
stands_three text at c s h =
    let is = encode_three c h.0 h.1 in (
      record {
        scalar = s;
        rest = drop (at + 3) text;
        split = step text at (at + 1) _ (omega arith) h.3 (omega arith)
            ∙ ap (λ l. (224 + c / 4096) ∷ l) (step text (at + 1) (at + 2) _ (omega arith) h.4 (omega arith)
            ∙ ap (λ l. (128 + (c / 64) % 64) ∷ l) (step text (at + 2) (at + 3) _ h.2 h.5 (omega arith)))
            ∙ ap (λ bs. bs ++ drop (at + 3) text) (sym is);
      },
      sym (ap length is),
    )

pub stands_four : (text : List ℕ) (at c : ℕ) → IsScalar c → IsFourBytes text at c → Stands text at 4 c
stands_four text at c s h =
    let is = encode_four c h.0 in (
      record {
        scalar = s;
        rest = drop (at + 4) text;
        split = step text at (at + 1) _ (omega arith) h.2 (omega arith)
            ∙ ap (λ l. (240 + c / 262144) ∷ l) (step text (at + 1) (at + 2) _ (omega arith) h.3 (omega arith)
            ∙ ap (λ l. (128 + (c / 4096) % 64) ∷ l) (step text (at + 2) (at + 3) _ (omega arith) h.4 (omega arith)
            ∙ ap (λ l. (128 + (c / 64) % 64) ∷ l) (step text (at + 3) (at + 4) _ h.1 h.5 (omega arith))))
            ∙ ap (λ bs. bs ++ drop (at + 4) text) (sym is);
      },
      sym (ap length is),
    )

-- ---- where no character stands

-- what the bytes of a character can't be, no character is
no_character : (text : List ℕ) (at : ℕ) → at < length text → ((c : ℕ) → IsScalar c → ¬ IsOneByte text at c) → ((c : ℕ) → IsScalar c → ¬ IsTwoBytes text at c)
    → ((c : ℕ) → IsScalar c → ¬ IsThreeBytes text at c) → ((c : ℕ) → IsScalar c → ¬ IsFourBytes text at c) → (c : ℕ) → ¬ IsCharacterAt text at c
no_character text at here one two three four c h = elim (bytes_at text at c here h) [
  | inl a ↦ one c h.scalar a
  | inr more ↦ elim more [ inl b ↦ two c h.scalar b | inr most ↦ elim most [ inl d ↦ three c h.scalar d | inr e ↦ four c h.scalar e ] ]
]

module _ (text : List ℕ) (at : ℕ) (here : at < length text) where
  -- the first byte is one that follows
  pub none_first : 128 ≤ slice_index text at → slice_index text at < 192 → (c : ℕ) → ¬ IsCharacterAt text at c
  none_first low high =
      no_character text at here (λ c s h. omega arith) (λ c s h. omega arith) (λ c s h. omega arith) (λ c s h. omega arith)

  -- the second byte doesn't follow
  pub none_second : 128 ≤ slice_index text at → ¬ IsFollowing text (at + 1) → (c : ℕ) → ¬ IsCharacterAt text at c
  none_second low none =
      no_character text at here (λ c s h. omega arith)
      (λ c s h. none (record { within = h.2; least = omega arith; most = omega arith }))
      (λ c s h. none (record { within = omega arith; least = omega arith; most = omega arith }))
      (λ c s h. none (record { within = omega arith; least = omega arith; most = omega arith }))

  pub none_third : 224 ≤ slice_index text at → ¬ IsFollowing text (at + 2) → (c : ℕ) → ¬ IsCharacterAt text at c
  none_third low none =
      no_character text at here (λ c s h. omega arith) (λ c s h. omega arith)
      (λ c s h. none (record { within = omega arith; least = omega arith; most = omega arith }))
      (λ c s h. none (record { within = omega arith; least = omega arith; most = omega arith }))

  pub none_fourth : 240 ≤ slice_index text at → ¬ IsFollowing text (at + 3) → (c : ℕ) → ¬ IsCharacterAt text at c
  none_fourth low none =
      no_character text at here (λ c s h. omega arith) (λ c s h. omega arith) (λ c s h. omega arith)
      (λ c s h. none (record { within = omega arith; least = omega arith; most = omega arith }))

  pub none_above : 248 ≤ slice_index text at → (c : ℕ) → ¬ IsCharacterAt text at c
  none_above low =
      no_character text at here (λ c s h. omega arith) (λ c s h. omega arith) (λ c s h. omega arith)
      (λ c s h. let range = in_range c s in omega arith)

-- ---- the answer for a code that was read

pub does_follow : (text : List ℕ) (at : ℕ) (b : Bool) → (IsTrue b ↔ IsFollowing text at) → b ≡ true → IsFollowing text at
does_follow text at b h is = h.0 is

pub none_follows : (text : List ℕ) (at : ℕ) (b : Bool) → (IsTrue b ↔ IsFollowing text at) → b ≡ false → ¬ IsFollowing text at
none_follows text at b h is f = let holds : b ≡ true = h.1 f in cc

abbrev pub IsRead : List ℕ → ℕ → Option Character → Type 0
IsRead text at o = MatchOption o ((c : ℕ) → ¬ IsCharacterAt text at c) (λ r. IsCharacterAt text at r.code × (r.size ≡ length (encode_utf8 r.code)))

abbrev pub IsSized : ℕ → ℕ → ℕ → Option Character → Type 0
IsSized size least code o = MatchOption o (¬ ((least ≤ code) × IsScalar code)) (λ c. (least ≤ code) × IsScalar code × (c.size ≡ size) × (c.code ≡ code))

answered : (text : List ℕ) (at size least code : ℕ) (o : Option Character) → IsSized size least code o → (least ≤ code → IsScalar code → Stands text at size code)
    → (¬ ((least ≤ code) × IsScalar code) → (c : ℕ) → ¬ IsCharacterAt text at c) → IsRead text at o
answered text at size least code None told right none = none told
answered text at size least code (Some r) told right none =
    let stands = right told.0 told.1 in
    (subst (IsCharacterAt text at) (sym told.3) stands.0, told.2 ∙ stands.1 ∙ ap (λ n. length (encode_utf8 n)) (sym told.3))

-- if the code isn't right, no character with these bytes is
wrong : (least code c : ℕ) → ¬ ((least ≤ code) × IsScalar code) → c ≡ code → least ≤ c → ¬ IsScalar c
wrong least code c none same low s = none (omega arith, subst IsScalar same s)

module _ (text : List ℕ) (at : ℕ) (here : at < length text) (o : Option Character) where
  pub read_one : (first : ℕ) → first ≡ slice_index text at → first < 128 → IsSized 1 0 first o → IsRead text at o
  read_one first is low told =
      answered text at 1 0 first o told (λ l s. stands_one text at first here s (low, sym is))
      (λ none. no_character text at here (λ c s h. wrong 0 first c none (omega arith) (omega arith) s) (λ c s h. omega arith) (λ c s h. omega arith) (λ c s h. omega arith))

  pub read_two : (first second : ℕ) → first ≡ slice_index text at → 192 ≤ first → first < 224 → IsFollowing text (at + 1) → second ≡ slice_index text (at + 1) - 128
      → IsSized 2 128 ((first - 192) * 64 + second) o → IsRead text at o
  read_two first second is low high f1 is1 told =
      let code = (first - 192) * 64 + second in
      let b1 : slice_index text (at + 1) ≡ 128 + second = omega (arith, f1.least) in
      let small : second < 64 = omega (arith, f1.most) in
      answered text at 2 128 code o told
      (λ l s. stands_two text at code s (l, omega arith, f1.within, omega arith, omega arith))
      (λ none. no_character text at here (λ c s h. omega arith) (λ c s h. wrong 128 code c none (omega arith) h.0 s) (λ c s h. omega arith) (λ c s h. omega arith))

  pub read_three : (first second third : ℕ) → first ≡ slice_index text at → 224 ≤ first → first < 240 → IsFollowing text (at + 1)
      → second ≡ slice_index text (at + 1) - 128 → IsFollowing text (at + 2) → third ≡ slice_index text (at + 2) - 128
      → IsSized 3 2048 (((first - 224) * 64 + second) * 64 + third) o → IsRead text at o
  read_three first second third is low high f1 is1 f2 is2 told =
      let code = ((first - 224) * 64 + second) * 64 + third in
      let b1 : slice_index text (at + 1) ≡ 128 + second = omega (arith, f1.least) in
      let b2 : slice_index text (at + 2) ≡ 128 + third = omega (arith, f2.least) in
      let small1 : second < 64 = omega (arith, f1.most) in
      let small2 : third < 64 = omega (arith, f2.most) in
      let front : code / 64 ≡ (first - 224) * 64 + second = omega arith in
      answered text at 3 2048 code o told
      (λ l s. stands_three text at code s (l, omega arith, f2.within, omega arith, rw front (omega arith), omega arith))
      (λ none. no_character text at here (λ c s h. omega arith) (λ c s h. omega arith) (λ c s h. wrong 2048 code c none (omega arith) h.0 s) (λ c s h. omega arith))

  pub read_four : (first second third fourth : ℕ) → first ≡ slice_index text at → 240 ≤ first → first < 248 → IsFollowing text (at + 1)
      → second ≡ slice_index text (at + 1) - 128 → IsFollowing text (at + 2) → third ≡ slice_index text (at + 2) - 128
      → IsFollowing text (at + 3) → fourth ≡ slice_index text (at + 3) - 128
      → IsSized 4 65536 ((((first - 240) * 64 + second) * 64 + third) * 64 + fourth) o → IsRead text at o
  read_four first second third fourth is low high f1 is1 f2 is2 f3 is3 told =
      let code = (((first - 240) * 64 + second) * 64 + third) * 64 + fourth in
      let b1 : slice_index text (at + 1) ≡ 128 + second = omega (arith, f1.least) in
      let b2 : slice_index text (at + 2) ≡ 128 + third = omega (arith, f2.least) in
      let b3 : slice_index text (at + 3) ≡ 128 + fourth = omega (arith, f3.least) in
      let small1 : second < 64 = omega (arith, f1.most) in
      let small2 : third < 64 = omega (arith, f2.most) in
      let small3 : fourth < 64 = omega (arith, f3.most) in
      let two : code / 4096 ≡ (first - 240) * 64 + second = omega arith in
      let three : code / 64 ≡ ((first - 240) * 64 + second) * 64 + third = omega arith in
      answered text at 4 65536 code o told
      (λ l s. stands_four text at code s (l, f3.within, omega arith, rw two (omega arith), rw three (omega arith), omega arith))
      (λ none. no_character text at here (λ c s h. omega arith) (λ c s h. omega arith) (λ c s h. omega arith) (λ c s h. wrong 65536 code c none (omega arith) h.0 s))
