use Rattle.std.proofs.Common.{◌≡◌, ℕ, ◌+◌, ◌<◌, ◌≤◌, true, false, cond, List, [], ◌∷◌, ◌++◌, map, length, take, drop, get_or, refl, sym, ap, ◌∙◌, arith, codes, length-drop}
use Rattle.std.specs.Prelude.{string_bytes}
use Rattle.std.proofs.lemmas.List.{at_drop_more, map-append, append_assoc, take_all, length-map, get_or_default}
use Rattle.lexdfa_lib.specs.Options.{is_end, takes_value, joined}
use Rattle.lexdfa_lib.proofs.options.joined.Goals as goal
use Rattle.lexdfa_lib.proofs.options.joined.Goals.{then-join-test+else-not-is_end, else-join-test}

-- the words from the i-th on
abbrev from : {X : Type 0} → (X → List ℕ) → List X → ℕ → List (List ℕ)
from f xs i = map f (drop i xs)

twice : (i : ℕ) → i + 1 + 1 ≡ i + 2
twice i = omega arith

two : {X : Type 0} (f : X → List ℕ) (xs : List X) (i : ℕ) (d e : X) → i + 1 < length xs → from f xs i ≡ f (get_or xs i d) ∷ f (get_or xs (i + 1) e) ∷ from f xs (i + 2)
two f xs i d e l =
    at_drop_more (map f) xs i d (omega (arith, l)) ∙ ap (λ ws. f (get_or xs i d) ∷ ws) ((at_drop_more (map f) xs (i + 1) e (omega (arith, l)) ∙ ap (λ k. f (get_or xs (i + 1) e) ∷ from f xs k) (twice i)))

of_end : (word next : List ℕ) (words : List (List ℕ)) → is_end word ≡ true → joined (word ∷ next ∷ words) ≡ word ∷ next ∷ words
of_end word next words t = ap (λ b. cond b (word ∷ next ∷ words) (cond (takes_value word) ((word ++ (codes "=" ++ next)) ∷ joined words) (word ∷ joined (next ∷ words)))) t

of_other : (word next : List ℕ) (words : List (List ℕ)) → is_end word ≡ false → takes_value word ≡ false → joined (word ∷ next ∷ words) ≡ word ∷ joined (next ∷ words)
of_other word next words e t =
    ap (λ b. cond b (word ∷ next ∷ words) (cond (takes_value word) ((word ++ (codes "=" ++ next)) ∷ joined words) (word ∷ joined (next ∷ words)))) e
    ∙ ap (λ b. cond b ((word ++ (codes "=" ++ next)) ∷ joined words) (word ∷ joined (next ∷ words))) t

-- one more word of the answer
grown : {Y : Type 0} (g : Y → List ℕ) (ys zs : List Y) (y : Y) (w : List ℕ) (rest more : List (List ℕ)) → zs ≡ ys ++ y ∷ [] → g y ≡ w → rest ≡ w ∷ more → map g ys ++ rest ≡ map g zs ++ more
grown g ys zs y w rest more is same e =
    ap (λ u. map g ys ++ u) e ∙ ap (λ v. map g ys ++ v ∷ more) (sym same) ∙ sym (append_assoc (map g ys) (g y ∷ []) more) ∙ ap (λ u. u ++ more) (sym (map-append g ys (y ∷ []))) ∙ ap (λ u. map g u ++ more) (sym is)

-- what is left where no option is joined any more
at_end : (words : List (List ℕ)) → length words ≤ 1 → joined words ≡ words
at_end [] l = refl
at_end (word ∷ []) l = refl
at_end (word ∷ next ∷ words) l = absurd (omega (arith, l))

-- a step over a word without a value, and what is left at the end
passed : {X : Type 0} (f : X → List ℕ) (xs : List X) (i : ℕ) (d : X) (word : List ℕ) → i + 1 < length xs → f (get_or xs i d) ≡ word → is_end word ≡ false → takes_value word ≡ false
    → joined (from f xs i) ≡ word ∷ joined (from f xs (i + 1))
passed f xs i d word l is e t =
    ap joined (two f xs i d d l ∙ ap (λ w. w ∷ f (get_or xs (i + 1) d) ∷ from f xs (i + 2)) is)
    ∙ of_other word (f (get_or xs (i + 1) d)) (from f xs (i + 2)) e t
    ∙ ap (λ ws. word ∷ joined ws) (sym (at_drop_more (map f) xs (i + 1) d (omega (arith, l)) ∙ ap (λ k. f (get_or xs (i + 1) d) ∷ from f xs k) (twice i)))

-- the rest stays after two dashes, and where there is one word at most
left_behind_end : {X : Type 0} (f : X → List ℕ) (xs : List X) (i : ℕ) (d : X) → i + 1 < length xs → is_end (f (get_or xs i d)) ≡ true → joined (from f xs i) ≡ from f xs i
left_behind_end f xs i d l e = ap joined (two f xs i d d l) ∙ of_end _ _ (from f xs (i + 2)) e ∙ sym (two f xs i d d l)

left_at_end : {X : Type 0} (f : X → List ℕ) (xs : List X) (i : ℕ) → length xs ≤ i + 1 → joined (from f xs i) ≡ from f xs i
left_at_end f xs i l = at_end (from f xs i) (omega (arith, l, length-map (drop i xs) f, length-drop i xs))

-- all words, where the rest is as it was
whole : {X : Type 0} (f : X → List ℕ) (xs : List X) (i k : ℕ) (all first words : List (List ℕ)) → words ≡ first ++ joined (from f xs i) → joined (from f xs i) ≡ from f xs i
    → length (drop i xs) ≤ k → all ≡ first ++ map f (take k (drop i xs)) → all ≡ words
whole f xs i k all first words are rest l is = is ∙ ap (λ v. first ++ map f v) (take_all k (drop i xs) l) ∙ sym (are ∙ ap (λ v. first ++ v) rest)

pub join-preserved : goal.join-preserved
join-preserved c =
    let xs = c.args.words.now in
    let i = c.join.at in
    let d = c.index-words-at-in-join.result in
    let word = string_bytes d in
    let ended : is_end (string_bytes (get_or xs i c.index-words-at.result)) ≡ false =
    ap (λ s. is_end (string_bytes s)) (sym c.index-words-at.is) ∙ ap is_end (sym c.deref.ensures) ∙ sym c.is_end.ensures ∙ c.if-not-is_end.true in
    let same : get_or xs i c.index-words-at.result ≡ d = get_or_default xs i c.index-words-at.result d (omega (arith, c.join-test.true)) ∙ sym c.index-words-at-in-join.is in
    let more = passed string_bytes xs i d word c.join-test.true (ap string_bytes (sym c.index-words-at-in-join.is))
    (ap (λ s. is_end (string_bytes s)) (sym same) ∙ ended) (ap takes_value (sym c.as_str-word.ensures.value) ∙ sym c.takes_value.ensures ∙ c.if-takes_value.false) in
    record {
      within = omega (arith, c.join-test.true);
      so_far = c.join.invariant.so_far ∙ grown string_bytes c.join.all.items _ _ word _ _ c.in_ok-push-2.ensures.items (c.in_ok-from_str.ensures.ok ∙ c.as_str-word.ensures.value) more;
    }

pub returns : goal.returns
returns c =
    let xs = c.args.words.now in
    let i = c.join.at in
    let rest : joined (from string_bytes xs i) ≡ from string_bytes xs i = elim c.join-test.branch [
      | then-join-test+else-not-is_end w ↦ left_behind_end string_bytes xs i w.index-words-at.result w.join-test.true
          (ap (λ s. is_end (string_bytes s)) (sym w.index-words-at.is) ∙ ap is_end (sym w.deref.ensures) ∙ sym w.is_end.ensures ∙ w.if-not-is_end.false)
      | else-join-test w ↦ left_at_end string_bytes xs i (omega (arith, w.join-test.false))
    ] in
    whole string_bytes xs i c.loop-word.word-index _ (map string_bytes c.join.all.items) _ c.join.invariant.so_far rest (omega (arith, length-drop i xs, c.join.invariant.within, c.loop-word-test.false)) c.loop-word.invariant
