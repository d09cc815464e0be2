-- A walk over pairs of states finds those that words lead to, with their least words.
use Rattle.std.proofs.Common.{◌≡◌, ◌≢◌, ℕ, zero, suc, ◌+◌, ◌<◌, ◌⊎◌, inl, inr, List, [], ◌∷◌, ◌++◌, length, map, get_or, refl, sym, ap, subst, ◌∙◌, arith, Bool, true, false, cond, append_assoc}
use Rattle.std.specs.Prelude.{slice_get, Option, Some, None, IsSomeAnd}
use Rattle.std.specs.List.{All as Each}
use Rattle.std.specs.Char.{IsScalar}
use Rattle.std.proofs.lemmas.List.{length-map, get_or-map, append-nil, length_push, get_or_append_left, get_or_push}
use Rattle.std.proofs.lemmas.List.Elements.{All-nil, All-push}
use Rattle.std.proofs.lemmas.Option.{slice_get_cases, slice_get_within, get_or_from_slice_get}
use Rattle.lalrpop_hir.proofs.Words.{Shortlex-irreflexive}
use Rattle.lalrpop_dfa.specs.Dfa.{Row, step, after as after_word, IsWellFormed}
use Rattle.lalrpop_dfa.specs.declared.Kind.{Kind}
use Rattle.lalrpop_dfa.specs.declared.Kind.TheVariants.{Accepts, Reject, Neither}
use Rattle.lalrpop_dfa.specs.Witness.{IsLeast}
use Rattle.lalrpop_dfa.proofs.AfterLaws.{after_push, after_within}
use Rattle.lalrpop_build.specs.Internal.BreadthFirst.{ShortlexAtMost, after, DeadStays, nth, from_of, value_of, word}
use Rattle.lalrpop_build.proofs.WordOrder.{from_the_end, at_most_less}
use Rattle.lalrpop_build.proofs.BreadthFirst.{after_push as walk_push, words_ascend, word_reaches, settled_all}
use Rattle.lalrpop_build.proofs.Origins.{word_step}
use Rattle.lalrpop_verdicts.specs.Answers.{IsTextWord}
use Rattle.lalrpop_verdicts.specs.declared.pairs.Pair.{Pair}
use Rattle.lalrpop_verdicts.specs.declared.pairs.Follow.{Follow}
use Rattle.lalrpop_verdicts.specs.declared.pairs.Follow.TheVariants.{All, LeftAlive}
use Rattle.lalrpop_verdicts.specs.Internal.Pairs.{IsLeft, IsFollowed, LeadTo, HasStates, IsOneMore, ArePairs, Place, outset, at, lost, is_lost, left_at, right_at, rejects, row_rejects, ends_at, is_character, lead, walk, number_of, place_of, origin_of, places, origins, IsTaken}
use Rattle.lalrpop_verdicts.proofs.Characters.{character_of_scalar, scalar_of_character}

-- ---- states at which a walk ends
kind_rejects : (k : Kind) → rejects k ≡ true → k ≡ Reject
kind_rejects (Accepts i) e = absurd (cc)
kind_rejects Reject e = refl
kind_rejects Neither e = absurd (cc)

row_is : (o : Option Row) → row_rejects o ≡ true → IsSomeAnd o (λ r. r.kind ≡ Reject)
row_is None e = absurd (cc)
row_is (Some r) e = kind_rejects r.kind e

is_row : (o : Option Row) → IsSomeAnd o (λ r. r.kind ≡ Reject) → row_rejects o ≡ true
is_row None h = absurd h
is_row (Some r) h = ap rejects h

pub left_of_end : (follow : Follow) (l : List Row) (p : ℕ) → ends_at follow l p ≡ true → IsLeft follow l p
left_of_end All l p e = absurd (cc)
left_of_end LeftAlive l p e = row_is (slice_get l p) e

pub end_of_left : (follow : Follow) (l : List Row) (p : ℕ) → IsLeft follow l p → ends_at follow l p ≡ true
end_of_left All l p h = absurd h
end_of_left LeftAlive l p h = is_row (slice_get l p) h

-- ---- prefixes of a word with one more value
no_more : (u : List ℕ) (c : ℕ) → u ++ c ∷ [] ≢ []
no_more u c e = let n : length (u ++ c ∷ []) ≡ length u + 1 = length_push u c in let z : length (u ++ c ∷ []) ≡ 0 = ap length e in omega arith

each_front : (P : ℕ → Type 0) (u : List ℕ) (c : ℕ) → Each P (u ++ c ∷ []) → Each P u
each_front P u c h = λ k d l. let e = get_or_append_left u (c ∷ []) d k l in subst P e (h k d (omega (arith, length_push u c)))

each_last : (P : ℕ → Type 0) (u : List ℕ) (c : ℕ) → Each P (u ++ c ∷ []) → P c
each_last P u c h = let e = get_or_push u c 0 (length u) refl in subst P e (h (length u) 0 (omega (arith, length_push u c)))

-- a prefix of it is the whole word, or one of the word without the value
prefix_cases : (w : List ℕ) (c : ℕ) (u v : List ℕ) → w ++ c ∷ [] ≡ u ++ v → (u ≡ w ++ c ∷ []) ⊎ ((x : List ℕ) × (w ≡ u ++ x))
prefix_cases w c [] v e = inr (w, refl)
prefix_cases [] c (a ∷ u) v e = inl (short u v (let f : c ∷ [] ≡ a ∷ (u ++ v) = e in f))
  where
    short : (u v : List ℕ) → c ∷ [] ≡ a ∷ (u ++ v) → a ∷ u ≡ c ∷ []
    short [] v f = let g : c ≡ a = cc in ap (λ (x : ℕ). let y : List ℕ = x ∷ [] in y) (sym g)
    short (b ∷ u) v f = absurd (let g : [] ≡ b ∷ (u ++ v) = cc in cc)
prefix_cases (b ∷ w) c (a ∷ u) v e =
    let same : b ≡ a = cc in
    let rest : w ++ c ∷ [] ≡ u ++ v = cc in
    elim (prefix_cases w c u v rest) [
      | inl whole ↦ inl (rw (same, whole) refl)
      | inr part ↦ inr (part.0, rw (same, ← part.1) refl)
    ]

followed_front : (follow : Follow) (l : List Row) (w : List ℕ) (c : ℕ) → IsFollowed follow l (w ++ c ∷ []) → IsFollowed follow l w
followed_front follow l w c h = λ u v e some. h u (v ++ c ∷ []) (rw e (append_assoc u v (c ∷ []))) some

followed_last : (follow : Follow) (l : List Row) (w : List ℕ) (c : ℕ) → IsFollowed follow l (w ++ c ∷ []) → ends_at follow l (after_word l (w ++ c ∷ [])) ≡ true → ⊥
followed_last follow l w c h e = h (w ++ c ∷ []) [] (sym (append-nil (w ++ c ∷ []))) (no_more w c) (left_of_end follow l (after_word l (w ++ c ∷ [])) e)

followed_more : (follow : Follow) (l : List Row) (w : List ℕ) (c : ℕ) → IsFollowed follow l w → ends_at follow l (after_word l (w ++ c ∷ [])) ≡ false → IsFollowed follow l (w ++ c ∷ [])
followed_more follow l w c h e = λ u v f some ends. elim (prefix_cases w c u v f) [
  | inl whole ↦ (let t : ends_at follow l (after_word l (w ++ c ∷ [])) ≡ true = end_of_left follow l (after_word l (w ++ c ∷ [])) (subst (λ (x : List ℕ). IsLeft follow l (after_word l x)) whole ends) in let z : true ≡ false = sym t ∙ e in cc)
  | inr part ↦ h u part.0 part.1 some ends
]

-- ---- where a walk stands after a word
module _ (follow : Follow) (l r : List Row) where
  -- what the place says of the word
  abbrev pub Reads : List ℕ → Place → Type 0
  Reads w outset = w ≡ []
  Reads w (at p q) = LeadTo follow l r p q w
  Reads w lost = ¬ (IsTextWord w × IsFollowed follow l w)

  module _ (w : List ℕ) (c p q : ℕ) (text : IsTextWord w) (followed : IsFollowed follow l w) (left : after_word l w ≡ p) (right : after_word r w ≡ q) where
    new_left : after_word l (w ++ c ∷ []) ≡ step l p c
    new_left = rw (after_push l w c, left) refl

    new_right : after_word r (w ++ c ∷ []) ≡ step r q c
    new_right = rw (after_push r w c, right) refl

    not_character : is_character c ≡ false → IsTextWord (w ++ c ∷ []) → ⊥
    not_character other word = let y : is_character c ≡ true = character_of_scalar c (each_last IsScalar w c word) in let z : true ≡ false = sym y ∙ other in cc

    leads_by : (b e : Bool) → is_character c ≡ b → ends_at follow l (step l p c) ≡ e → Reads (w ++ c ∷ []) (cond b (cond e lost (at (step l p c) (step r q c))) lost)
    leads_by true true is ends = λ h. followed_last follow l w c h.1 (rw new_left ends)
    leads_by true false is ends = record {
      text = All-push IsScalar w c text (scalar_of_character c is);
      some = no_more w c;
      followed = followed_more follow l w c followed (rw new_left ends);
      left = new_left;
      right = new_right;
    }
    leads_by false true is ends = λ h. not_character is h.0
    leads_by false false is ends = λ h. not_character is h.0

    leads_on : Reads (w ++ c ∷ []) (lead follow l r p q c)
    leads_on = leads_by (is_character c) (ends_at follow l (step l p c)) refl refl

  reads_more : (w : List ℕ) (c : ℕ) (s : Place) → Reads w s → Reads (w ++ c ∷ []) ((walk follow l r).move s c)
  reads_more w c outset h =
      leads_on w c 0 0 (rw h (All-nil IsScalar)) (λ u v e some. absurd (some (nothing u v (sym h ∙ e)))) (rw h refl) (rw h refl)
    where
      nothing : (u v : List ℕ) → [] ≡ u ++ v → u ≡ []
      nothing [] v e = refl
      nothing (a ∷ u) v e = absurd (cc)
  reads_more w c (at p q) h = leads_on w c p q h.text h.followed h.left h.right
  reads_more w c lost h = λ k. h (each_front IsScalar w c k.0, followed_front follow l w c k.1)

  pub reads : (w : List ℕ) → Reads w (after (walk follow l r) outset w)
  reads = from_the_end (λ (w : List ℕ). Reads w (after (walk follow l r) outset w)) refl
      (λ u c h. let e = walk_push (walk follow l r) outset u c in subst (Reads (u ++ c ∷ [])) (sym e) (reads_more u c (after (walk follow l r) outset u) h))

  read_is : (p q : ℕ) (w : List ℕ) (s : Place) → Reads w s → LeadTo follow l r p q w → s ≡ at p q
  read_is p q w outset h k = absurd (k.some h)
  read_is p q w (at m n) h k = let e : m ≡ p = sym h.left ∙ k.left in let f : n ≡ q = sym h.right ∙ k.right in rw (e, f) refl
  read_is p q w lost h k = absurd (h (k.text, k.followed))

  pub led : (p q : ℕ) (w : List ℕ) → LeadTo follow l r p q w → after (walk follow l r) outset w ≡ at p q
  led p q w k = read_is p q w (after (walk follow l r) outset w) (reads w) k

  pub leads : (p q : ℕ) (w : List ℕ) → after (walk follow l r) outset w ≡ at p q → LeadTo follow l r p q w
  leads p q w e = let h = reads w in subst (Reads w) e h

  lost_stays : (s : Place) (c : ℕ) → is_lost s ≡ true → is_lost ((walk follow l r).move s c) ≡ true
  lost_stays s c h = rw h refl

  pub walk_stays : DeadStays (walk follow l r)
  walk_stays = lost_stays

-- ---- the words of pairs
abbrev words_from : List (ℕ × ℕ) → ℕ → ℕ → List (List ℕ)
words_from os k zero = []
words_from os k (suc n) = word os k ∷ words_from os (suc k) n

words_length : (os : List (ℕ × ℕ)) (k n : ℕ) → length (words_from os k n) ≡ n
words_length os k zero = refl
words_length os k (suc n) = let e : length (words_from os (suc k) n) ≡ n = words_length os (suc k) n in omega arith

words_at : (os : List (ℕ × ℕ)) (k n i : ℕ) (w : List ℕ) → slice_get (words_from os k n) i ≡ Some w → w ≡ word os (k + i)
words_at os k zero i w e = absurd (cc)
words_at os k (suc n) zero w e = let f : word os k ≡ w = cc in let g : k ≡ k + zero = omega arith in sym f ∙ ap (word os) g
words_at os k (suc n) (suc i) w e = let g : suc k + i ≡ k + suc i = omega arith in words_at os (suc k) n i w e ∙ ap (word os) g

words_there : (os : List (ℕ × ℕ)) (k n i : ℕ) → i < n → slice_get (words_from os k n) i ≡ Some (word os (k + i))
words_there os k zero i l = absurd (omega arith)
words_there os k (suc n) zero l = let g : k ≡ k + zero = omega arith in ap (λ (j : ℕ). Some (word os j)) g
words_there os k (suc n) (suc i) l = let g : suc k + i ≡ k + suc i = omega arith in words_there os (suc k) n i (omega arith) ∙ ap (λ (j : ℕ). Some (word os j)) g

-- ---- the places of pairs
pub place_at : (pairs : List Pair) (k : ℕ) (x : Pair) (d : Place) → slice_get pairs k ≡ Some x → get_or (places pairs) (suc k) d ≡ at x.left x.right
place_at pairs k x d e =
    let l : k < length pairs = slice_get_within pairs k x e in
    let f : get_or (map place_of pairs) k d ≡ place_of (get_or pairs k x) = get_or-map place_of pairs k x d l in
    f ∙ ap place_of (get_or_from_slice_get pairs k x x e)

pub origin_at : (pairs : List Pair) (k : ℕ) (x : Pair) (d : ℕ × ℕ) → slice_get pairs k ≡ Some x → get_or (origins pairs) (suc k) d ≡ (number_of x.from, x.value)
origin_at pairs k x d e =
    let l : k < length pairs = slice_get_within pairs k x e in
    let f : get_or (map origin_of pairs) k d ≡ origin_of (get_or pairs k x) = get_or-map origin_of pairs k x d l in
    f ∙ ap origin_of (get_or_from_slice_get pairs k x x e)

pub places_length : (pairs : List Pair) → length (places pairs) ≡ suc (length pairs)
places_length pairs = ap (λ n. suc n) (length-map pairs place_of)

pub pair_within : (pairs : List Pair) (k : ℕ) → k < length pairs → (x : Pair) × (slice_get pairs k ≡ Some x)
pair_within pairs k l = elim (slice_get_cases pairs k).1 [
  | inl x ↦ (x.0, x.2)
  | inr past ↦ absurd (omega (arith, past.0))
]

-- ---- the pairs of a walk
number_within : (pairs : List Pair) (k : ℕ) (x : Pair) → slice_get pairs k ≡ Some x → suc k < length (places pairs)
number_within pairs k x e = omega (arith, slice_get_within pairs k x e, places_length pairs)

module _ (follow : Follow) (l r : List Row) (pairs : List Pair) (n v : ℕ) (h : IsTaken follow l r pairs n v) where
  -- the word of a pair leads to it
  pub own : (k : ℕ) (x : Pair) → slice_get pairs k ≡ Some x → LeadTo follow l r x.left x.right (word (origins pairs) (suc k))
  own k x e = leads follow l r x.left x.right (word (origins pairs) (suc k))
      (word_reaches (walk follow l r) (places pairs) (origins pairs) n v h (suc k) (number_within pairs k x e) ∙ place_at pairs k x outset e)

  pub states_within : IsWellFormed l → IsWellFormed r → (k : ℕ) (x : Pair) → slice_get pairs k ≡ Some x → (x.left < length l) × (x.right < length r)
  states_within a b k x e =
      let o = own k x e in
      (subst (λ (i : ℕ). i < length l) o.left (after_within l (word (origins pairs) (suc k)) a), subst (λ (i : ℕ). i < length r) o.right (after_within r (word (origins pairs) (suc k)) b))

  -- no two pairs have the same states
  pub apart : (j k : ℕ) (x y : Pair) → slice_get pairs j ≡ Some x → slice_get pairs k ≡ Some y → x.left ≡ y.left → x.right ≡ y.right → j ≡ k
  apart j k x y e f a b =
      let same : at x.left x.right ≡ at y.left y.right = rw (a, b) refl in
      let g : suc j ≡ suc k = h.distinct (suc j) (suc k) (number_within pairs j x e) (number_within pairs k y f) (place_at pairs j x outset e ∙ same ∙ sym (place_at pairs k y outset f)) in
      omega arith

-- ---- all are found
module _ (follow : Follow) (l r : List Row) (pairs : List Pair) (h : IsTaken follow l r pairs (length (places pairs)) 0) where
  -- a number that stands where the word leads
  found : (p q : ℕ) (w : List ℕ) → LeadTo follow l r p q w
      → (i : ℕ) × (i < length (places pairs)) × (nth (walk follow l r) (places pairs) i ≡ at p q) × ShortlexAtMost (word (origins pairs) i) w
  found p q w k =
      let e = led follow l r p q w k in
      elim (settled_all (walk follow l r) (walk_stays follow l r) (places pairs) (origins pairs) h w) [
        | inl dead ↦ absurd (let t : is_lost (at p q) ≡ true = subst (λ (s : Place). is_lost s ≡ true) e dead in let z : false ≡ true = t in cc)
        | inr f ↦ (f.0, f.1, f.2 ∙ e, f.3)
      ]

  least : (k : ℕ) (x : Pair) → slice_get pairs k ≡ Some x → IsLeast (LeadTo follow l r x.left x.right) (word (origins pairs) (suc k))
  least k x e = record {
    holds = own follow l r pairs (length (places pairs)) 0 h k x e;
    least = λ u less there.
        let f = found x.left x.right u there in
        let same : f.0 ≡ suc k = h.distinct f.0 (suc k) f.1 (number_within pairs k x e) (f.2 ∙ sym (place_at pairs k x outset e)) in
        let low : ShortlexAtMost (word (origins pairs) (suc k)) u = subst (λ (i : ℕ). ShortlexAtMost (word (origins pairs) i) u) same f.3 in
        Shortlex-irreflexive (word (origins pairs) (suc k)) (at_most_less (word (origins pairs) (suc k)) u (word (origins pairs) (suc k)) low less);
  }

  has : (p q i : ℕ) → i < length (places pairs) → nth (walk follow l r) (places pairs) i ≡ at p q → HasStates pairs p q
  has p q zero il e = absurd (let z : outset ≡ at p q = e in cc)
  has p q (suc k) il e =
      let x = pair_within pairs k (omega (arith, places_length pairs)) in
      let same : at x.0.left x.0.right ≡ at p q = sym (place_at pairs k x.0 outset x.1) ∙ e in
      (k, x.0, (x.1, ap left_at same, ap right_at same))

  pub all_found : ArePairs follow l r pairs
  all_found = record {
    words = words_from (origins pairs) 1 (length pairs);
    same_length = words_length (origins pairs) 1 (length pairs);
    each = λ k x w e f. let same : w ≡ word (origins pairs) (suc k) = words_at (origins pairs) 1 (length pairs) k w f ∙ ap (word (origins pairs)) (one_more k) in rw same (least k x e);
    all = λ p q w k. let f = found p q w k in has p q f.0 f.1 f.2;
    ordered = λ j k v w less e f.
        let a : v ≡ word (origins pairs) (suc j) = words_at (origins pairs) 1 (length pairs) j v e ∙ ap (word (origins pairs)) (one_more j) in
        let b : w ≡ word (origins pairs) (suc k) = words_at (origins pairs) 1 (length pairs) k w f ∙ ap (word (origins pairs)) (one_more k) in
        let kl : k < length pairs = omega (arith, slice_get_within (words_from (origins pairs) 1 (length pairs)) k w f, words_length (origins pairs) 1 (length pairs)) in
        rw (a, b) (words_ascend (walk follow l r) (places pairs) (origins pairs) (length (places pairs)) 0 h (suc j) (suc k) (omega arith) (omega (arith, places_length pairs)));
    origins = λ k x w e f.
        let same : w ≡ word (origins pairs) (suc k) = words_at (origins pairs) 1 (length pairs) k w f ∙ ap (word (origins pairs)) (one_more k) in
        one k x w e (slice_get_within pairs k x e) x.from refl same;
  }
    where
      one_more : (k : ℕ) → 1 + k ≡ suc k
      one_more k = omega arith

      one : (k : ℕ) (x : Pair) (w : List ℕ) → slice_get pairs k ≡ Some x → k < length pairs → (from : Option ℕ) → x.from ≡ from → w ≡ word (origins pairs) (suc k)
          → IsOneMore (words_from (origins pairs) 1 (length pairs)) k from x.value w
      one k x w e kl from is same =
          let o = origin_at pairs k x (0, 0) e in
          let f : from_of (origins pairs) (suc k) ≡ number_of from = ap (λ (p : ℕ × ℕ). p.0) o ∙ ap number_of is in
          let v : value_of (origins pairs) (suc k) ≡ x.value = ap (λ (p : ℕ × ℕ). p.1) o in
          let s = word_step (origins pairs) (length (places pairs)) h.earlier (suc k) (omega arith) (number_within pairs k x e) in
          let early : from_of (origins pairs) (suc k) < suc k = h.earlier (suc k) (omega arith) (number_within pairs k x e) in
          let t : w ≡ word (origins pairs) (number_of from) ++ x.value ∷ [] = same ∙ s ∙ ap (λ (i : ℕ). word (origins pairs) i ++ value_of (origins pairs) (suc k) ∷ []) f
          ∙ ap (λ (c : ℕ). word (origins pairs) (number_of from) ++ c ∷ []) v in
          by_from from (subst (λ (i : ℕ). i < suc k) f early) t
        where
          by_from : (from : Option ℕ) → number_of from < suc k → w ≡ word (origins pairs) (number_of from) ++ x.value ∷ [] → IsOneMore (words_from (origins pairs) 1 (length pairs)) k from x.value w
          by_from None lt t = t
          by_from (Some j) lt t = (omega arith, λ u g. let b : u ≡ word (origins pairs) (suc j) = words_at (origins pairs) 1 (length pairs) j u g ∙ ap (word (origins pairs)) (one_more j) in rw b t)
