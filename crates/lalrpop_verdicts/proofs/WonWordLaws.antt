-- The least words that trees win, from the pairs of states in the order of their least words.
use Rattle.std.proofs.Common.{◌≡◌, ℕ, suc, ◌<◌, ◌≤◌, inl, inr, List, [], ◌∷◌, ◌++◌, length, get_or, arith, subst, sym, ap, ◌∙◌, refl, ⊎_elim, nat_cmp, append_assoc, append-nil, Ordering, Less, Equal, Greater, is_eq, true}
use Rattle.std.specs.Prelude.{slice_get, Option, Some, None, IsSomeAnd}
use Rattle.std.specs.List.{All, Contains}
use Rattle.std.specs.List.Sorted.{IsStrictlySortedBy}
use Rattle.std.specs.Map.{lookup, keys_of}
use Rattle.std.specs.BTreeMap.{BTreeMap, IsOrdered, get, is_at}
use Rattle.std.proofs.lemmas.Bool.{cases_lt}
use Rattle.std.proofs.lemmas.Option.{slice_get_cases, slice_get_within, slice_get-get_or, slice_get-map, get_or_from_slice_get}
use Rattle.std.proofs.lemmas.Map.Keys.{below_from_sorted}
use Rattle.std.proofs.lemmas.Map.Lookups.{exact_unsigned}
use Rattle.std.proofs.lemmas.Map.Views.{Contains-from_lookup}
use Rattle.lalrpop_hir.specs.Word.{Shortlex}
use Rattle.lalrpop_hir.proofs.Words.{Shortlex-transitive}
use Rattle.lalrpop_hir.proofs.Pushed.{pushed_cases}
use Rattle.lalrpop_dfa.specs.Dfa.{Row, StoredState, AreStored, after}
use Rattle.lalrpop_dfa.specs.Lookahead.{IsAccepting}
use Rattle.lalrpop_dfa.specs.Witness.{IsLeast}
use Rattle.lalrpop_dfa.specs.declared.Kind.{Kind}
use Rattle.lalrpop_dfa.specs.declared.Kind.TheVariants.{Accepts, Reject, Neither}
use Rattle.lalrpop_verdicts.specs.Answers.{accepted_by, accepted_at}
use Rattle.lalrpop_verdicts.specs.WonWord.{WonWord}
use Rattle.lalrpop_verdicts.specs.Internal.Pairs.{LeadTo, ArePairs}
use Rattle.lalrpop_verdicts.specs.Internal.WonWords.{AreWonWords, IsBoth, IsFirst, StaysDead, second, winner, winner_at}
use Rattle.lalrpop_verdicts.specs.declared.pairs.Pair.{Pair}
use Rattle.lalrpop_verdicts.specs.declared.pairs.Follow.TheVariants.{LeftAlive}
use Rattle.lalrpop_verdicts.proofs.TextWordLaws.{text_is_word, accepted_alive}

-- ---- what a state accepts
pub some_tree : (o : Option Row) → IsSomeAnd o (λ r. (i : ℕ) × (r.kind ≡ Accepts i)) → (i : ℕ) × (accepted_at o ≡ Some i)
some_tree None a = absurd a
some_tree (Some r) (i, e) = (i, ap accepted_by e)

pub accepting : (o : Option Row) (i : ℕ) → accepted_at o ≡ Some i → IsSomeAnd o (λ r. (i : ℕ) × (r.kind ≡ Accepts i))
accepting None i e = cc
accepting (Some r) i e = by r.kind refl e
  where
    by : (k : Kind) → r.kind ≡ k → accepted_by k ≡ Some i → (j : ℕ) × (r.kind ≡ Accepts j)
    by (Accepts j) is e = (j, is)
    by Reject is e = cc
    by Neither is e = cc

both_say : (o p : Option ℕ) (q : ℕ) → second o p ≡ Some q → ((i : ℕ) × (o ≡ Some i)) × (p ≡ Some q)
both_say None p q e = cc
both_say (Some i) p q e = ((i, refl), e)

second_says : (o p : Option ℕ) (i : ℕ) → o ≡ Some i → second o p ≡ p
second_says None p i e = cc
second_says (Some j) p i e = refl

pub second_none : (o p : Option ℕ) → None ≡ o → None ≡ second o p
second_none None p e = refl
second_none (Some i) p e = cc

pub second_some : (o p : Option ℕ) (i : ℕ) → Some i ≡ o → second o p ≡ p
second_some o p i e = second_says o p i (sym e)

module _ (d : List Row) (states : List StoredState) (p : ℕ) (h : AreStored d states) where
  -- where there is no state, none accepts
  pub none_stored : slice_get states p ≡ None → accepted_at (slice_get d p) ≡ None
  none_stored none = elim (slice_get_cases d p).1 [
    | inl g ↦ elim (slice_get_cases states p).1 [
      | inl s ↦ (let e : Some s.0 ≡ None = sym s.2 ∙ none in cc)
      | inr past ↦ absurd (omega (arith, past.0, g.1, h.same_length))
    ]
    | inr past ↦ ap accepted_at past.1
  ]

  -- what the kind says
  pub kind_stored : (s : StoredState) (k : Kind) → slice_get states p ≡ Some s → s.kind ≡ k → accepted_at (slice_get d p) ≡ accepted_by k
  kind_stored s k at kind = elim (slice_get_cases d p).1 [
    | inl g ↦ ap accepted_at g.2 ∙ ap accepted_by (sym (h.each p g.0 s g.2 at).kind ∙ kind)
    | inr past ↦ absurd (omega (arith, past.0, slice_get_within states p s at, h.same_length))
  ]

-- ---- entries that tell the first pair of each tree, and their words
abbrev pub AreFirsts : (ℕ → Option ℕ) → ℕ → List (ℕ × ℕ) → Type 0
AreFirsts f n es = (q : ℕ) → IsFirst f n q (lookup (is_at (nat_cmp q)) es)

-- a word for each entry
pub record AreWordsOf (words : List (List ℕ)) (es : List (ℕ × ℕ)) (found : List WonWord) : Type 0 where
  pub same_length : length found ≡ length es
  pub each : (k : ℕ) (e : ℕ × ℕ) (x : WonWord) → slice_get es k ≡ Some e → slice_get found k ≡ Some x → (x.by ≡ e.0) × (slice_get words e.1 ≡ Some x.word)

pub no_words : (words : List (List ℕ)) → AreWordsOf words [] []
no_words words = record { same_length = refl; each = λ k e x a b. cc }

pub more_words : (words : List (List ℕ)) (es : List (ℕ × ℕ)) (found : List WonWord) (e : ℕ × ℕ) (x : WonWord) → AreWordsOf words es found → x.by ≡ e.0 → slice_get words e.1 ≡ Some x.word
    → AreWordsOf words (es ++ e ∷ []) (found ++ x ∷ [])
more_words words es found e x h by word = record {
  same_length = length_pushed found es h.same_length;
  each = λ k f y a b. elim (pushed_cases es e k f a) [
    | inl a2 ↦ elim (pushed_cases found x k y b) [
      | inl b2 ↦ h.each k f y a2 b2
      | inr new ↦ absurd (omega (arith, slice_get_within es k f a2, new.0, h.same_length))
    ]
    | inr new ↦ elim (pushed_cases found x k y b) [
      | inl b2 ↦ absurd (omega (arith, slice_get_within found k y b2, new.0, h.same_length))
      | inr new2 ↦ rw (new.1, new2.1) (by, word)
    ]
  ];
}
  where
    length_pushed : (xs : List WonWord) (ys : List (ℕ × ℕ)) → length xs ≡ length ys → length (xs ++ x ∷ []) ≡ length (ys ++ e ∷ [])
    length_pushed [] [] same = refl
    length_pushed [] (y ∷ ys) same = absurd (omega arith)
    length_pushed (y ∷ xs) [] same = absurd (omega arith)
    length_pushed (y ∷ xs) (z ∷ ys) same = ap (λ n. suc n) (length_pushed xs ys (omega arith))

-- the tree of an entry wins the pair with the entry's number, and no earlier pair
pub entry_first : (f : ℕ → Option ℕ) (n : ℕ) (es : List (ℕ × ℕ)) (e : ℕ × ℕ) → AreFirsts f n es → All (λ e. lookup (is_at (nat_cmp e.0)) es ≡ Some e.1) es → Contains es e → IsFirst f n e.0 (Some e.1)
entry_first f n es e firsts each (k, l, same) =
    let at : lookup (is_at (nat_cmp (get_or es k e).0)) es ≡ Some (get_or es k e).1 = each k e l in
    let here : lookup (is_at (nat_cmp e.0)) es ≡ Some e.1 = subst (λ (x : ℕ × ℕ). lookup (is_at (nat_cmp x.0)) es ≡ Some x.1) same at in
    subst (λ o. IsFirst f n e.0 o) here (firsts e.0)

contains_at : {X : Type 0} (xs : List X) (k : ℕ) (x : X) → slice_get xs k ≡ Some x → Contains xs x
contains_at xs k x e = (k, slice_get_within xs k x e, get_or_from_slice_get xs k x x e)

place_in : {X : Type 0} (xs : List X) (x : X) → Contains xs x → (k : ℕ) × (slice_get xs k ≡ Some x)
place_in xs x (k, l, e) = (k, slice_get-get_or xs k x l ∙ ap (λ u. Some u) e)

-- the element at a place of a list, where another one as long has one
counterpart : {X Y : Type 0} (xs : List X) (ys : List Y) (k : ℕ) (x : X) → length ys ≡ length xs → slice_get xs k ≡ Some x → (y : Y) × (slice_get ys k ≡ Some y)
counterpart xs ys k x same e = elim (slice_get_cases ys k).1 [
  | inl g ↦ (g.0, g.2)
  | inr past ↦ absurd (omega (arith, past.0, same, slice_get_within xs k x e))
]

exact_at : (x y : ℕ) → is_at (nat_cmp x) y ≡ true → x ≡ y
exact_at x y = by (nat_cmp x y) refl
  where
    by : (o : Ordering) → nat_cmp x y ≡ o → is_eq o ≡ true → x ≡ y
    by Less e t = cc
    by Equal e t = exact_unsigned x y e
    by Greater e t = cc

module _ (l r : List Row) (ps : List Pair) (stays : StaysDead l) (h : ArePairs LeftAlive l r ps) where
  -- a word that both accept leads to its pair
  both_leads : (q : ℕ) (w : List ℕ) → IsBoth l r q w → LeadTo LeftAlive l r (after l w) (after r w) w
  both_leads q w both = record {
    text = both.0;
    some = both.1;
    followed = λ u v parts some dead. accepted_alive l w u v stays (text_is_word w both.0) both.2 parts dead;
    left = refl;
    right = refl;
  }

  -- and the tree wins this pair
  both_pair : (q : ℕ) (w : List ℕ) → IsBoth l r q w → (k : ℕ) × (x : Pair) × ((slice_get ps k ≡ Some x) × (x.left ≡ after l w) × (x.right ≡ after r w) × (winner_at l r ps k ≡ Some q))
  both_pair q w both =
      let (k, x, (at, left, right)) = h.all (after l w) (after r w) w (both_leads q w both) in
      let (i, tree) = some_tree (slice_get l (after l w)) both.2 in
      let left_says : accepted_at (slice_get l x.left) ≡ Some i = ap (λ p. accepted_at (slice_get l p)) left ∙ tree in
      let right_says : accepted_at (slice_get r x.right) ≡ Some q = ap (λ p. accepted_at (slice_get r p)) right ∙ both.3 in
      (k, x, (at, left, right, ap (winner l r) at ∙ second_says _ (accepted_at (slice_get r x.right)) i left_says ∙ right_says))

  -- the least word of a pair that the tree wins is accepted by both
  pair_both : (q k : ℕ) (x : Pair) (w : List ℕ) → slice_get ps k ≡ Some x → slice_get h.words k ≡ Some w → winner_at l r ps k ≡ Some q → IsBoth l r q w
  pair_both q k x w at word wins =
      let says : second (accepted_at (slice_get l x.left)) (accepted_at (slice_get r x.right)) ≡ Some q = ap (winner l r) (sym at) ∙ wins in
      let ((i, left), right) = both_say (accepted_at (slice_get l x.left)) (accepted_at (slice_get r x.right)) q says in
      let leads : LeadTo LeftAlive l r x.left x.right w = (h.each k x w at word).holds in
      (leads.text, leads.some, subst (λ p. IsAccepting l p) (sym leads.left) (accepting (slice_get l x.left) i left), ap (λ p. accepted_at (slice_get r p)) leads.right ∙ right)

  -- the word of the first pair that the tree wins is the least one
  first_least : (q n : ℕ) (w : List ℕ) → IsFirst (winner_at l r ps) (length ps) q (Some n) → slice_get h.words n ≡ Some w → IsLeast (IsBoth l r q) w
  first_least q n w (below, wins, before) word =
      let (x, at) = counterpart h.words ps n w (sym h.same_length) word in
      record {
        holds = pair_both q n x w at word wins;
        least = λ u less both. (let (k, y, (there, left, right, won)) = both_pair q u both in
            let (v, named) = counterpart ps h.words k y h.same_length there in
            let leads : LeadTo LeftAlive l r y.left y.right u = subst (λ p. LeadTo LeftAlive l r p y.right u) (sym left) (subst (λ p. LeadTo LeftAlive l r (after l u) p u) (sym right) (both_leads q u both)) in
            ⊎_elim (λ (b : k < n). before k b won)
            (λ (b : n ≤ k). (h.each k y v there named).least u (by_order n k w v u b word named less) leads)
            (cases_lt k n));
      }
    where
      by_order : (n k : ℕ) (w v u : List ℕ) → n ≤ k → slice_get h.words n ≡ Some w → slice_get h.words k ≡ Some v → Shortlex u w → Shortlex u v
      by_order n k w v u b at there less =
          ⊎_elim (λ (c : n < k). Shortlex-transitive u w v less (h.ordered n k w v c at there))
          (λ (c : k ≤ n). let same : n ≡ k = omega arith in let e : Some w ≡ Some v = sym at ∙ (ap (λ i. slice_get h.words i) same ∙ there) in let f : w ≡ v = cc in subst (Shortlex u) f less)
          (cases_lt n k)

  -- the entries give the words
  pub won_words_from : (es : List (ℕ × ℕ)) (found : List WonWord) → AreFirsts (winner_at l r ps) (length ps) es → IsStrictlySortedBy nat_cmp (keys_of es) → All (λ e. lookup (is_at (nat_cmp e.0)) es ≡ Some e.1) es
      → AreWordsOf h.words es found → AreWonWords l r found
  won_words_from es found firsts sorted each words = record {
    ascending = λ a b x y less at there. (let (d, da) = counterpart found es a x (sym words.same_length) at in
        let (e, eb) = counterpart found es b y (sym words.same_length) there in
        let dk : get_or (keys_of es) a 0 ≡ d.0 = get_or_from_slice_get (keys_of es) a d.0 0 (slice_get-map (λ (p : ℕ × ℕ). p.0) es a ∙ ap (λ o. key_of o) da) in
        let ek : get_or (keys_of es) b 0 ≡ e.0 = get_or_from_slice_get (keys_of es) b e.0 0 (slice_get-map (λ (p : ℕ × ℕ). p.0) es b ∙ ap (λ o. key_of o) eb) in
        let within : b < length (keys_of es) = slice_get_within (keys_of es) b e.0 (slice_get-map (λ (p : ℕ × ℕ). p.0) es b ∙ ap (λ o. key_of o) eb) in
        omega (arith, below_from_sorted (keys_of es) a b 0 sorted less within, dk, ek, (words.each a d x da at).0, (words.each b e y eb there).0));
    each = λ x has. (let (k, at) = place_in found x has in
        let (e, here) = counterpart found es k x (sym words.same_length) at in
        let (by, word) = words.each k e x here at in
        let first : IsFirst (winner_at l r ps) (length ps) e.0 (Some e.1) = entry_first (winner_at l r ps) (length ps) es e firsts each (contains_at es k e here) in
        first_least x.by e.1 x.word (subst (λ q. IsFirst (winner_at l r ps) (length ps) q (Some e.1)) (sym by) first) word);
    all = λ q w both. (let (k, x, (at, left, right, won)) = both_pair q w both in
        let (n, known) = known_first q k (slice_get_within ps k x at) won (lookup (is_at (nat_cmp q)) es) refl (firsts q) in
        let (m, here) = place_in es (q, n) (Contains-from_lookup {eq = λ x y. is_at (nat_cmp x) y} exact_at q n es known) in
        let (y, there) = counterpart es found m (q, n) words.same_length here in
        (y, (contains_at found m y there, (words.each m (q, n) y here there).0)));
  }
    where
      key_of : Option (ℕ × ℕ) → Option ℕ
      key_of None = None
      key_of (Some p) = Some p.0

      known_first : (q k : ℕ) → k < length ps → winner_at l r ps k ≡ Some q → (o : Option ℕ) → lookup (is_at (nat_cmp q)) es ≡ o → IsFirst (winner_at l r ps) (length ps) q o → (n : ℕ) × (lookup (is_at (nat_cmp q)) es ≡ Some n)
      known_first q k below won None is first = absurd (first k below won)
      known_first q k below won (Some n) is first = (n, is)

-- ---- one entry after the other

entry_among : (es done : List (ℕ × ℕ)) (e : ℕ × ℕ) (rest : List (ℕ × ℕ)) → done ++ e ∷ rest ≡ es → Contains es e
entry_among es done e rest same = subst (λ xs. Contains xs e) same (contains_at (done ++ e ∷ rest) (length done) e (behind done))
  where
    behind : (done : List (ℕ × ℕ)) → slice_get (done ++ e ∷ rest) (length done) ≡ Some e
    behind [] = refl
    behind (x ∷ done) = behind done

-- there is a pair with the number of the next entry
pub entry_within : (f : ℕ → Option ℕ) (n : ℕ) (es done : List (ℕ × ℕ)) (e : ℕ × ℕ) (rest : List (ℕ × ℕ)) → done ++ e ∷ rest ≡ es → AreFirsts f n es
    → All (λ e. lookup (is_at (nat_cmp e.0)) es ≡ Some e.1) es → e.1 < n
entry_within f n es done e rest same firsts each = (entry_first f n es e firsts each (entry_among es done e rest same)).0

-- the next entry is after those so far
pub entry_turn : (es done s t : List (ℕ × ℕ)) (e : ℕ × ℕ) → done ++ s ≡ es → s ≡ e ∷ t → (done ++ e ∷ []) ++ t ≡ es
entry_turn es done s t e h turn = append_assoc done (e ∷ []) t ∙ ap (λ x. done ++ x) (sym turn) ∙ h

pub entries_end : (es done s : List (ℕ × ℕ)) → done ++ s ≡ es → s ≡ [] → done ≡ es
entries_end es done s h none = sym (append-nil done) ∙ ap (λ x. done ++ x) (sym none) ∙ h

-- the entries so far have their words
pub record IsWalk (l r : List Row) (ps : List Pair) (rest : List (ℕ × ℕ)) (found : List WonWord) : Type 0 where
  pub entries : List (ℕ × ℕ)
  pub done : List (ℕ × ℕ)
  pub parts : done ++ rest ≡ entries
  pub firsts : AreFirsts (winner_at l r ps) (length ps) entries
  pub sorted : IsStrictlySortedBy nat_cmp (keys_of entries)
  pub numbers : All (λ e. lookup (is_at (nat_cmp e.0)) entries ≡ Some e.1) entries
  pub words : (h : ArePairs LeftAlive l r ps) → AreWordsOf h.words done found

module _ (l r : List Row) (ps : List Pair) where
  pub walk_start : (m : BTreeMap ℕ ℕ) (s : List (ℕ × ℕ)) (found : List WonWord) → s ≡ m.entries → found ≡ [] → ((q : ℕ) → IsFirst (winner_at l r ps) (length ps) q (get nat_cmp m q)) → IsOrdered nat_cmp m
      → All (λ e. get nat_cmp m e.0 ≡ Some e.1) m.entries → IsWalk l r ps s found
  walk_start m s found all none firsts sorted numbers = record {
    entries = m.entries;
    done = [];
    parts = all;
    firsts = firsts;
    sorted = sorted;
    numbers = numbers;
    words = λ h. subst (λ x. AreWordsOf h.words [] x) (sym none) (no_words h.words);
  }

  module _ (s : List (ℕ × ℕ)) (found : List WonWord) (h : IsWalk l r ps s found) where
    pub walk_within : (e : ℕ × ℕ) (t : List (ℕ × ℕ)) → s ≡ e ∷ t → e.1 < length ps
    walk_within e t turn = entry_within (winner_at l r ps) (length ps) h.entries h.done e t (ap (λ x. h.done ++ x) (sym turn) ∙ h.parts) h.firsts h.numbers

    pub walk_turn : (e : ℕ × ℕ) (t : List (ℕ × ℕ)) (found2 : List WonWord) (b : ℕ) (w : List ℕ) → s ≡ e ∷ t → b ≡ e.0 → ((p : ArePairs LeftAlive l r ps) → slice_get p.words e.1 ≡ Some w)
        → found2 ≡ found ++ record { by = b; word = w } ∷ [] → IsWalk l r ps t found2
    walk_turn e t found2 b w turn by word more = record {
      entries = h.entries;
      done = h.done ++ e ∷ [];
      parts = entry_turn h.entries h.done s t e h.parts turn;
      firsts = h.firsts;
      sorted = h.sorted;
      numbers = h.numbers;
      words = λ p. subst (λ x. AreWordsOf p.words (h.done ++ e ∷ []) x) (sym more) (more_words p.words h.done found e (record { by = b; word = w }) (h.words p) by (word p));
    }

    pub walk_end : s ≡ [] → ArePairs LeftAlive l r ps → StaysDead l → AreWonWords l r found
    walk_end none p stays =
        let same : h.done ≡ h.entries = entries_end h.entries h.done s h.parts none in
        won_words_from l r ps stays p h.entries found h.firsts h.sorted h.numbers (subst (λ x. AreWordsOf p.words x found) same (h.words p))
