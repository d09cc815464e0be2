-- The list of clashes, with membership by recursion and any tie T: it is unique, and it is found number by number.
use Rattle.std.proofs.Common.{◌≡◌, ℕ, ◌+◌, ◌<◌, ◌≤◌, ◌⊎◌, ◌↔◌, inl, inr, ⊎_elim, List, [], ◌∷◌, ◌++◌, length, refl, sym, ap, ◌∙◌, subst, arith, true}
use Rattle.std.proofs.lemmas.Bool.{cases_lt}
use Rattle.lalrpop_hir.specs.Word.{IsWord, Shortlex}
use Rattle.lalrpop_build.specs.Internal.BreadthFirst.{Automaton, after, DeadStays, nth, IsBreadthFirst, word}
use Rattle.lalrpop_hir.specs.Clashes.{Entry, StandsBefore}
use Rattle.lalrpop_hir.proofs.Members.{Has, has_left, has_right, has_cases}
use Rattle.lalrpop_hir.proofs.Words.{Shortlex-irreflexive, Shortlex-transitive, Shortlex-total}
use Rattle.lalrpop_build.proofs.BreadthFirst.{words_ascend}
use Rattle.lalrpop_build.proofs.Firsts.{number_of, own_word, first_least}

-- each stands before all that follow
abbrev pub IsOrdered : List Entry → Type 0
IsOrdered [] = Unit {0}
IsOrdered (c ∷ cs) = ((d : Entry) → Has cs d → StandsBefore c d) × IsOrdered cs

-- the two trees tie on the word and on no smaller one
pub record IsFirstTieOf (T : List ℕ → ℕ → ℕ → Type 0) (c : Entry) : Type 0 where
  pub word : IsWord c.word
  pub tie : T c.word c.match0 c.match1
  pub least : (v : List ℕ) → Shortlex v c.word → ¬ T v c.match0 c.match1

-- exactly the pairs that tie on some word, in order
pub record AreClashesOf (T : List ℕ → ℕ → ℕ → Type 0) (cs : List Entry) : Type 0 where
  pub each : (c : Entry) → Has cs c → IsFirstTieOf T c
  pub all : (w : List ℕ) (i j : ℕ) → T w i j → (c : Entry) × (Has cs c × (c.match0 ≡ i) × (c.match1 ≡ j))
  pub in_order : IsOrdered cs

-- ---- the order is strict
never_before_itself : (c d : Entry) → StandsBefore c d → c ≡ d → ⊥
never_before_itself c d (inl h) e = Shortlex-irreflexive c.word (subst (λ (w : List ℕ). Shortlex c.word w) (sym (ap (λ (x : Entry). x.word) e)) h)
never_before_itself c d (inr (w, inl l)) e = (let f : c.match0 ≡ d.match0 = ap (λ (x : Entry). x.match0) e in omega arith)
never_before_itself c d (inr (w, inr (f, l))) e = (let g : c.match1 ≡ d.match1 = ap (λ (x : Entry). x.match1) e in omega arith)

never_both : (c d : Entry) → StandsBefore c d → StandsBefore d c → ⊥
never_both c d (inl h) (inl k) = Shortlex-irreflexive c.word (Shortlex-transitive c.word d.word c.word h k)
never_both c d (inl h) (inr (w, k)) = Shortlex-irreflexive c.word (subst (λ (v : List ℕ). Shortlex c.word v) w h)
never_both c d (inr (w, h)) (inl k) = Shortlex-irreflexive d.word (subst (λ (v : List ℕ). Shortlex d.word v) w k)
never_both c d (inr (w, inl h)) (inr (v, inl k)) = omega arith
never_both c d (inr (w, inl h)) (inr (v, inr (f, k))) = omega arith
never_both c d (inr (w, inr (f, h))) (inr (v, inl k)) = omega arith
never_both c d (inr (w, inr (f, h))) (inr (v, inr (g, k))) = omega arith

-- ---- two lists in order that have the same entries are equal
tail_has : (c z : Entry) (cs ds : List Entry) → IsOrdered (c ∷ cs) → Has cs z → Has (c ∷ ds) z → Has ds z
tail_has c z cs ds o h (inl e) = absurd (never_before_itself c z (o.0 z h) e)
tail_has c z cs ds o h (inr k) = k

heads : (c d : Entry) (cs ds : List Entry) → IsOrdered (c ∷ cs) → IsOrdered (d ∷ ds) → Has (d ∷ ds) c → Has (c ∷ cs) d → c ≡ d
heads c d cs ds o p (inl e) k = sym e
heads c d cs ds o p (inr h) (inl e) = e
heads c d cs ds o p (inr h) (inr k) = absurd (never_both c d (o.0 d k) (p.0 c h))

pub same_list : (cs ds : List Entry) → IsOrdered cs → IsOrdered ds → ((c : Entry) → Has cs c → Has ds c) → ((c : Entry) → Has ds c → Has cs c) → cs ≡ ds
same_list [] [] o p f g = refl
same_list [] (d ∷ ds) o p f g = absurd (g d (inl refl))
same_list (c ∷ cs) [] o p f g = absurd (f c (inl refl))
same_list (c ∷ cs) (d ∷ ds) o p f g =
    let e : c ≡ d = heads c d cs ds o p (f c (inl refl)) (g d (inl refl)) in
    let rest : cs ≡ ds = same_list cs ds o.1 p.1
    (λ z h. tail_has d z cs ds (subst (λ (x : Entry). IsOrdered (x ∷ cs)) e o) h (f z (inr h)))
    (λ z h. tail_has c z ds cs (subst (λ (x : Entry). IsOrdered (x ∷ ds)) (sym e) p) h (g z (inr h))) in
    cc

entry_same : (c d : Entry) → c.match0 ≡ d.match0 → c.match1 ≡ d.match1 → c.word ≡ d.word → c ≡ d
entry_same c d f s e =
    let one : c ≡ record { match0 = d.match0; match1 = c.match1; word = c.word } = ap (λ (n : ℕ). let x : Entry = record { match0 = n; match1 = c.match1; word = c.word } in x) f in
    let two : record { match0 = d.match0; match1 = c.match1; word = c.word } ≡ record { match0 = d.match0; match1 = d.match1; word = c.word } = ap (λ (n : ℕ). let x : Entry = record { match0 = d.match0; match1 = n; word = c.word } in x) s in
    let three : record { match0 = d.match0; match1 = d.match1; word = c.word } ≡ d = ap (λ (w : List ℕ). let x : Entry = record { match0 = d.match0; match1 = d.match1; word = w } in x) e in
    one ∙ two ∙ three

-- ---- the list of the clashes is unique
module _ (T : List ℕ → ℕ → ℕ → Type 0) where
  -- two entries of one pair are equal
  same_entry : (c d : Entry) → IsFirstTieOf T c → IsFirstTieOf T d → c.match0 ≡ d.match0 → c.match1 ≡ d.match1 → c ≡ d
  same_entry c d h k f s = by_order (Shortlex-total c.word d.word)
    where
      there : T c.word d.match0 d.match1
      there = subst (λ (n : ℕ). T c.word d.match0 n) s (subst (λ (n : ℕ). T c.word n c.match1) f h.tie)

      back : T d.word c.match0 c.match1
      back = subst (λ (n : ℕ). T d.word c.match0 n) (sym s) (subst (λ (n : ℕ). T d.word n d.match1) (sym f) k.tie)

      by_order : Shortlex c.word d.word ⊎ ((c.word ≡ d.word) ⊎ Shortlex d.word c.word) → c ≡ d
      by_order (inl l) = absurd (k.least c.word l there)
      by_order (inr (inl e)) = entry_same c d f s e
      by_order (inr (inr l)) = absurd (h.least d.word l back)

  has_also : (cs ds : List Entry) → AreClashesOf T cs → AreClashesOf T ds → (c : Entry) → Has cs c → Has ds c
  has_also cs ds h k c m =
      let mine : IsFirstTieOf T c = h.each c m in
      let (d, (there, f, s)) = k.all c.word c.match0 c.match1 mine.tie in
      subst (λ (x : Entry). Has ds x) (sym (same_entry c d mine (k.each d there) (sym f) (sym s))) there

  pub clashes-unique : (cs ds : List Entry) → AreClashesOf T cs → AreClashesOf T ds → cs ≡ ds
  clashes-unique cs ds h k = same_list cs ds h.in_order k.in_order (has_also cs ds h k) (has_also ds cs k h)

  -- the list is empty exactly if no two trees tie
  pub none-from_empty : AreClashesOf T [] → (w : List ℕ) (i j : ℕ) → ¬ T w i j
  none-from_empty h w i j t = (let (c, (m, f, s)) = h.all w i j t in m)

  pub empty-from_none : (cs : List Entry) → AreClashesOf T cs → ((w : List ℕ) (i j : ℕ) → ¬ T w i j) → cs ≡ []
  empty-from_none [] h none = refl
  empty-from_none (c ∷ cs) h none = absurd (none c.word c.match0 c.match1 (h.each c (inl refl)).tie)

  -- the first entry has the least word on which any two trees tie, and of its ties the greatest first tree, and then the
  -- greatest second one
  pub head_is_clash : (c : Entry) (cs : List Entry) → AreClashesOf T (c ∷ cs)
      → ((v : List ℕ) → Shortlex v c.word → (i j : ℕ) → ¬ T v i j)
      × ((i j : ℕ) → T c.word i j → (i < c.match0) ⊎ ((i ≡ c.match0) × (j ≤ c.match1)))
  head_is_clash c cs h = (least, greatest)
    where
      least : (v : List ℕ) → Shortlex v c.word → (i j : ℕ) → ¬ T v i j
      least v l i j t = (let (d, (m, f, s)) = h.all v i j t in by_place d m f s)
        where
          at_it : (d : Entry) → Has (c ∷ cs) d → (d.match0 ≡ i) → (d.match1 ≡ j) → T v d.match0 d.match1
          at_it d m f s = subst (λ (n : ℕ). T v d.match0 n) (sym s) (subst (λ (n : ℕ). T v n j) (sym f) t)

          -- the word of d is at most v
          by_word : (d : Entry) → Has (c ∷ cs) d → (d.match0 ≡ i) → (d.match1 ≡ j) → Shortlex d.word c.word ⊎ (d.word ≡ c.word) → ⊥
          by_word d m f s (inl k) = elim m [
            | inl e ↦ Shortlex-irreflexive c.word (subst (λ (x : Entry). Shortlex x.word c.word) (sym e) k)
            | inr n ↦ before d (h.in_order.0 d n) k
          ]
            where
              before : (d : Entry) → StandsBefore c d → Shortlex d.word c.word → ⊥
              before d (inl b) k = Shortlex-irreflexive c.word (Shortlex-transitive c.word d.word c.word b k)
              before d (inr b) k = Shortlex-irreflexive d.word (subst (λ (w : List ℕ). Shortlex d.word w) b.0 k)
          by_word d m f s (inr e) = (h.each d m).least v (subst (λ (w : List ℕ). Shortlex v w) (sym e) l) (at_it d m f s)

          by_place : (d : Entry) → Has (c ∷ cs) d → (d.match0 ≡ i) → (d.match1 ≡ j) → ⊥
          by_place d m f s = elim (Shortlex-total v d.word) [
            | inl k ↦ (h.each d m).least v k (at_it d m f s)
            | inr (inl e) ↦ by_word d m f s (inl (subst (λ (w : List ℕ). Shortlex w c.word) e l))
            | inr (inr k) ↦ by_word d m f s (inl (Shortlex-transitive d.word v c.word k l))
          ]

      greatest : (i j : ℕ) → T c.word i j → (i < c.match0) ⊎ ((i ≡ c.match0) × (j ≤ c.match1))
      greatest i j t = (let (d, (m, f, s)) = h.all c.word i j t in at d m f s)
        where
          after_it : (d : Entry) → IsFirstTieOf T d → (d.match0 ≡ i) → (d.match1 ≡ j) → StandsBefore c d → (i < c.match0) ⊎ ((i ≡ c.match0) × (j ≤ c.match1))
          after_it d k f s (inl b) = absurd (k.least c.word b (subst (λ (n : ℕ). T c.word d.match0 n) (sym s) (subst (λ (n : ℕ). T c.word n j) (sym f) t)))
          after_it d k f s (inr (w, inl b)) = inl (omega arith)
          after_it d k f s (inr (w, inr (e, b))) = inr (omega arith, omega arith)

          at : (d : Entry) → Has (c ∷ cs) d → (d.match0 ≡ i) → (d.match1 ≡ j) → (i < c.match0) ⊎ ((i ≡ c.match0) × (j ≤ c.match1))
          at d (inl e) f s = inr (sym f ∙ sym (ap (λ (x : Entry). x.match0) e), (let g : c.match1 ≡ d.match1 = ap (λ (x : Entry). x.match1) e in omega arith))
          at d (inr n) f s = after_it d (h.each d (inr n)) f s (h.in_order.0 d n)

-- ---- found number by number: Q s i j says that i and the lower j tie in the set s
module _ {S : Type 0} (m : Automaton S) (sets : List S) (origins : List (ℕ × ℕ)) (Q : S → ℕ → ℕ → Type 0) where
  -- the entry's pair ties in the set of number k and in no earlier one; its word is that of k
  pub record IsListedAt (c : Entry) (k : ℕ) : Type 0 where
    pub word : c.word ≡ word origins k
    pub tie : Q (nth m sets k) c.match0 c.match1
    pub first : (i : ℕ) → i < k → Q (nth m sets i) c.match0 c.match1 → ⊥

  -- the list of the first n numbers
  pub record AreListedTo (n : ℕ) (cs : List Entry) : Type 0 where
    pub each : (c : Entry) → Has cs c → (k : ℕ) × ((k < n) × IsListedAt c k)
    pub all : (k i j : ℕ) → k < n → Q (nth m sets k) i j → (c : Entry) × (Has cs c × (c.match0 ≡ i) × (c.match1 ≡ j))
    pub in_order : IsOrdered cs

  -- the entries of number n: its ties that are not in the list, in order
  pub record AreNew (n : ℕ) (cs es : List Entry) : Type 0 where
    pub each : (c : Entry) → Has es c → (c.word ≡ word origins n) × Q (nth m sets n) c.match0 c.match1
    pub fresh : (c d : Entry) → Has es c → Has cs d → (d.match0 ≡ c.match0) → (d.match1 ≡ c.match1) → ⊥
    pub all : (i j : ℕ) → Q (nth m sets n) i j → (c : Entry) × ((Has cs c ⊎ Has es c) × (c.match0 ≡ i) × (c.match1 ≡ j))
    pub in_order : IsOrdered es

in_order_join : (cs es : List Entry) → IsOrdered cs → IsOrdered es → ((c d : Entry) → Has cs c → Has es d → StandsBefore c d) → IsOrdered (cs ++ es)
in_order_join [] es o p apart = p
in_order_join (c ∷ cs) es o p apart = (
  λ d h. ⊎_elim (λ (a : Has cs d). o.0 d a) (λ (a : Has es d). apart c d (inl refl) a) (has_cases cs es d h),
  in_order_join cs es o.1 p (λ x y h k. apart x y (inr h) k),
)

module _ {S : Type 0} (m : Automaton S) (sets : List S) (origins : List (ℕ × ℕ)) (Q : S → ℕ → ℕ → Type 0) where
  pub listed_none : AreListedTo m sets origins Q 0 []
  listed_none = record { each = λ c h. absurd h; all = λ k i j l q. absurd (omega arith); in_order = tt }

  -- one more number
  pub listed_more : (at v n : ℕ) (cs es : List Entry) → IsBreadthFirst m sets origins at v → n < length sets
      → AreListedTo m sets origins Q n cs → AreNew m sets origins Q n cs es → AreListedTo m sets origins Q (n + 1) (cs ++ es)
  listed_more at v n cs es b l h new = record {
    each = λ c x. elim (has_cases cs es c x) [
      | inl a ↦ (let (k, (kl, is)) = h.each c a in (k, (omega arith, is)))
      | inr a ↦ (n, (omega arith, record { word = (new.each c a).0; tie = (new.each c a).1; first = λ i il q. again c a i il q }))
    ];
    all = λ k i j kl q. ⊎_elim
        (λ (a : k < n). (let (c, (x, f, s)) = h.all k i j a q in (c, (has_left cs es c x, f, s))))
        (λ (a : n ≤ k). (let e : k ≡ n = omega arith in let (c, (x, f, s)) = new.all i j (subst (λ (p : ℕ). Q (nth m sets p) i j) e q) in
        (c, (⊎_elim (λ (y : Has cs c). has_left cs es c y) (λ (y : Has es c). has_right cs es c y) x, f, s))))
        (cases_lt k n);
    in_order = in_order_join cs es h.in_order new.in_order apart;
  }
    where
      again : (c : Entry) → Has es c → (i : ℕ) → i < n → Q (nth m sets i) c.match0 c.match1 → ⊥
      again c a i il q = (let (d, (x, f, s)) = h.all i c.match0 c.match1 il q in new.fresh c d a x f s)

      apart : (c d : Entry) → Has cs c → Has es d → StandsBefore c d
      apart c d x y =
          let (k, (kl, is)) = h.each c x in
          inl (rw (is.word, (new.each d y).0) (words_ascend m sets origins at v b k n kl l))

  -- the list of all numbers is the list of the clashes
  pub listed_all : (T : List ℕ → ℕ → ℕ → Type 0) → DeadStays m → IsBreadthFirst m sets origins (length sets) 0
      → ((s : S) (i j : ℕ) → m.dead s ≡ true → Q s i j → ⊥)
      → ((w : List ℕ) (i j : ℕ) → T w i j ↔ Q (after m m.start w) i j)
      → ((k : ℕ) → IsWord (word origins k))
      → (cs : List Entry) → AreListedTo m sets origins Q (length sets) cs → AreClashesOf T cs
  listed_all T stays b alive same fits cs h = record {
    each = λ c x. first_tie c (h.each c x);
    all = λ w i j t.
        (let (k, (l, q, most)) = number_of m stays sets origins b (λ s. Q s i j) (λ s d q. alive s i j d q) w ((same w i j).0 t) in h.all k i j l q);
    in_order = h.in_order;
  }
    where
      first_tie : (c : Entry) → (k : ℕ) × ((k < length sets) × IsListedAt m sets origins Q c k) → IsFirstTieOf T c
      first_tie c (k, (l, is)) = record {
        word = rw is.word (fits k);
        tie = rw is.word ((same (word origins k) c.match0 c.match1).1
            (own_word m stays sets origins b (λ s. Q s c.match0 c.match1) (λ s d q. alive s c.match0 c.match1 d q) k l is.tie));
        least = λ v less t.
            first_least m stays sets origins b (λ s. Q s c.match0 c.match1) (λ s d q. alive s c.match0 c.match1 d q) k l is.first v
            (rw is.word at less) ((same v c.match0 c.match1).0 t);
      }
