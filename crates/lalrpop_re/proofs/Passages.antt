-- The edges that lead past a state, one entry and one exit after another.
use Rattle.std.proofs.Common.{◌≡◌, ◌≢◌, ℕ, zero, suc, ◌+◌, ◌<◌, ◌⊎◌, inl, inr, ◌↔◌, List, [], length, get_or, take, true, Option, Some, None, sym, ap, subst, ◌∙◌, arith}
use Rattle.lalrpop_hir.specs.Tree.{Tree, empty, repetition, concat, none, also}
use Rattle.lalrpop_hir.specs.Language.{Words, Power, Matches}
use Rattle.lalrpop_hir.specs.Fault.{fault}
use Rattle.lalrpop_hir.proofs.Languages.{Matches-concat-one}
use Rattle.lalrpop_re.specs.declared.edge.Edge.{Edge}
use Rattle.lalrpop_re.specs.Internal.Walks.{Graph, Star, Gains, Past, IsWithoutAfter}
use Rattle.lalrpop_re.specs.Internal.Edges.{Labels, between, Exits, OptionWords, IsSoundOption}
use Rattle.lalrpop_re.proofs.EdgeLists.{between-more}

-- ---- turns

Power-map : (L M : Words) → ((w : List ℕ) → L w → M w) → (k : ℕ) (w : List ℕ) → Power k L w → Power k M w
Power-map L M f zero w p = p
Power-map L M f (suc k) w (u, v, (e, m, h)) = (u, v, (e, f u m, Power-map L M f k v h))

-- the tree of turns, where there is an edge for them or none
abbrev pub IsTurns : Option Edge → Tree → Type 0
IsTurns None t = t ≡ empty
IsTurns (Some e) t = t ≡ repetition 0 None true e.tree

pub Matches-turns : (o : Option Edge) (t : Tree) (L : Words) → IsTurns o t → ((w : List ℕ) → OptionWords o w ↔ L w) → (w : List ℕ) → Matches t w ↔ Star L w
Matches-turns None t L e h w = (λ m. (0, subst (λ x. Matches x w) e m), λ s. subst (λ x. Matches x w) (sym e) (back s.0 s.1))
  where
    back : (k : ℕ) → Power k L w → w ≡ []
    back zero p = p
    back (suc k) (u, v, (f, m, p)) = absurd ((h u).1 m)
Matches-turns (Some x) t L e h w = (λ m. front (subst (λ y. Matches y w) e m), λ s. subst (λ y. Matches y w) (sym e) (s.0, (omega arith, Power-map L (Matches x.tree) (λ u. (h u).1) s.0 w s.1)))
  where
    front : Matches (repetition 0 None true x.tree) w → Star L w
    front (k, (_, p)) = (k, Power-map (Matches x.tree) L (λ u. (h u).0) k w p)

pub sound-turns : (o : Option Edge) (t : Tree) → IsTurns o t → IsSoundOption o → fault t ≡ None
sound-turns None t e s = ap fault e
sound-turns (Some x) t e s = ap fault e ∙ s

-- ---- exits

Exits-map : (a t : Edge) (M N : Graph) (p q : ℕ) (w : List ℕ) → ((x : List ℕ) → M a.to q x → N a.to q x) → Exits a t M p q w → Exits a t N p q w
Exits-map a t M N p q w f (e, n, (u, v, (g, m, (s, x, (h, k, l))))) = (e, n, (u, v, (g, m, (s, x, (h, k, f x l)))))

-- the second graph has the words of the first, and those along a, its turns and e if they lead out of its state
abbrev pub JoinsExit : Edge → Edge → Edge → Graph → Graph → Type 0
JoinsExit a t e M N = (p q : ℕ) (w : List ℕ) → N p q w ↔ (M p q w ⊎ Exits a t (Labels e) p q w)

pub JoinsExit-one : (a t e x : Edge) (M N : Graph) → e.from ≡ a.to → e.to ≢ a.to → x.from ≡ a.from → x.to ≡ e.to → x.tree ≡ concat (also a.tree (also t.tree (also e.tree none))) → Gains M (Labels x) N → JoinsExit a t e M N
JoinsExit-one a t e x M N f n g h k gains p q w = (front, back)
  where
    to : Matches (concat (also a.tree (also t.tree (also e.tree none)))) w → x.from ≡ p → x.to ≡ q → Exits a t (Labels e) p q w
    to (u, v, (i, m, (s, y, (j, l, r)))) b c =
        (sym g ∙ b, λ z. n (sym h ∙ (c ∙ z)), (u, v, (i, m, (s, y, (j, l, (f, sym h ∙ c, (Matches-concat-one e.tree y).0 r))))))

    from : Exits a t (Labels e) p q w → Labels x p q w
    from (b, _, (u, v, (i, m, (s, y, (j, l, (_, c, r)))))) =
        let all : Matches (concat (also a.tree (also t.tree (also e.tree none)))) w = (u, v, (i, m, (s, y, (j, l, (Matches-concat-one e.tree y).1 r)))) in
        (g ∙ b, h ∙ c, subst (λ z. Matches z w) (sym k) all)

    front : N p q w → M p q w ⊎ Exits a t (Labels e) p q w
    front m = elim ((gains p q w).0 m) [ inl b ↦ inl b | inr l ↦ inr (to (subst (λ z. Matches z w) k l.2) l.0 l.1) ]

    back : M p q w ⊎ Exits a t (Labels e) p q w → N p q w
    back (inl b) = (gains p q w).1 (inl b)
    back (inr l) = (gains p q w).1 (inr (from l))

pub JoinsExit-none : (a t e : Edge) (M : Graph) → (e.from ≡ a.to → e.to ≢ a.to → ⊥) → JoinsExit a t e M M
JoinsExit-none a t e M n p q w = (λ m. inl m, back)
  where
    back : M p q w ⊎ Exits a t (Labels e) p q w → M p q w
    back (inl b) = b
    back (inr (_, o, (u, v, (_, _, (s, y, (_, _, (f, c, _))))))) = absurd (n f (λ z. o (sym c ∙ z)))

pub exits-more : (es : List Edge) (i : ℕ) (a t e : Edge) (M N N' : Graph) → i < length es → e ≡ get_or es i e → JoinsExit a t e N N' → Gains M (Exits a t (between (take i es))) N → Gains M (Exits a t (between (take (i + 1) es))) N'
exits-more es i a t e M N N' h r j g p q w = (front, back)
  where
    more : Gains (between (take i es)) (Labels e) (between (take (i + 1) es))
    more = between-more es i e h r

    front : N' p q w → M p q w ⊎ Exits a t (between (take (i + 1) es)) p q w
    front m =
        elim ((j p q w).0 m) [
          | inl b ↦ elim ((g p q w).0 b) [
            | inl c ↦ inl c
            | inr c ↦ inr (Exits-map a t (between (take i es)) (between (take (i + 1) es)) p q w (λ x l. (more a.to q x).1 (inl l)) c)
          ]
          | inr c ↦ inr (Exits-map a t (Labels e) (between (take (i + 1) es)) p q w (λ x l. (more a.to q x).1 (inr l)) c)
        ]

    back : M p q w ⊎ Exits a t (between (take (i + 1) es)) p q w → N' p q w
    back (inl c) = (j p q w).1 (inl ((g p q w).1 (inl c)))
    back (inr (f, n, (u, v, (k, m, (s, x, (y, z, l)))))) =
        elim ((more a.to q x).0 l) [
          | inl b ↦ (j p q w).1 (inl ((g p q w).1 (inr (f, n, (u, v, (k, m, (s, x, (y, z, b))))))))
          | inr b ↦ (j p q w).1 (inr (f, n, (u, v, (k, m, (s, x, (y, z, b))))))
        ]

pub sound-three : (a b c d : Tree) → d ≡ concat (also a (also b (also c none))) → fault a ≡ None → fault b ≡ None → fault c ≡ None → fault d ≡ None
sound-three a b c d e f g h = rw (e, h, g, f)

-- ---- one edge after another

-- the second graph has the words of the first, and those of e, if it leads past k, or along e over k
abbrev pub Passes : Edge → Graph → ℕ → Graph → Graph → Type 0
Passes e M k N N' = (p q : ℕ) (w : List ℕ) → N' p q w ↔ (N p q w ⊎ ((p ≢ k) × (q ≢ k) × (Labels e p q w ⊎ Past (Labels e) M k p q w)))

pub Passes-kept : (e x : Edge) (M : Graph) (k : ℕ) (N N' : Graph) → e.from ≢ k → e.to ≢ k → x.from ≡ e.from → x.to ≡ e.to → x.tree ≡ e.tree → Gains N (Labels x) N' → Passes e M k N N'
Passes-kept e x M k N N' n m f g t gains p q w = (front, back)
  where
    front : N' p q w → N p q w ⊎ ((p ≢ k) × (q ≢ k) × (Labels e p q w ⊎ Past (Labels e) M k p q w))
    front h =
        elim ((gains p q w).0 h) [
          | inl b ↦ inl b
          | inr l ↦ inr (λ s. n (sym f ∙ (l.0 ∙ s)), λ s. m (sym g ∙ (l.1 ∙ s)), inl (sym f ∙ l.0, sym g ∙ l.1, subst (λ y. Matches y w) t l.2))
        ]

    back : N p q w ⊎ ((p ≢ k) × (q ≢ k) × (Labels e p q w ⊎ Past (Labels e) M k p q w)) → N' p q w
    back (inl b) = (gains p q w).1 (inl b)
    back (inr (_, _, inl l)) = (gains p q w).1 (inr (f ∙ l.0, g ∙ l.1, subst (λ y. Matches y w) (sym t) l.2))
    back (inr (_, _, inr (u, v, (_, (_, b, _), _)))) = absurd (m b)

pub Passes-entry : (e t : Edge) (M : Graph) (k : ℕ) (N N' : Graph) → e.to ≡ k → e.from ≢ k → ((w : List ℕ) → Matches t.tree w ↔ Star (M k k) w) → Gains N (Exits e t M) N' → Passes e M k N N'
Passes-entry e t M k N N' f n turns gains p q w = (front, back)
  where
    to : Exits e t M p q w → (p ≢ k) × (q ≢ k) × (Labels e p q w ⊎ Past (Labels e) M k p q w)
    to (b, o, (u, v, (i, m, (s, y, (j, l, r))))) =
        (λ z. n (b ∙ z), λ z. o (z ∙ sym f), inr (u, v, (i, (b, f, m), (s, y, (j, (turns s).0 l, subst (λ z. M z q y) f r)))))

    front : N' p q w → N p q w ⊎ ((p ≢ k) × (q ≢ k) × (Labels e p q w ⊎ Past (Labels e) M k p q w))
    front m = elim ((gains p q w).0 m) [ inl b ↦ inl b | inr l ↦ inr (to l) ]

    back : N p q w ⊎ ((p ≢ k) × (q ≢ k) × (Labels e p q w ⊎ Past (Labels e) M k p q w)) → N' p q w
    back (inl b) = (gains p q w).1 (inl b)
    back (inr (_, o, inl (_, c, _))) = absurd (o (sym c ∙ f))
    back (inr (_, o, inr (u, v, (i, (b, _, m), (s, y, (j, l, r)))))) =
        (gains p q w).1 (inr (b, λ z. o (z ∙ f), (u, v, (i, m, (s, y, (j, (turns s).1 l, subst (λ z. M z q y) (sym f) r))))))

pub Passes-exit : (e : Edge) (M : Graph) (k : ℕ) (N : Graph) → e.from ≡ k → Passes e M k N N
Passes-exit e M k N f p q w = (λ m. inl m, back)
  where
    back : N p q w ⊎ ((p ≢ k) × (q ≢ k) × (Labels e p q w ⊎ Past (Labels e) M k p q w)) → N p q w
    back (inl b) = b
    back (inr (o, _, inl (b, _, _))) = absurd (o (sym b ∙ f))
    back (inr (o, _, inr (u, v, (_, (b, _, _), _)))) = absurd (o (sym b ∙ f))

pub without-more : (es : List Edge) (i : ℕ) (e : Edge) (M : Graph) (k : ℕ) (N N' : Graph) → i < length es → e ≡ get_or es i e → Passes e M k N N' → IsWithoutAfter (between (take i es)) M k N → IsWithoutAfter (between (take (i + 1) es)) M k N'
without-more es i e M k N N' h r j b p q w = (front, back)
  where
    more : Gains (between (take i es)) (Labels e) (between (take (i + 1) es))
    more = between-more es i e h r

    wider : (E : Graph) → ((p q : ℕ) (w : List ℕ) → E p q w → between (take (i + 1) es) p q w) → ((p ≢ k) × (q ≢ k) × (E p q w ⊎ Past E M k p q w)) → (p ≢ k) × (q ≢ k) × (between (take (i + 1) es) p q w ⊎ Past (between (take (i + 1) es)) M k p q w)
    wider E f (o, n, inl m) = (o, n, inl (f p q w m))
    wider E f (o, n, inr (u, v, (g, m, c))) = (o, n, inr (u, v, (g, f p k u m, c)))

    front : N' p q w → (p ≢ k) × (q ≢ k) × (between (take (i + 1) es) p q w ⊎ Past (between (take (i + 1) es)) M k p q w)
    front m =
        elim ((j p q w).0 m) [
          | inl a ↦ wider (between (take i es)) (λ p q w x. (more p q w).1 (inl x)) ((b p q w).0 a)
          | inr l ↦ wider (Labels e) (λ p q w x. (more p q w).1 (inr x)) l
        ]

    back : ((p ≢ k) × (q ≢ k) × (between (take (i + 1) es) p q w ⊎ Past (between (take (i + 1) es)) M k p q w)) → N' p q w
    back (o, n, inl m) =
        elim ((more p q w).0 m) [ inl a ↦ (j p q w).1 (inl ((b p q w).1 (o, n, inl a))) | inr l ↦ (j p q w).1 (inr (o, n, inl l)) ]
    back (o, n, inr (u, v, (f, m, c))) =
        elim ((more p k u).0 m) [
          | inl a ↦ (j p q w).1 (inl ((b p q w).1 (o, n, inr (u, v, (f, a, c)))))
          | inr l ↦ (j p q w).1 (inr (o, n, inr (u, v, (f, l, c))))
        ]
