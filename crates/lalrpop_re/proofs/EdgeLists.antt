-- The words of a list of edges, after an edge is pushed or changed.
use Rattle.std.proofs.Common.{◌≡◌, ℕ, zero, suc, ◌+◌, ◌<◌, ◌⊎◌, inl, inr, ◌↔◌, List, [], ◌∷◌, ◌++◌, length, get_or, set, take, drop, Option, Some, None, sym, ap, subst, ◌∙◌, arith}
use Rattle.std.proofs.lemmas.List.{take_more, drop_all, take_all, append-nil}
use Rattle.lalrpop_hir.specs.Fault.{fault}
use Rattle.lalrpop_hir.specs.Tree.{Tree, alternation, none, also}
use Rattle.lalrpop_hir.specs.Language.{Matches}
use Rattle.lalrpop_re.specs.declared.edge.Edge.{Edge}
use Rattle.lalrpop_re.specs.Internal.Walks.{Graph, Gains}
use Rattle.lalrpop_re.specs.Internal.Edges.{Labels, between, OptionWords, IsSound, IsSoundOption, AreSound}

-- where an edge d stands in front of both lists
Gains-behind : (d e : Edge) (M N : Graph) → Gains M (Labels e) N → Gains (λ p q w. Labels d p q w ⊎ M p q w) (Labels e) (λ p q w. Labels d p q w ⊎ N p q w)
Gains-behind d e M N g p q w = (front (g p q w).0, back (g p q w).1)
  where
    front : (N p q w → M p q w ⊎ Labels e p q w) → (Labels d p q w ⊎ N p q w) → (Labels d p q w ⊎ M p q w) ⊎ Labels e p q w
    front f (inl l) = inl (inl l)
    front f (inr h) = elim (f h) [ inl a ↦ inl (inr a) | inr b ↦ inr b ]

    back : (M p q w ⊎ Labels e p q w → N p q w) → ((Labels d p q w ⊎ M p q w) ⊎ Labels e p q w) → Labels d p q w ⊎ N p q w
    back f (inl (inl l)) = inl l
    back f (inl (inr h)) = inr (f (inl h))
    back f (inr l) = inr (f (inr l))

-- an edge more at the end of the list
pub between-push : (es : List Edge) (e : Edge) → Gains (between es) (Labels e) (between (es ++ e ∷ []))
between-push [] e p q w = (λ h. elim h [ inl l ↦ inr l | inr n ↦ absurd n ], λ h. elim h [ inl n ↦ absurd n | inr l ↦ inl l ])
between-push (d ∷ es) e p q w = Gains-behind d e (between es) (between (es ++ e ∷ [])) (between-push es e) p q w

-- a loop's step
pub between-more : (es : List Edge) (i : ℕ) (e : Edge) → i < length es → e ≡ get_or es i e → Gains (between (take i es)) (Labels e) (between (take (i + 1) es))
between-more es i e h r =
    let at : take (i + 1) es ≡ take i es ++ e ∷ [] = take_more es i e h ∙ ap (λ x. take i es ++ x ∷ []) (sym r) in
    subst (λ l. Gains (between (take i es)) (Labels e) (between l)) (sym at) (between-push (take i es) e)

-- an edge that gains the words of another between the same states
pub Labels-gain : (old new it : Edge) → it.from ≡ old.from → it.to ≡ old.to → it.tree ≡ alternation (also old.tree (also new.tree none)) → old.from ≡ new.from → old.to ≡ new.to → Gains (Labels old) (Labels new) (Labels it)
Labels-gain old new it f t e g u p q w = (front, back)
  where
    by_tree : (a : it.from ≡ p) (b : it.to ≡ q) → Matches (alternation (also old.tree (also new.tree none))) w → Labels old p q w ⊎ Labels new p q w
    by_tree a b (inl m) = inl (cc, cc, m)
    by_tree a b (inr (inl m)) = inr (cc, cc, m)
    by_tree a b (inr (inr m)) = absurd m

    front : Labels it p q w → Labels old p q w ⊎ Labels new p q w
    front (a, b, m) = by_tree a b (subst (λ x. Matches x w) e m)

    back : Labels old p q w ⊎ Labels new p q w → Labels it p q w
    back (inl (a, b, m)) = (f ∙ a, t ∙ b, subst (λ x. Matches x w) (sym e) (inl m))
    back (inr (a, b, m)) = (f ∙ (g ∙ a), t ∙ (u ∙ b), subst (λ x. Matches x w) (sym e) (inr (inl m)))

-- the list gains what one of its edges gains
pub between-set : (es : List Edge) (i : ℕ) (old new it : Edge) → i < length es → old ≡ get_or es i old → Gains (Labels old) (Labels new) (Labels it) → Gains (between es) (Labels new) (between (set es i it))
between-set [] i old new it h r g p q w = absurd (omega arith)
between-set (d ∷ es) zero old new it h r g p q w = (front, back)
  where
    on : Gains (Labels d) (Labels new) (Labels it)
    on = subst (λ x. Gains (Labels x) (Labels new) (Labels it)) r g

    front : (Labels it p q w ⊎ between es p q w) → (Labels d p q w ⊎ between es p q w) ⊎ Labels new p q w
    front (inl l) = elim ((on p q w).0 l) [ inl a ↦ inl (inl a) | inr b ↦ inr b ]
    front (inr h) = inl (inr h)

    back : ((Labels d p q w ⊎ between es p q w) ⊎ Labels new p q w) → Labels it p q w ⊎ between es p q w
    back (inl (inl l)) = inl ((on p q w).1 (inl l))
    back (inl (inr h)) = inr h
    back (inr l) = inl ((on p q w).1 (inr l))
between-set (d ∷ es) (suc i) old new it h r g p q w =
    Gains-behind d new (between es) (between (set es i it)) (between-set es i old new it (omega arith) r g) p q w

-- ---- loops over edges

-- what is left of a list after all of it was written
pub all-written : (xs ys : List Edge) (n : ℕ) → length xs ≡ n → length ys ≡ n → take n (xs ++ drop (length xs) ys) ≡ xs
all-written xs ys n h g =
    ap (λ l. take n (xs ++ l)) (drop_all (length xs) ys (omega arith)) ∙ (ap (take n) (append-nil xs) ∙ take_all n xs (omega arith))

pub sound-at : (es : List Edge) (i : ℕ) (e : Edge) → i < length es → e ≡ get_or es i e → AreSound es → IsSound e
sound-at es i e h r s = subst IsSound (sym r) (s i e h)

-- an alternation of two trees
pub Matches-either : (s t : Tree) (w : List ℕ) → Matches (alternation (also s (also t none))) w ↔ (Matches s w ⊎ Matches t w)
Matches-either s t w = (front, λ h. elim h [ inl a ↦ inl a | inr b ↦ inr (inl b) ])
  where
    front : Matches (alternation (also s (also t none))) w → Matches s w ⊎ Matches t w
    front (inl a) = inl a
    front (inr (inl b)) = inr b
    front (inr (inr n)) = absurd n

pub sound-either : (s t u : Tree) → u ≡ alternation (also s (also t none)) → fault s ≡ None → fault t ≡ None → fault u ≡ None
sound-either s t u e f g = rw (e, f, g)

-- the second edge has the words of the first, and those of e if it leads from and to these states
abbrev pub Joins : Option Edge → Edge → ℕ → ℕ → Option Edge → Type 0
Joins o e from to o' =
    ((w : List ℕ) → OptionWords o' w ↔ (OptionWords o w ⊎ Labels e from to w)) × (IsSoundOption o → IsSound e → IsSoundOption o')

pub Joins-first : (e x : Edge) (from to : ℕ) → e.from ≡ from → e.to ≡ to → x.tree ≡ e.tree → Joins None e from to (Some x)
Joins-first e x from to f g h = (λ w. (λ m. inr (f, g, subst (λ t. Matches t w) h m), back w), λ _ s. ap fault h ∙ s)
  where
    back : (w : List ℕ) → ⊥ ⊎ Labels e from to w → Matches x.tree w
    back w (inl n) = absurd n
    back w (inr l) = subst (λ t. Matches t w) (sym h) l.2

pub Joins-more : (a b e x : Edge) (from to : ℕ) → e.from ≡ from → e.to ≡ to → x.tree ≡ e.tree → b.tree ≡ alternation (also a.tree (also x.tree none)) → Joins (Some a) e from to (Some b)
Joins-more a b e x from to f g h k = (λ w. (front w, back w), λ s r. sound-either a.tree x.tree b.tree k s (ap fault h ∙ r))
  where
    front : (w : List ℕ) → Matches b.tree w → Matches a.tree w ⊎ Labels e from to w
    front w m =
        elim ((Matches-either a.tree x.tree w).0 (subst (λ t. Matches t w) k m))
        [ inl l ↦ inl l | inr r ↦ inr (f, g, subst (λ t. Matches t w) h r) ]

    back : (w : List ℕ) → Matches a.tree w ⊎ Labels e from to w → Matches b.tree w
    back w (inl l) = subst (λ t. Matches t w) (sym k) ((Matches-either a.tree x.tree w).1 (inl l))
    back w (inr l) = subst (λ t. Matches t w) (sym k) ((Matches-either a.tree x.tree w).1 (inr (subst (λ t. Matches t w) (sym h) l.2)))

pub Joins-none : (o : Option Edge) (e : Edge) (from to : ℕ) → (e.from ≡ from → e.to ≡ to → ⊥) → Joins o e from to o
Joins-none o e from to n = (λ w. (λ h. inl h, back w), λ s _. s)
  where
    back : (w : List ℕ) → OptionWords o w ⊎ Labels e from to w → OptionWords o w
    back w (inl h) = h
    back w (inr l) = absurd (n l.0 l.1)

-- a loop's step
pub joined-more : (es : List Edge) (i : ℕ) (e : Edge) (from to : ℕ) (o o' : Option Edge) → i < length es → e ≡ get_or es i e → Joins o e from to o' → ((w : List ℕ) → OptionWords o w ↔ between (take i es) from to w) → (w : List ℕ) → OptionWords o' w ↔ between (take (i + 1) es) from to w
joined-more es i e from to o o' h r j k w = (front, back)
  where
    g : between (take (i + 1) es) from to w ↔ (between (take i es) from to w ⊎ Labels e from to w)
    g = between-more es i e h r from to w

    front : OptionWords o' w → between (take (i + 1) es) from to w
    front m = elim ((j.0 w).0 m) [ inl a ↦ g.1 (inl ((k w).0 a)) | inr l ↦ g.1 (inr l) ]

    back : between (take (i + 1) es) from to w → OptionWords o' w
    back m = elim (g.0 m) [ inl a ↦ (j.0 w).1 (inl ((k w).1 a)) | inr l ↦ (j.0 w).1 (inr l) ]
