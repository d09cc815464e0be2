-- Cases of specs/Pictured.antt.
use Rattle.std.proofs.Common.{◌≡◌, ℕ, true, false, List, [], ◌∷◌, codes, refl, sym, ap, subst, ◌∙◌, inl, inr, arith}
use Rattle.std.specs.Prelude.{Some, None, slice_get}
use Rattle.std.specs.List.{AllZip, range_with_len}
use Rattle.std.specs.Str.{chars}
use Rattle.std.proofs.lemmas.Option.{same_Some}
use Rattle.ucd_category.proofs.Computing.{ucd_category}
use Rattle.ucd_derived.proofs.Computing.{ucd_derived}
use Rattle.bajofeki_rules.specs.declared.action.Action.TheVariants.{Mode, Push, Pop}
use Rattle.lalrpop_hir.specs.Tree.{Tree}
use Rattle.lalrpop_hir.specs.Winners.{Matched}
use Rattle.lalrpop_dfa.specs.Dfa.{Row, after, IsRightKind}
use Rattle.lalrpop_dfa.specs.declared.Kind.{Kind}
use Rattle.lalrpop_dfa.specs.declared.Kind.TheVariants.{Accepts, Reject, Neither}
use Rattle.lalrpop_dfa.proofs.EdgeTargets.{the_some}
use Rattle.lalrpop_rules.specs.Modes.{ModeRules, trees_in}
use Rattle.lalrpop_verdicts.specs.Smallest.{IsSmallest}
use Rattle.reports_lib.specs.Answer.{Answer, refusal}
use Rattle.lexdfa_lib.specs.Command.{has}
use Rattle.reviews_lib.specs.Pictured.{ArePictures, IsDrawn, IsMissing, IsSmallestIn, IsSmallestOf, PictureAnswer, labels, rules_named}

-- of two modes both are drawn
first_alone : (Is : ℕ → List ℕ → Type 0) (one : List ℕ) → ¬ AllZip Is (range_with_len 0 2) (one ∷ [])
first_alone Is one (is, rest) = rest

-- an automaton that isn't the smallest is none of them
too_large : (r : ModeRules) (m : ℕ) (d : List Row) → (¬ IsSmallest d) → ¬ IsSmallestIn r m d
too_large r m d large (recognizes, (smallest, canonical)) = large smallest

-- nor is that of another mode, where one mode has a match that the other doesn't have
not_both : (ts us : List Tree) (ps w : List ℕ) (k : Kind) → Matched ts w → ¬ Matched us w → IsRightKind ts ps w k → IsRightKind us ps w k → ⊥
not_both ts us ps w (Accepts i) some none here there = none (i, there.0.0)
not_both ts us ps w Reject some none here there = here some
not_both ts us ps w Neither some none here there = here some

of_another_mode : (r : ModeRules) (m n : ℕ) (d : List Row) (w : List ℕ) → Matched (trees_in r m) w → ¬ Matched (trees_in r n) w → IsSmallestIn r m d → ¬ IsSmallestIn r n d
of_another_mode r m n d w some none here there =
    let (x, (at, is)) = the_some (slice_get d (after d w)) (λ (z : Row). IsRightKind (trees_in r m) r.precedences w z.kind) (here.0.kinds w) in
    let (y, (also, other)) = the_some (slice_get d (after d w)) (λ (z : Row). IsRightKind (trees_in r n) r.precedences w z.kind) (there.0.kinds w) in
    let same : y ≡ x = same_Some y x (sym also ∙ at) in
    not_both (trees_in r m) (trees_in r n) r.precedences w x.kind some none is (subst (λ (z : Row). IsRightKind (trees_in r n) r.precedences w z.kind) same other)

too_large_alone : (t : Tree) (d : List Row) → (¬ IsSmallest d) → ¬ IsSmallestOf t d
too_large_alone t d large (recognizes, (smallest, canonical)) = large smallest

-- three rules, two of which have one name
abbrev rules : Tree → ModeRules
rules t = record {
  names = codes "A" ∷ codes "AB" ∷ codes "A" ∷ [];
  trees = t ∷ t ∷ t ∷ [];
  precedences = 0 ∷ 1 ∷ 0 ∷ [];
  skips = false ∷ true ∷ false ∷ [];
  actions = (Push 1 ∷ []) ∷ [] ∷ (Pop ∷ Mode 0 ∷ []) ∷ [];
  members = (0 ∷ []) ∷ (0 ∷ []) ∷ (1 ∷ []) ∷ [];
  kinds = 0 ∷ 1 ∷ 2 ∷ [];
  modes = 2;
  mode_names = [];
  automata = [];
}

-- all rules of the name, in their order, and no others
of_one_name : (t : Tree) → rules_named (rules t) (codes "A") ≡ 0 ∷ 2 ∷ []
of_one_name t = refl

first_rule_alone : (Is : ℕ → List ℕ → Type 0) (t : Tree) (one : List ℕ) → ¬ AllZip Is (rules_named (rules t) (codes "A")) (one ∷ [])
first_rule_alone Is t one (is, rest) = rest

none_drawn : (Is : ℕ → List ℕ → Type 0) (t : Tree) → ArePictures Is (rules_named (rules t) (codes "B")) []
none_drawn Is t = ([], (tt, refl))

-- what is done to the stack of modes, and that a token is skipped
labelled : (t : Tree) → labels (rules t) (codes "INITIAL" ∷ codes "TEXT" ∷ []) ≡ codes "A push TEXT" ∷ codes "AB skip" ∷ codes "A pop mode INITIAL" ∷ []
labelled t = refl

-- a name that no rule has isn't drawn; without a name none is missing
missing_or_drawn : (r : ModeRules) (modes : List (List ℕ)) (name text : List ℕ) → IsMissing r (Some name) name → ¬ IsDrawn r modes (Some name) text
missing_or_drawn r modes name text (given, absent) (there, are) = absurd (cc (absent, there))

none_missing : (r : ModeRules) (name : List ℕ) → ¬ IsMissing r None name
none_missing r name (given, absent) = absurd (cc (given))

refused : (r : ModeRules) (modes : List (List ℕ)) → has r.names (codes "B") ≡ false
    → PictureAnswer (codes "one") (Some (codes "B")) r modes (refusal 4 (codes "tokens: one: no rule has the name \"B\"; leave it out to draw each mode\n"))
unfolding chars lib.Utf8.encode ucd_category ucd_derived
refused r modes absent = inr (codes "B", ((refl, absent), refl))

-- nothing else is refused
no_status_2 : (file : List ℕ) (r : ModeRules) (modes : List (List ℕ)) (said : List ℕ) → ¬ PictureAnswer file None r modes (refusal 2 said)
no_status_2 file r modes said (inl (text, (are, e))) = let s : 2 ≡ 0 = ap (λ (a : Answer). a.status) e in omega (arith, s)
no_status_2 file r modes said (inr (name, (is, e))) = let s : 2 ≡ 4 = ap (λ (a : Answer). a.status) e in omega (arith, s)
