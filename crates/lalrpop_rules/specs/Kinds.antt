-- cases: proofs/Cases/Kinds.antt
-- Rules of one kind: a token of one of them is a token of the first.
use Rattle.std.specs.Prelude.{◌≡◌, ℕ, ◌<◌, ◌==◌, if◌then◌else◌, Bool, false, List, [], ◌∷◌, ◌++◌, length, map, Option, Some, None, slice_get}
use Rattle.std.specs.List.{list_any}
use Rattle.lalrpop_hir.specs.Tree.{Tree, alternation}
use Rattle.lalrpop_hir.specs.Parts.{trees}
use Rattle.bajofeki_rules.specs.declared.rule.Rule.{Rule}

-- rules of one kind have one name and one precedence, and are both skipped or both not
pub record AreOneKind (r q : Rule) : Type 0 where
  pub name : r.name.now ≡ q.name.now
  pub precedence : r.precedence.0 ≡ q.precedence.0
  pub skipped : r.is_skipped ≡ q.is_skipped

-- k is the index of the first item that is the same as x
pub record IsFirstSame {X : Type 0} (Same : X → X → Type 0) (xs : List X) (x : X) (k : ℕ) : Type 0 where
  pub item : X
  pub at : slice_get xs k ≡ Some item
  pub same : Same item x
  pub none_before : (j : ℕ) (y : X) → j < k → slice_get xs j ≡ Some y → ¬ Same y x

-- kinds are numbers: each item's is the index of the first item that is the same
pub record AreKinds {X : Type 0} (Same : X → X → Type 0) (xs : List X) (ks : List ℕ) : Type 0 where
  pub one_each : length ks ≡ length xs
  pub first : (i k : ℕ) (x : X) → slice_get xs i ≡ Some x → slice_get ks i ≡ Some k → IsFirstSame Same xs x k

-- whether a rule is at work and of this kind; one that isn't at work has no kind
abbrev pub is_kind : ℕ → Option ℕ → Bool
is_kind k None = false
is_kind k (Some n) = n == k

-- the trees of the rules of this kind
abbrev pub trees_of_kind : ℕ → List (Option ℕ) → List Tree → List Tree
trees_of_kind k [] ts = []
trees_of_kind k (o ∷ os) [] = []
trees_of_kind k (o ∷ os) (t ∷ ts) = if is_kind k o then t ∷ trees_of_kind k os ts else trees_of_kind k os ts

-- what some of them matches: one tree as it is, others as their alternation
abbrev pub one_tree : List Tree → Tree
one_tree [] = alternation (trees [])
one_tree (t ∷ []) = t
one_tree (t ∷ u ∷ ts) = alternation (trees (t ∷ u ∷ ts))

-- what the first rule of the lists has, after rules of other kinds: the trees of its kind; none, if it isn't at work or isn't the first of its kind
abbrev pub gathered : List (Option ℕ) → Option ℕ → List (Option ℕ) → List Tree → List Tree
gathered before None os ts = []
gathered before (Some k) os ts = if list_any (λ o. is_kind k o) before then [] else trees_of_kind k os ts

abbrev pub merged_behind : List (Option ℕ) → List (Option ℕ) → List Tree → List Tree
merged_behind before [] ts = []
merged_behind before (o ∷ os) [] = []
merged_behind before (o ∷ os) (t ∷ ts) = one_tree (gathered before o (o ∷ os) (t ∷ ts)) ∷ merged_behind (before ++ o ∷ []) os ts

-- the first rule of each kind has all trees of its kind; the others match nothing. So the index of a token is the index of the first rule of its kind
abbrev pub merged : List (Option ℕ) → List Tree → List Tree
merged os ts = merged_behind [] os ts

-- where all rules are at work
abbrev pub all_at_work : List ℕ → List (Option ℕ)
all_at_work ks = map (λ k. Some k) ks
