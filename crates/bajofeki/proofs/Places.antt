-- The piece at a place: what is kept of it, the stack of modes after it, what it costs, and when it is too large to be kept.
use Rattle.std.proofs.Common.{◌≡◌, ◌≢◌, ℕ, ◌+◌, ◌-◌, ◌<◌, ◌≤◌, ◌⊎◌, inl, inr, Bool, List, [], ◌∷◌, ◌++◌, length, take, drop, if◌then◌else◌, refl, sym, ap, subst, ◌∙◌, arith, eq-eqb, ne_eqb, length-drop}
use Rattle.std.specs.Prelude.{Option, Some, None, IsSomeAnd, slice_get}
use Rattle.std.specs.Str.{chars, IsCharBoundary}
use Rattle.std.proofs.lemmas.List.{drop-drop}
use Rattle.std.proofs.lemmas.List.Elements.{All-weaker}
use Rattle.std.proofs.lemmas.Option.{slice_get_within}
use Rattle.std.proofs.lemmas.Str.{IsCharBoundary-from_rest}
use Rattle.lalrpop_hir.specs.Tree.{Tree}
use Rattle.lalrpop_hir.specs.Longest.{IsLongest}
use Rattle.lalrpop_hir.specs.Winners.{Matched}
use Rattle.lalrpop_rules.specs.Kinds.{merged_behind}
use Rattle.bajofeki_rules.specs.Stack.{Stack, act_all, actions_of}
use Rattle.lalrpop_rules.specs.Modes.{ModeRules, kinds_of, mode_rules, trees_in}
use Rattle.bajofeki.specs.Lexed.{ReadsTo}
use Rattle.bajofeki.specs.Internal.Reach.{AreAlike}
use Rattle.bajofeki.specs.Internal.Kept.{IsFront, IsKept, IsReadFor, ReadsOn, rule_of, reach_of, after_rule, after_kept}
use Rattle.bajofeki.specs.Internal.Noted.{IsKnown}
use Rattle.bajofeki.specs.Internal.Paying.{IsCrossing, IsNew, IsNote, IsOwed, IsOwedBehind, IsFrontPaid, IsPiecePaid}
use Rattle.bajofeki.specs.declared.cutter.Cutter.{Cutter}
use Rattle.bajofeki.specs.declared.front.Front.{Front}
use Rattle.bajofeki.specs.declared.kept.Kept.{Kept}
use Rattle.bajofeki.specs.declared.place.Place.{Place}
use Rattle.bajofeki.specs.declared.walker.Walker.{Walker}
use Rattle.bajofeki.proofs.Fronts.{IsFrontBy}
use Rattle.bajofeki.proofs.FrontCosts.{crossing_before}

-- ---- the stack

pub after_token : (r : ModeRules) (k : Kept) (s t : Stack) → k.rule ≢ 4294967295 → t ≡ act_all (actions_of r.actions k.rule) s → t ≡ after_kept r k s
after_token r k s t some acted =
    let rule : rule_of k ≡ Some k.rule = ap (λ (b : Bool). if b then None else Some k.rule) (ne_eqb k.rule 4294967295 some) in
    acted ∙ ap (λ (o : Option ℕ). after_rule r.actions o s) (sym rule)

pub after_fault : (r : ModeRules) (k : Kept) (s : Stack) → k.rule ≡ 4294967295 → s ≡ after_kept r k s
after_fault r k s none =
    let rule : rule_of k ≡ None = ap (λ (b : Bool). if b then None else Some k.rule) (eq-eqb k.rule 4294967295 none) in
    ap (λ (o : Option ℕ). after_rule r.actions o s) (sym rule)

-- ---- what is kept

pub front_kept : (r : ModeRules) (mode : ℕ) (text : List ℕ) (k : Kept) (rule : Option ℕ) (size reach : ℕ) → IsFrontBy (trees_in r mode) r.precedences text rule size reach
    → IsReadFor (trees_in r mode) text rule size reach → (rule_of k ≡ rule) × (k.size ≡ size) × (reach_of k ≡ reach) → IsKept r mode text k
front_kept r mode text k rule size reach front read (same_rule, same_size, same_reach) = record {
  front = λ other alike.
      let found = front other (subst (λ (n : ℕ). AreAlike n text other) same_reach alike) in
      (found.0, (found.1.0 ∙ sym same_size, subst (λ (o : Option ℕ). IsFront (trees_in r mode) r.precedences other o found.0) (sym same_rule) found.1.1));
  reads = λ n above below within u.
      subst (λ (o : Option ℕ). ReadsOn (trees_in r mode) (take n text) o k.size) (sym same_rule)
      (subst (ReadsOn (trees_in r mode) (take n text) rule) (sym same_size) (read n (omega (arith, above, same_size)) (omega (arith, below, same_reach)) within u));
}

-- ---- what it costs

-- a fault leaves the stack
pub fault_stack : (r : ModeRules) (k : Kept) (s t : Stack) (rule : Option ℕ) → rule_of k ≡ rule → t ≡ after_kept r k s → rule ≡ None → t ≡ s
fault_stack r k s t rule same is none = is ∙ ap (λ (o : Option ℕ). after_rule r.actions o s) (same ∙ none)

-- what is read of what is left of a text is read of the text
reads_there : (ts : List Tree) (text : List ℕ) (at k far : ℕ) → ReadsTo ts (drop at text) k far → ReadsTo ts text (at + k) (at + far)
reads_there ts text at k far reads =
    let size : (at + far) - (at + k) ≡ far - k = omega arith in
    let same : take ((at + far) - (at + k)) (drop (at + k) text) ≡ take (far - k) (drop k (drop at text)) =
    ap (λ (n : ℕ). take n (drop (at + k) text)) size ∙ ap (take (far - k)) (sym (drop-drop k at text)) in
    (omega (arith, reads.0), (reads.1.0, subst (λ (t : List ℕ). Matched ts (chars t ++ reads.1.0)) (sym same) reads.1.1))

-- what is new there is a note for the text
note_there : (c d : Cutter) (w : Walker) (mode at far : ℕ) (text : List ℕ) (x : ℕ × (ℕ × ℕ)) → at ≤ length text → slice_get d.walkers.items mode ≡ Some w
    → IsNew w c.memo d.memo mode at (drop at text) far x → IsNote d text at (at + far) x
note_there c d w mode at far text x within there new = record {
  walk = (w, (subst (λ (m : ℕ). slice_get d.walkers.items m ≡ Some w) (sym new.mode_is) there, new.met, new.is_open));
  above = omega (arith, new.there.1.0);
  below = omega (arith, new.there.1.0, new.there.1.1);
  crossing = subst (λ (n : ℕ). IsCrossing 0 text n) (sym new.there.1.0)
      (crossing_before 0 at new.there.0 text within (subst (λ (b : ℕ). IsCrossing b (drop at text) new.there.0) (omega arith) new.there.1.2));
  known = new.known;
}

-- the piece at the front of what is left of a text is one of the text
pub piece_paid : (r : ModeRules) (c d : Cutter) (text : List ℕ) (old next : Place) (w : Walker) (f : Front) (before after far : ℕ) (news : List (ℕ × (ℕ × ℕ))) → old.at ≤ length text
    → slice_get d.walkers.items old.stack.mode ≡ Some w → next.at ≡ old.at + f.size → (f.rule ≡ None → next.stack ≡ old.stack)
    → IsFrontPaid w (trees_in r old.stack.mode) r.precedences c.memo d.memo old.stack.mode old.at (drop old.at text) f before after news far
    → IsPiecePaid r c d text old next before after news (old.at + far)
piece_paid r c d text old next w f before after far news within there ends stack paid = record {
  boundary = IsCharBoundary-from_rest text old.at far within paid.boundary;
  past = omega (arith, ends, paid.past);
  reads = reads_of paid.reads;
  each = All-weaker (IsNew w c.memo d.memo old.stack.mode old.at (drop old.at text) far) (IsNote d text old.at (old.at + far))
      (λ x new. note_there c d w old.stack.mode old.at far text x within there new) news paid.each;
  unknown = All-weaker (IsNew w c.memo d.memo old.stack.mode old.at (drop old.at text) far) (λ x. ¬ IsKnown c.memo x.0 x.1.0 x.1.1) (λ x new. new.unknown) news paid.each;
  distinct = paid.distinct;
  cost = (paid.cost.0, (owed_of paid.cost.0 paid.cost.1.0, omega (arith, ends, paid.cost.1.1)));
}
  where
    reads_of : (far ≡ f.size) ⊎ ((k : ℕ) × ((k ≤ f.size) × IsCharBoundary (drop old.at text) k × ReadsTo (trees_in r old.stack.mode) (drop old.at text) k far))
        → (old.at + far ≡ next.at) ⊎ ((k : ℕ) × ((old.at ≤ k) × (k ≤ next.at) × IsCharBoundary text k × ReadsTo (trees_in r old.stack.mode) text k (old.at + far)))
    reads_of (inl same) = inl (omega (arith, same, ends))
    reads_of (inr (k, (le, here, reads))) =
        inr (old.at + k, (omega arith, omega (arith, le, ends), IsCharBoundary-from_rest text old.at k within here, reads_there (trees_in r old.stack.mode) text old.at k far reads))

    owed_of : (n : ℕ) → IsOwedBehind (trees_in r old.stack.mode) r.precedences (drop old.at text) f far n → IsOwed r text next (old.at + far) n
    owed_of n (inl none) = inl none
    owed_of n (inr (fault, past, (i, (slice, (size, longest))))) =
        let left : drop f.size (drop old.at text) ≡ drop next.at text = drop-drop f.size old.at text ∙ ap (λ (m : ℕ). drop m text) (sym ends) in
        let mode : old.stack.mode ≡ next.stack.mode = ap (λ (s : Stack). s.mode) (sym (stack fault)) in
        let same = subst (λ (t : List ℕ). IsLongest (trees_in r old.stack.mode) r.precedences t (Some (i, slice))) left longest in
        inr (omega (arith, past, ends), (i, (slice, (size, subst (λ (m : ℕ). IsLongest (trees_in r m) r.precedences (drop next.at text) (Some (i, slice))) mode same))))

-- ---- too large

merged_short : (before os : List (Option ℕ)) (ts : List Tree) → length (merged_behind before os ts) ≤ length ts
merged_short before [] ts = omega arith
merged_short before (o ∷ os) [] = omega arith
merged_short before (o ∷ os) (t ∷ ts) = omega (arith, merged_short (before ++ o ∷ []) os ts)

-- the index of the rule is below the number of rules
rule_within : (r : ModeRules) (mode : ℕ) (text : List ℕ) (i size reach : ℕ) → IsFrontBy (trees_in r mode) r.precedences text (Some i) size reach → i < length r.trees
rule_within r mode text i size reach front =
    let found = front text refl in
    let tree = found.1.1.0.2.0.0 in
    omega (arith, slice_get_within (trees_in r mode) i tree.0 tree.1.0, merged_short [] (kinds_of (mode_rules r mode) r.kinds) r.trees)

pub too_large : (r : ModeRules) (mode at : ℕ) (text rest : List ℕ) (rule : Option ℕ) (size reach : ℕ) → rest ≡ drop at text → IsFrontBy (trees_in r mode) r.precedences rest rule size reach
    → reach ≤ length rest + 1 → (4294967296 ≤ reach) ⊎ IsSomeAnd rule (λ i. 4294967295 ≤ i) → (4294967295 ≤ length text) ⊎ (4294967295 ≤ length r.trees)
too_large r mode at text rest rule size reach is front within (inl far) = inl (omega (arith, within, far, ap length is, length-drop at text))
too_large r mode at text rest None size reach is front within (inr none) = absurd none
too_large r mode at text rest (Some i) size reach is front within (inr high) = inr (omega (arith, high, rule_within r mode rest i size reach front))
