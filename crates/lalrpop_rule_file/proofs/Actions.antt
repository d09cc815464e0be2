-- Actions, one after another.
use Rattle.std.proofs.Common.{◌≡◌, ℕ, ◌<◌, ◌⊎◌, inl, inr, zero, suc, Bool, false, List, [], ◌∷◌, ◌++◌, length, take, map, refl, sym, ap, subst, ◌∙◌, arith, Some}
use Rattle.std.specs.Prelude.{slice_get}
use Rattle.std.proofs.lemmas.List.{take_at, take-append-le}
use Rattle.lalrpop_rule_file.specs.Words.{IsSpan, begins, is_blank, is_of_name}
use Rattle.lalrpop_rule_file.specs.RuleLine as line
use Rattle.lalrpop_rule_file.specs.RuleLine.{Head, Part, Named, Reads, acting, bare, nothing, word_of}
use Rattle.lalrpop_rule_file.specs.Internal.Values.{ArePlaced, IsPlaced, entry_of, head_with, written_of}
use Rattle.lalrpop_rule_file.specs.declared.written.Entry.{Entry}
use Rattle.lalrpop_rule_file.specs.declared.written.Entry.TheVariants.{Mode, Push}
use Rattle.lalrpop_rule_file.specs.declared.written.WrittenAction.{WrittenAction}
use Rattle.lalrpop_rule_file.specs.declared.written.WrittenAction.TheVariants.{Enter, Pop}
use Rattle.lalrpop_rule_file.proofs.Lexemes.{joined}

-- a place that is read up to from further on
pub placed_behind : {p q : Part} {text mid : List ℕ} (head : Head) (a : WrittenAction) → Reads p text q mid → IsPlaced q mid head a → IsPlaced p text head a
placed_behind head (Enter entry mode here) reads placed = (joined reads placed.0, placed.1, placed.2)
placed_behind head Pop reads placed = tt

pub map_more : {A B : Type 0} (f : A → B) (xs : List A) (x : A) → map f (xs ++ x ∷ []) ≡ map f xs ++ f x ∷ []
map_more f [] x = refl
map_more f (y ∷ ys) x = ap (λ z. f y ∷ z) (map_more f ys x)

-- one action more
pub one_more : (name : List ℕ) (skipped : Bool) (actions : List WrittenAction) (a : WrittenAction) → acting (head_with name skipped actions) (written_of a) ≡ head_with name skipped (actions ++ a ∷ [])
one_more name skipped actions a = ap (λ x. record { name = name; skipped = skipped; actions = x }) (sym (map_more written_of actions a))

-- an element of a list with one more is one of the list, or the new one
pub old_or_new : {A : Type 0} → (xs : List A) (x y : A) (i : ℕ) → slice_get (xs ++ x ∷ []) i ≡ Some y → ((i < length xs) × (slice_get xs i ≡ Some y)) ⊎ ((i ≡ length xs) × (x ≡ y))
old_or_new [] x y zero e = inr (refl, cc)
old_or_new [] x y (suc i) e = absurd (cc)
old_or_new (z ∷ xs) x y zero e = inl (omega arith, e)
old_or_new (z ∷ xs) x y (suc i) e = next (old_or_new xs x y i e)
  where
    next : ((i < length xs) × (slice_get xs i ≡ Some y)) ⊎ ((i ≡ length xs) × (x ≡ y)) → ((suc i < length (z ∷ xs)) × (slice_get (z ∷ xs) (suc i) ≡ Some y)) ⊎ ((suc i ≡ length (z ∷ xs)) × (x ≡ y))
    next (inl h) = inl (omega (arith, h.0), h.1)
    next (inr h) = inr (omega (arith, h.0), h.1)

pub placed_more : (from : Part) (text name : List ℕ) (skipped : Bool) (actions : List WrittenAction) (a : WrittenAction) → ArePlaced from text name skipped actions → IsPlaced from text (head_with name skipped actions) a
    → ArePlaced from text name skipped (actions ++ a ∷ [])
placed_more from text name skipped actions a are is i b e = by (old_or_new actions a b i e)
  where
    by : ((i < length actions) × (slice_get actions i ≡ Some b)) ⊎ ((i ≡ length actions) × (a ≡ b)) → IsPlaced from text (head_with name skipped (take i (actions ++ a ∷ []))) b
    by (inl h) =
        let same : take i (actions ++ a ∷ []) ≡ take i actions = take-append-le i actions (a ∷ []) (omega (arith, h.0)) in
        rw same (are i b h.1)
    by (inr h) =
        let same : take i (actions ++ a ∷ []) ≡ actions = take_at actions (a ∷ []) i (sym h.0) in
        rw same (subst (λ (x : WrittenAction). IsPlaced from text (head_with name skipped actions) x) h.1 is)

-- after a name and its mark these actions were read, up to the rest
pub record HasActed (text rest : List ℕ) (actions : List WrittenAction) : Type 0 where
  pub reads : (name : List ℕ) (skipped : Bool) → Reads (Named (head_with name skipped [])) text (Named (head_with name skipped actions)) rest
  pub placed : (name : List ℕ) (skipped : Bool) → ArePlaced (Named (head_with name skipped [])) text name skipped actions
  pub no_blank : begins is_blank rest ≡ false
  pub same : actions ≡ [] → rest ≡ text

pub acted_none : (text : List ℕ) → begins is_blank text ≡ false → HasActed text text []
acted_none text blank = record {
  reads = λ name skipped. nothing;
  placed = λ name skipped i a e. absurd (none i a e);
  no_blank = blank;
  same = λ e. refl;
}
  where
    none : (i : ℕ) (a : WrittenAction) → slice_get [] i ≡ Some a → ⊥
    none i a e = absurd (cc)

pub acted_more : (text rest after : List ℕ) (actions more : List WrittenAction) (a : WrittenAction) → HasActed text rest actions → ((head : Head) → Reads (Named head) rest (Named (acting head (written_of a))) after)
    → ((head : Head) → IsPlaced (Named head) rest head a) → begins is_blank after ≡ false → more ≡ actions ++ a ∷ [] → HasActed text after more
acted_more text rest after actions more a h acts placed blank is = rw is (record {
  reads = λ name skipped.
      let own : Reads (Named (head_with name skipped actions)) rest (Named (head_with name skipped (actions ++ a ∷ []))) after =
      subst (λ (x : Head). Reads (Named (head_with name skipped actions)) rest (Named x) after) (one_more name skipped actions a) (acts (head_with name skipped actions)) in
      joined (h.reads name skipped) own;
  placed = λ name skipped. placed_more (Named (head_with name skipped [])) text name skipped actions a (h.placed name skipped)
      (placed_behind (head_with name skipped actions) a (h.reads name skipped) (placed (head_with name skipped actions)));
  no_blank = blank;
  same = λ e. absurd (some actions e);
})
  where
    some : (xs : List WrittenAction) → xs ++ a ∷ [] ≡ [] → ⊥
    some [] e = absurd (cc)
    some (x ∷ xs) e = absurd (cc)

-- no word stands there that either of the code's is
pub no_entry : (text behind : List ℕ) → ((entry : Entry) → ¬ IsSpan is_of_name text (word_of (entry_of entry)) behind) → (entry : line.Entry) → ¬ IsSpan is_of_name text (word_of entry) behind
no_entry text behind none line.Mode = none Mode
no_entry text behind none line.Push = none Push

-- a word that doesn't follow a name doesn't stand before the rest, where neither `skip` nor actions are read
pub no_word_behind : (word own : List ℕ) (skipped : Bool) (actions : List WrittenAction) (text behind_mark rest : List ℕ) → (skipped ≡ false → (behind : List ℕ) → ¬ IsSpan is_of_name text word behind)
    → (skipped ≡ false → behind_mark ≡ text) → (actions ≡ [] → rest ≡ behind_mark) → (name : List ℕ) → head_with own skipped actions ≡ bare name → (behind : List ℕ) → ¬ IsSpan is_of_name rest word behind
no_word_behind word own skipped [] text behind_mark rest none unmarked same name is behind span =
    let plain : skipped ≡ false = ap (λ (h : Head). h.skipped) is in
    none plain behind (subst (λ (x : List ℕ). IsSpan is_of_name x word behind) (same refl ∙ unmarked plain) span)
no_word_behind word own skipped (a ∷ actions) text behind_mark rest none unmarked same name is behind span =
    let n : suc (length (map written_of actions)) ≡ 0 = ap (λ (h : Head). length h.actions) is in absurd (omega (arith, n))

pub all_placed_behind : {p q : Part} {text mid name : List ℕ} {skipped : Bool} (actions : List WrittenAction) → Reads p text q mid → ArePlaced q mid name skipped actions → ArePlaced p text name skipped actions
all_placed_behind {name = name} {skipped = skipped} actions reads placed i a e = placed_behind (head_with name skipped (take i actions)) a reads (placed i a e)
