use Rattle.std.proofs.Common.{◌≡◌, ℕ, ◌+◌, ◌<◌, Bool, true, false, cond, not, List, [], ◌∷◌, ◌++◌, map, length, take, get_or, refl, sym, ap, ◌∙◌, Bor}
use Rattle.std.specs.Prelude.{string_bytes, filter}
use Rattle.std.proofs.lemmas.List.{take_more, map-append, append-nil}
use Rattle.std.proofs.lemmas.List.Elements.{filter-append}
use Rattle.lexdfa_lib.specs.Options.{is_option}
use Rattle.lexdfa_lib.proofs.options.part.Goals as goal
use Rattle.lexdfa_lib.proofs.options.part.Goals.{then-is_option+in_ok-push, else-is_option+in_ok-push-2}

-- one more element
more : {X : Type 0} (p : List ℕ → Bool) (f : X → List ℕ) (xs : List X) (i : ℕ) (x : X) (w : List ℕ) → i < length xs → x ≡ get_or xs i x → w ≡ f x → filter p (map f (take (i + 1) xs)) ≡ filter p (map f (take i xs)) ++ cond (p w) (w ∷ []) []
more p f xs i x w l e h =
    ap (λ ys. filter p (map f ys)) (take_more xs i x l) ∙ ap (filter p) (map-append f (take i xs) (get_or xs i x ∷ []) ∙ ap (λ v. map f (take i xs) ++ v ∷ []) (ap f (sym e) ∙ sym h)) ∙ filter-append p (map f (take i xs)) (w ∷ [])

-- it is kept, or left out
kept : {X Y : Type 0} (p : List ℕ → Bool) (f : X → List ℕ) (g : Y → List ℕ) (xs : List X) (i : ℕ) (x : X) (w : List ℕ) (ys zs : List Y) (y : Y) → i < length xs → x ≡ get_or xs i x → w ≡ f x → p w ≡ true
    → map g ys ≡ filter p (map f (take i xs)) → zs ≡ ys ++ y ∷ [] → g y ≡ w → map g zs ≡ filter p (map f (take (i + 1) xs))
kept p f g xs i x w ys zs y l e h t before is same =
    ap (map g) is ∙ map-append g ys (y ∷ []) ∙ ap (λ v. map g ys ++ v ∷ []) same ∙ ap (λ u. u ++ w ∷ []) before ∙ ap (λ b. filter p (map f (take i xs)) ++ cond b (w ∷ []) []) (sym t) ∙ sym (more p f xs i x w l e h)

left_out : {X : Type 0} (p : List ℕ → Bool) (f : X → List ℕ) (xs : List X) (i : ℕ) (x : X) (w : List ℕ) (ys : List (List ℕ)) → i < length xs → x ≡ get_or xs i x → w ≡ f x → p w ≡ false
    → ys ≡ filter p (map f (take i xs)) → ys ≡ filter p (map f (take (i + 1) xs))
left_out p f xs i x w ys l e h t before =
    before ∙ sym (append-nil (filter p (map f (take i xs)))) ∙ ap (λ b. filter p (map f (take i xs)) ++ cond b (w ∷ []) []) (sym t) ∙ sym (more p f xs i x w l e h)

abbrev text : Bor (List ℕ) → List ℕ
text r = r.now

abbrev is_name : List ℕ → Bool
is_name w = not (is_option w)

pub loop-word-preserved : goal.loop-word-preserved
loop-word-preserved c =
    let xs = c.around_end.result.0.now in
    let i = c.loop-word.word-index in
    let x = c.word-item.result in
    let w = c.as_str-word.result.now in
    elim c.if-is_option.branch [
      | then-is_option+in_ok-push v ↦ let t : is_option w ≡ true = sym c.is_option.ensures ∙ v.if-is_option.true in record {
        options = kept is_option string_bytes text xs i x w _ _ c.as_str-word.result c.loop-word-test.true c.word-item.is c.as_str-word.ensures.value t c.loop-word.invariant.options (ap (λ u. u.items) v.options-is ∙ v.in_ok-push.ensures.items) refl;
        names = ap (λ u. map text u.items) v.names-is ∙ left_out is_name string_bytes xs i x w _ c.loop-word-test.true c.word-item.is c.as_str-word.ensures.value (ap not t) c.loop-word.invariant.names;
      }
      | else-is_option+in_ok-push-2 v ↦ let t : is_option w ≡ false = sym c.is_option.ensures ∙ v.if-is_option.false in record {
        options = ap (λ u. map text u.items) v.options-is ∙ left_out is_option string_bytes xs i x w _ c.loop-word-test.true c.word-item.is c.as_str-word.ensures.value t c.loop-word.invariant.options;
        names = kept is_name string_bytes text xs i x w _ _ c.as_str-word.result c.loop-word-test.true c.word-item.is c.as_str-word.ensures.value (ap not t) c.loop-word.invariant.names (ap (λ u. u.items) v.names-is ∙ v.in_ok-push-2.ensures.items) refl;
      }
    ]
