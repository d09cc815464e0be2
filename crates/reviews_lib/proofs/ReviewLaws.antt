-- What is told mode by mode.
use Rattle.std.proofs.Common.{◌≡◌, ℕ, suc, ◌+◌, ◌<◌, List, [], ◌∷◌, ◌++◌, length, map, take, get_or, sym, ap, ◌∙◌, append_assoc, arith}
use Rattle.std.specs.Prelude.{Option}
use Rattle.std.proofs.lemmas.List.{append-nil, take_more, map-append, length-map, length-take-le}
use Rattle.reports_lib.specs.PieceLines.{mode_named}
use Rattle.reviews_lib.specs.ReviewLines.{by_mode}

-- one mode more
modes_more : {X : Type 0} (tell : Option (List ℕ) → X → List ℕ) (modes : List (List ℕ)) (m : ℕ) (xs : List X) (x : X)
    → by_mode tell modes m (xs ++ x ∷ []) ≡ by_mode tell modes m xs ++ tell (mode_named modes (m + length xs)) x
modes_more tell modes m [] x =
    let here : m ≡ m + 0 = omega arith in
    append-nil (tell (mode_named modes m) x) ∙ ap (λ (n : ℕ). tell (mode_named modes n) x) here
modes_more tell modes m (y ∷ xs) x =
    let first = tell (mode_named modes m) y in
    let there : (m + 1) + length xs ≡ m + suc (length xs) = omega arith in
    ap (λ (l : List ℕ). first ++ l) (modes_more tell modes (m + 1) xs x)
    ∙ sym (append_assoc first (by_mode tell modes (m + 1) xs) (tell (mode_named modes ((m + 1) + length xs)) x))
    ∙ ap (λ (n : ℕ). (first ++ by_mode tell modes (m + 1) xs) ++ tell (mode_named modes n) x) there

mode_pushed : {X : Type 0} (tell : Option (List ℕ) → X → List ℕ) (modes : List (List ℕ)) (i : ℕ) (xs : List X) (x : X) (before old new : List ℕ) → length xs ≡ i
    → old ≡ before ++ by_mode tell modes 0 xs → new ≡ old ++ tell (mode_named modes i) x → new ≡ before ++ by_mode tell modes 0 (xs ++ x ∷ [])
mode_pushed tell modes i xs x before old new count are e =
    let here : i ≡ 0 + length xs = omega (arith, count) in
    e ∙ ap (λ (l : List ℕ). l ++ tell (mode_named modes i) x) are
    ∙ append_assoc before (by_mode tell modes 0 xs) (tell (mode_named modes i) x)
    ∙ ap (λ (n : ℕ). before ++ (by_mode tell modes 0 xs ++ tell (mode_named modes n) x)) here
    ∙ ap (λ (l : List ℕ). before ++ l) (sym (modes_more tell modes 0 xs x))

-- of a list
pub mode_more : {X : Type 0} (tell : Option (List ℕ) → X → List ℕ) (modes : List (List ℕ)) (xs : List X) (i : ℕ) (d : X) (before old new : List ℕ) → i < length xs
    → old ≡ before ++ by_mode tell modes 0 (take i xs) → new ≡ old ++ tell (mode_named modes i) (get_or xs i d) → new ≡ before ++ by_mode tell modes 0 (take (i + 1) xs)
mode_more tell modes xs i d before old new within are e =
    let count : length (take i xs) ≡ i = length-take-le i xs (omega (arith, within)) in
    mode_pushed tell modes i (take i xs) (get_or xs i d) before old new count are e
    ∙ ap (λ ys. before ++ by_mode tell modes 0 ys) (sym (take_more xs i d within))

-- of what f gives of a list
pub mapped_mode_more : {V X : Type 0} (f : V → X) (tell : Option (List ℕ) → X → List ℕ) (modes : List (List ℕ)) (vs : List V) (i : ℕ) (d : V) (old new : List ℕ) → i < length vs
    → old ≡ by_mode tell modes 0 (map f (take i vs)) → new ≡ old ++ tell (mode_named modes i) (f (get_or vs i d)) → new ≡ by_mode tell modes 0 (map f (take (i + 1) vs))
mapped_mode_more f tell modes vs i d old new within are e =
    let count : length (map f (take i vs)) ≡ i = length-map (take i vs) f ∙ length-take-le i vs (omega (arith, within)) in
    mode_pushed tell modes i (map f (take i vs)) (f (get_or vs i d)) [] old new count are e
    ∙ ap (by_mode tell modes 0) (sym (map-append f (take i vs) (get_or vs i d ∷ [])) ∙ ap (map f) (sym (take_more vs i d within)))
