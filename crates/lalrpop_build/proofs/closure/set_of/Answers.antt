use Rattle.std.proofs.Common.{◌≡◌, ◌∙◌, ◌∷◌, [], List, ap₂, refl}
use Rattle.std.specs.List.{AllZip}
use Rattle.lalrpop_dfa.specs.LiveItems.{live_of}
use Rattle.lalrpop_dfa.specs.Split.{still_live}
use Rattle.lalrpop_build.proofs.LiveSets.{split_of}
use Rattle.lalrpop_build.proofs.closure.set_of.Goals as goal

-- two lists with equal items at each place are equal
alike : {A : Type 0} → (xs ys : List A) → AllZip (λ x y. y ≡ x) xs ys → ys ≡ xs
alike [] [] h = refl
alike [] (y ∷ ys) h = absurd h
alike (x ∷ xs) [] h = absurd h
alike (x ∷ xs) (y ∷ ys) h = ap₂ (λ z zs. z ∷ zs) h.0 (alike xs ys h.1)

pub new-requires : goal.new-requires
new-requires c =
    let live : c.in_ok-live.live.items ≡ live_of c.args.items.now = alike c.live_among.new.live.items c.in_ok-live.live.items c.in_ok-live.ensures.cases.0 ∙ c.in_ok-live_among.ensures in
    let live_patterns : c.in_ok-live_patterns.live_patterns.items ≡ still_live c.args.items.now c.args.live_patterns.now = alike c.still_live_among.new.still.items c.in_ok-live_patterns.live_patterns.items c.in_ok-live_patterns.ensures.cases.0 ∙ c.in_ok-still_live_among.ensures in
    record { split = rw (live_patterns, live) (split_of c.args.patterns c.args.items.now c.args.live_patterns.now c.requires.ascending c.requires.within c.requires.live_patterns) }
