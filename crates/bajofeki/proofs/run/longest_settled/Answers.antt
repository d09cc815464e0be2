use Rattle.std.proofs.Common.{◌≡◌, ℕ, ◌+◌, ◌-◌, ◌*◌, ◌≤◌, List, ◌++◌, length, take, drop, refl, sym, subst, ◌∙◌, arith, length-drop}
use Rattle.std.specs.Prelude.{Option}
use Rattle.std.specs.Option.{option_map}
use Rattle.std.specs.List.{All}
use Rattle.std.specs.Str.{chars, encode_utf8_all}
use Rattle.std.proofs.lemmas.Str.{IsCharBoundary-from_take}
use Rattle.bajofeki.specs.Internal.Reach.{IsSettledBy}
use Rattle.bajofeki.specs.Internal.Walking.{IsMet}
use Rattle.bajofeki.specs.Internal.Noted.{IsOver}
use Rattle.bajofeki.specs.Internal.Paying.{AreDistinct, AreUnknown, IsNew}
use Rattle.bajofeki.proofs.Walking.{met_behind, text_scalars}
use Rattle.bajofeki.proofs.Noting.{stand_cut, over_longest, last_up_to, over_settles, last_prefix, over_within, over_earliest, whole_sound}
use Rattle.bajofeki.proofs.Vain.{open_behind, run_paid, stand_size}
use Rattle.bajofeki.proofs.run.longest_settled.Goals as goal

pub range_from-requires : goal.range_from-requires
range_from-requires c = λ some.
    let stand = c.match_at-longest.ensures.stand in
    IsCharBoundary-from_take c.args.text.now c.run_along-run.result.end c.utf8.text stand.within stand.seen

pub note_all-requires-clause-met : goal.note_all-requires-clause-met
note_all-requires-clause-met c =
    let stand = c.match_at-longest.ensures.stand in
    subst (IsMet c.args.walker.now) (sym stand.reached) (met_behind c.args.walker.now (chars (take c.run_along-run.result.end c.args.text.now)) (text_scalars (take c.run_along-run.result.end c.args.text.now) stand.seen))

pub returns-clause-answer : goal.returns-clause-answer
returns-clause-answer c = λ d ts ps walks h.
    let w = c.args.walker.now in
    let text = c.args.text.now in
    let run = c.run_along-run.result in
    let stand = c.match_at-longest.ensures.stand in
    let best = option_map (λ m. (m.0, m.1.now)) c.match_at-longest.result in
    let cut = stand_cut w text run.end run.place best stand in
    let over = c.run_along-run.ensures.found.0 in
    over_longest w d ts ps walks h text (drop run.end text) run.end over.0 best cut
    (subst (λ (p : ℕ). IsOver w p (chars (drop run.end text)) over.0) stand.reached over.1.1)
    (last_up_to w d ts ps walks h text (drop run.end text) run.end run.place best cut stand.reached stand.last)

pub returns-clause-settled : goal.returns-clause-settled
returns-clause-settled c = λ d ts ps walks h.
    let w = c.args.walker.now in
    let text = c.args.text.now in
    let run = c.run_along-run.result in
    let stand = c.match_at-longest.ensures.stand in
    let cut = stand_cut w text run.end run.place (option_map (λ m. (m.0, m.1.now)) c.match_at-longest.result) stand in
    let over = c.run_along-run.ensures.found.0 in
    subst (IsSettledBy ts text) (sym over.1.0)
    (over_settles w d ts ps walks h text (drop run.end text) (chars (drop run.end text)) run.end over.0 c.utf8.text cut refl
    (subst (λ (p : ℕ). IsOver w p (chars (drop run.end text)) over.0) stand.reached over.1.1))

pub returns-clause-stand : goal.returns-clause-stand
returns-clause-stand c = c.match_at-longest.ensures.stand

pub returns-clause-prefix : goal.returns-clause-prefix
returns-clause-prefix c =
    let w = c.args.walker.now in
    let text = c.args.text.now in
    let run = c.run_along-run.result in
    let stand = c.match_at-longest.ensures.stand in
    let cut = stand_cut w text run.end run.place (option_map (λ m. (m.0, m.1.now)) c.match_at-longest.result) stand in
    last_prefix w text (drop run.end text) run.end run.place c.match_at-longest.result cut stand.last

pub returns-clause-within : goal.returns-clause-within
returns-clause-within c =
    let w = c.args.walker.now in
    let text = c.args.text.now in
    let run = c.run_along-run.result in
    let stand = c.match_at-longest.ensures.stand in
    let over = c.run_along-run.ensures.found.0 in
    omega (arith, over.1.0, over_within w run.place over.0 (drop run.end text) (chars (drop run.end text)) stand.rest refl over.1.1, length-drop run.end text, stand.within)

pub returns-clause-earliest : goal.returns-clause-earliest
returns-clause-earliest c = λ past d ts ps walks trim h.
    let w = c.args.walker.now in
    let text = c.args.text.now in
    let run = c.run_along-run.result in
    let stand = c.match_at-longest.ensures.stand in
    let cut = stand_cut w text run.end run.place (option_map (λ m. (m.0, m.1.now)) c.match_at-longest.result) stand in
    let over = c.run_along-run.ensures.found.0 in
    over_earliest w d ts ps walks h text (drop run.end text) run.end over.0 trim c.utf8.text cut
    (subst (λ (p : ℕ). IsOver w p (chars (drop run.end text)) over.0) stand.reached over.1.1)
    (omega (arith, past, over.1.0, length-drop run.end text, stand.within))

pub returns-clause-sound : goal.returns-clause-sound
returns-clause-sound c = λ begin i all sum within is sound.
    let run = c.run_along-run.result in
    let there = c.range_from.ensures.value in
    whole_sound c.args.walker.now c.args.memo.now c.note_all.new.memo c.args.mode c.args.at run.end c.args.text.now c.match_at-longest.ensures.stand.within
    (λ begin2 i2 all2 sum2 within2 is2 sound2. c.note_all.ensures.sound begin2 i2 all2 sum2 within2 (is2 ∙ sym there) sound2) begin i all sum within is sound

pub returns-clause-all_open : goal.returns-clause-all_open
returns-clause-all_open c = λ n above below within utf8.
    let w = c.args.walker.now in
    let text = c.args.text.now in
    let run = c.run_along-run.result in
    let stand = c.match_at-longest.ensures.stand in
    let best : Option (ℕ × List ℕ) = option_map (λ m. (m.0, m.1.now)) c.match_at-longest.result in
    let over = c.run_along-run.ensures.found.0 in
    open_behind w text run.end n over.0 (stand_cut w text run.end run.place best stand)
    (subst (λ (p : ℕ). IsOver w p (chars (drop run.end text)) over.0) stand.reached over.1.1)
    (omega (arith, above, stand_size w text run.end run.place best stand)) (omega (arith, below, over.1.0)) within utf8

pub returns-clause-paid : goal.returns-clause-paid
returns-clause-paid c = λ whole.
    let w = c.args.walker.now in
    let text = c.args.text.now in
    let run = c.run_along-run.result in
    let best : Option (ℕ × List ℕ) = option_map (λ m. (m.0, m.1.now)) c.match_at-longest.result in
    let vain = c.run_along-run.ensures.found.1 in
    let old = c.args.memo.now in
    let new = c.note_all.new.memo in
    run_paid w old new c.args.mode c.args.at text run.end run.place run.read c.args.steps.now c.run_along-run.new.steps c.note_all.new.steps best vain.0
    c.match_at-longest.ensures.stand vain.1 c.run_along-run.ensures.found.2 c.note_all.ensures.cost c.note_all.ensures.few
    (subst (λ (t : List ℕ). 64 ≤ run.read - run.end → (more : List ℕ) → chars t ≡ vain.0 ++ more → AreUnknown w old c.args.mode (c.args.at + run.end) run.place vain.0
    → length (encode_utf8_all vain.0) ≤ run.read - run.end → run.read - run.end ≤ length (encode_utf8_all vain.0) + 4 → run.read - run.end ≤ length t
    → (news : List (ℕ × (ℕ × ℕ))) × (All (IsNew w old new c.args.mode (c.args.at + run.end) t (length (encode_utf8_all vain.0))) news
    × AreDistinct news × (run.read - run.end ≤ 64 * length news + 67))) c.range_from.ensures.value
    (λ big more. c.note_all.ensures.news big whole vain.0 more))
