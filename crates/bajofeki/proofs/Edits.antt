-- A stretch of a text is replaced: which pieces of the text before are pieces of the new one.
use Rattle.std.proofs.Common.{◌≡◌, ℕ, ◌+◌, ◌-◌, ◌≤◌, List, ◌++◌, length, take, drop, arith, sym, ap, subst, ◌∙◌, append_assoc, length-append, length-take, length-drop}
use Rattle.std.proofs.lemmas.List.{take_at, drop_at, drop-drop}
use Rattle.bajofeki_rules.specs.Stack.{Stack}
use Rattle.lalrpop_rules.specs.Modes.{ModeRules}
use Rattle.bajofeki.specs.Internal.Reach.{AreAlike}
use Rattle.bajofeki.specs.Internal.Kept.{KeptUpTo, AreWithin}
use Rattle.bajofeki.specs.Lexed.{replaced}
use Rattle.bajofeki.specs.Internal.Cutting.{IsEdited, moved_place}
use Rattle.bajofeki.specs.declared.kept.Kept.{Kept}
use Rattle.bajofeki.proofs.KeptLaws.{kept_front, kept_behind, kept_forward}

-- in front of the stretch the texts are alike
pub alike_before : (text : List ℕ) (from to : ℕ) (new : List ℕ) → from ≤ length text → AreAlike from text (replaced text from to new)
alike_before text from to new le =
    sym (take_at (take from text) (new ++ drop to text) from (omega (arith, length-take from text)))

-- and after it they have the same rests
pub same_behind : (text : List ℕ) (from to : ℕ) (new : List ℕ) (k : ℕ) → from ≤ length text
    → drop (from + length new + k) (replaced text from to new) ≡ drop (to + k) text
same_behind text from to new k le =
    let size : length (take from text ++ new) ≡ from + length new = omega (arith, length-append (take from text) new, length-take from text) in
    let split : replaced text from to new ≡ (take from text ++ new) ++ drop to text = sym (append_assoc (take from text) new (drop to text)) in
    let there : drop (from + length new) (replaced text from to new) ≡ drop to text =
    ap (drop (from + length new)) split ∙ drop_at (take from text ++ new) (drop to text) (from + length new) size in
    sym (drop-drop k (from + length new) (replaced text from to new)) ∙ ap (drop k) there ∙ drop-drop k to text

-- how long the new text is
pub edited_length : (before text : List ℕ) (from to size : ℕ) → IsEdited before text from to size → length text ≡ from + size + (length before - to)
edited_length before text from to size (order, within, (new, (count, is))) =
    omega (
      arith,
      order,
      within,
      count,
      ap length is,
      length-append (take from before) (new ++ drop to before),
      length-append new (drop to before),
      length-take from before,
      length-drop to before,
    )

-- in front of it the texts are alike
pub edited_alike : (before text : List ℕ) (from to size : ℕ) → IsEdited before text from to size → AreAlike from before text
edited_alike before text from to size (order, within, (new, (count, is))) =
    alike_before before from to new (omega (arith, order, within)) ∙ ap (take from) (sym is)

-- after it they have the same rests
pub edited_rest : (before text : List ℕ) (from to size at : ℕ) → IsEdited before text from to size → to ≤ at
    → drop at before ≡ drop (moved_place from to size at) text
edited_rest before text from to size at (order, within, (new, (count, is))) behind =
    let here : at ≡ to + (at - to) = omega (arith, behind) in
    let there : from + length new + (at - to) ≡ moved_place from to size at = omega (arith, count) in
    ap (λ (n : ℕ). drop n before) here ∙ sym (same_behind before from to new (at - to) (omega (arith, order, within)))
    ∙ ap (λ (n : ℕ). drop n (replaced before from to new)) there ∙ ap (drop (moved_place from to size at)) (sym is)

-- pieces that depend on what is in front of it alone are pieces of the new text
pub edited_front : (r : ModeRules) (before text : List ℕ) (from to size : ℕ) (s : Stack) (ks : List Kept) (at : ℕ) (t : Stack) → IsEdited before text from to size
    → AreWithin from 0 ks → KeptUpTo r before 0 s ks at t → KeptUpTo r text 0 s ks at t
edited_front r before text from to size s ks at t edited within are =
    kept_front r before text 0 s ks at t from (edited_alike before text from to size edited) within are

-- and so are those after it, shifted
pub edited_behind : (r : ModeRules) (before text : List ℕ) (from to size at : ℕ) (s : Stack) (ks : List Kept) (end : ℕ) (t : Stack)
    → IsEdited before text from to size → to ≤ at → end ≡ length before → KeptUpTo r before at s ks end t
    → KeptUpTo r text (moved_place from to size at) s ks (length text) t
edited_behind r before text from to size at s ks end t edited behind last are =
    let n : ℕ = length before - at in
    let forward : at ≤ end = kept_forward r before at s ks end t are in
    let far : end ≡ at + n = omega (arith, forward, last) in
    let far2 : moved_place from to size at + n ≡ length text =
    omega (arith, edited_length before text from to size edited, behind, forward, last) in
    subst (λ (x : ℕ). KeptUpTo r text (moved_place from to size at) s ks x t) far2
    (kept_behind r before text at (moved_place from to size at) s ks n t (edited_rest before text from to size at edited behind)
    (subst (λ (x : ℕ). KeptUpTo r before at s ks x t) far are))
