-- A stretch of a text is replaced, and put back.
use Rattle.std.proofs.Common.{◌≡◌, ℕ, ◌+◌, List, ◌++◌, length, take, drop, arith, refl, sym, ap, subst, ◌∙◌, append_assoc, length-append}
use Rattle.std.specs.Str.{IsUtf8, IsCharBoundary}
use Rattle.std.specs.List.{slice_range, replace_range}
use Rattle.std.proofs.lemmas.Str.{IsUtf8-drop, IsUtf8-append, IsCharBoundary-at_seam}
use Rattle.std.proofs.lemmas.List.{take_at, drop_at, take-append-drop, length-take-le}
use Rattle.std.proofs.lemmas.List.Folds.{drop_split}
use Rattle.bajofeki.specs.Lexed.{IsRange, replaced}
use Rattle.bajofeki.specs.Internal.Cutting.{IsEdited}

-- std's word for it says the same
pub replaced_is : (before new : List ℕ) (from to : ℕ) → replace_range before from to new ≡ replaced before from to new
replaced_is before new from to = append_assoc (take from before) new (drop to before)

pub is_edited : (before text new : List ℕ) (from to : ℕ) → IsRange before from to → text ≡ replace_range before from to new → IsEdited before text from to (length new)
is_edited before text new from to r e = (r.order, r.ends.0, (new, (refl, e ∙ replaced_is before new from to)))

-- a character begins where the new bytes do, or the text ends there
pub boundary_before : (before text new : List ℕ) (from to : ℕ) → IsRange before from to → IsUtf8 before → IsUtf8 new → text ≡ replace_range before from to new
    → IsCharBoundary text from
boundary_before before text new from to r u v e =
    let size : length (take from before) ≡ from = length-take-le from before r.begins.0 in
    subst (IsCharBoundary text) size
    (IsCharBoundary-at_seam text (take from before) (new ++ drop to before) (e ∙ replaced_is before new from to)
    (IsUtf8-append new (drop to before) v (IsUtf8-drop before to u r.ends)))

-- and after them
pub boundary_behind : (before text new : List ℕ) (from to : ℕ) → IsRange before from to → IsUtf8 before → text ≡ replace_range before from to new
    → IsCharBoundary text (from + length new)
boundary_behind before text new from to r u e =
    let size : length (take from before ++ new) ≡ from + length new = omega (arith, length-append (take from before) new, length-take-le from before r.begins.0) in
    subst (IsCharBoundary text) size
    (IsCharBoundary-at_seam text (take from before ++ new) (drop to before) e (IsUtf8-drop before to u r.ends))

-- what is put back is what was there
pub back_again : (before text new gone : List ℕ) (from to : ℕ) → IsRange before from to → text ≡ replace_range before from to new → gone ≡ slice_range before from to
    → replace_range text from (from + length new) gone ≡ before
back_again before text new gone from to r e g =
    let size : length (take from before) ≡ from = length-take-le from before r.begins.0 in
    let longer : length (take from before ++ new) ≡ from + length new = omega (arith, length-append (take from before) new, size) in
    let front : take from text ≡ take from before =
    ap (take from) (e ∙ replaced_is before new from to) ∙ take_at (take from before) (new ++ drop to before) from size in
    let rest : drop (from + length new) text ≡ drop to before =
    ap (drop (from + length new)) e ∙ drop_at (take from before ++ new) (drop to before) (from + length new) longer in
    let split : gone ++ drop to before ≡ drop from before =
    ap (λ (p : List ℕ). p ++ drop to before) g ∙ sym (drop_split before from to r.order) in
    ap (λ (p : List ℕ). (p ++ gone) ++ drop (from + length new) text) front
    ∙ ap (λ (p : List ℕ). (take from before ++ gone) ++ p) rest
    ∙ append_assoc (take from before) gone (drop to before) ∙ ap (λ (p : List ℕ). take from before ++ p) split ∙ take-append-drop from before
