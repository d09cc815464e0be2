-- What follows from specs/UpTo.antt, for its users.
use Rattle.std.proofs.Common.{◌≡◌, ℕ, ◌<◌, ◌≤◌, ◌⊎◌, inl, inr, List, [], ◌++◌, length, append_assoc, sym, ap, ◌∙◌, arith, ◌∷◌, true, All}
use Rattle.std.specs.Str.{chars, IsUtf8}
use Rattle.std.proofs.Math.Utf8.{scalar, scalars}
use Rattle.std.proofs.lemmas.Str.{scalars-chars}
use Rattle.std.proofs.lemmas.Bool.{cases_lt, and_parts}
use Rattle.std.proofs.lemmas.List.Elements.{All-nil, All-cons}
use Rattle.lalrpop_hir.specs.Runs.{IsScalar}
use Rattle.lalrpop_hir.proofs.Canons.{IsScalar-from_char}
use Rattle.std.proofs.lemmas.List.{append-nil, append_cancel_left}
use Rattle.lalrpop_re.specs.UpTo.{IsFromTo}
use Rattle.lalrpop_re.proofs.Searching.{split-behind}

-- no word goes on behind a shorter one: the longest match is the first end
pub from_to_is_prefix_free : (start end v w x : List ℕ) → IsFromTo start end v → IsFromTo start end w → w ≡ v ++ x → x ≡ []
from_to_is_prefix_free start end v w x (u, (e, _)) (t, (f, only)) g =
    let whole : start ++ (t ++ end) ≡ start ++ ((u ++ end) ++ x) = sym (append_assoc start t end) ∙ (sym f ∙ (g ∙ (ap (λ y. y ++ x) (e ∙ append_assoc start u end) ∙ append_assoc start (u ++ end) x))) in
    only u x (append_cancel_left start (t ++ end) ((u ++ end) ++ x) whole)

-- at most one word begins a text
pub one_from_to : (start end v w s t : List ℕ) → IsFromTo start end v → IsFromTo start end w → v ++ s ≡ w ++ t → v ≡ w
one_from_to start end v w s t p q e = by_length (cases_lt (length v) (length w))
  where
    by_length : (length v < length w) ⊎ (length w ≤ length v) → v ≡ w
    by_length (inl h) =
        let r = split-behind v w t s (sym e) (omega arith) in
        let none = from_to_is_prefix_free start end v w r.0 p q r.1.0 in
        sym (r.1.0 ∙ (ap (λ x. v ++ x) none ∙ append-nil v))
    by_length (inr h) =
        let r = split-behind w v s t e h in
        let none = from_to_is_prefix_free start end w v r.0 q p r.1.0 in
        r.1.0 ∙ (ap (λ x. w ++ x) none ∙ append-nil w)

are_characters : (cs : List ℕ) → scalars cs ≡ true → All IsScalar cs
are_characters [] h = All-nil IsScalar
are_characters (c ∷ cs) h =
    let parts = and_parts (scalar c) (scalars cs) h in
    All-cons IsScalar c cs (IsScalar-from_char c parts.0) (are_characters cs parts.1)

-- the word of a text has only characters, as `from_to` asks of a word
pub characters_of_text : (text : List ℕ) → IsUtf8 text → All IsScalar (chars text)
characters_of_text text utf8 = are_characters (chars text) (scalars-chars text utf8)
