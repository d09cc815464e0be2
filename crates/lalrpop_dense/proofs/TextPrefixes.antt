-- Prefixes of a text, in bytes and in characters.
use Rattle.std.proofs.Common.{◌≡◌, ℕ, ◌≤◌, Bool, true, false, List, [], ◌∷◌, ◌++◌, length, refl, sym, ap, ◌∙◌, arith}
use Rattle.std.specs.Prelude.{◌&&◌}
use Rattle.std.specs.Str.{chars, IsUtf8, encode_utf8_all}
use Rattle.std.proofs.Math.Utf8.{scalar, scalars}
use Rattle.std.proofs.lemmas.Str.{chars-append, chars-encodes, encodes-chars, encodes-append, scalars-chars}
use Rattle.lalrpop_hir.specs.Prefix.{IsPrefix}

-- the characters of a prefix are a prefix of the characters
pub characters_of_prefix : (p text : List ℕ) (b : IsPrefix p text) → chars text ≡ chars p ++ chars b.0
characters_of_prefix p text b = ap chars b.1.0 ∙ chars-append p b.0 b.1.1

and_parts : (a b : Bool) → (a && b) ≡ true → (a ≡ true) × (b ≡ true)
and_parts true b e = (refl, e)
and_parts false b e = absurd (cc)

and_both : (a b : Bool) → a ≡ true → b ≡ true → (a && b) ≡ true
and_both a b e f = rw (e, f) refl

scalars_front : (v w : List ℕ) → scalars (v ++ w) ≡ true → scalars v ≡ true
scalars_front [] w s = refl
scalars_front (c ∷ v) w s =
    let parts = and_parts (scalar c) (scalars (v ++ w)) s in and_both (scalar c) (scalars v) parts.0 (scalars_front v w parts.1)

-- and a prefix of the characters is that of a prefix of the text
pub prefix_of_characters : (text v w : List ℕ) → IsUtf8 text → chars text ≡ v ++ w → IsPrefix (encode_utf8_all v) text × (chars (encode_utf8_all v) ≡ v)
prefix_of_characters text v w u e =
    let fine : scalars v ≡ true = scalars_front v w (ap scalars (sym e) ∙ scalars-chars text u) in
    let split : text ≡ encode_utf8_all v ++ encode_utf8_all w = sym (encodes-chars text u) ∙ ap encode_utf8_all e ∙ encodes-append v w in
    ((encode_utf8_all w, (split, (v, (fine, refl)))), chars-encodes v fine)

-- of two beginnings of one list the longer is the shorter and more
pub more_of : (v p r q : List ℕ) → v ++ r ≡ p ++ q → length v ≤ length p → (u : List ℕ) × ((p ≡ v ++ u) × (r ≡ u ++ q))
more_of [] p r q e l = (p, (refl, e))
more_of (a ∷ v) [] r q e l = absurd (omega arith)
more_of (a ∷ v) (b ∷ p) r q e l =
    let first : b ≡ a = cc in
    let others : v ++ r ≡ p ++ q = cc in
    let more = more_of v p r q others (omega arith) in
    (more.0, ((let two : p ≡ v ++ more.0 = more.1.0 in cc), more.1.1))
