-- cases: proofs/Cases/Markup.antt
-- A text as HTML, and the text of HTML.
use Rattle.std.specs.Prelude.{◌≡◌, ◌⊎◌, ℕ, true, false, List, [], ◌∷◌, ◌++◌, Option, Some, None, codes, chars, encode_utf8, flat_map, slice_get, unwrap_or, if◌then◌else◌, ◌==◌}
use Rattle.std.specs.Str.{bytes_eq}
use Rattle.std.specs.Str.Iter.{LacksByte}
use Rattle.lalrpop_rules.specs.declared.piece.Piece.{Piece}
use Rattle.lalrpop_rules.specs.declared.piece.Piece.TheVariants.{Token, Skipped, Fault}

-- ---- writing

-- the entities of `<`, `>`, `&`, the quote and the carriage return
abbrev pub entity : ℕ → Option (List ℕ)
entity c =
    if c == 60 then Some (codes "&lt;") else (
    if c == 62 then Some (codes "&gt;") else (
    if c == 38 then Some (codes "&amp;") else (
    if c == 34 then Some (codes "&quot;") else (
    if c == 13 then Some (codes "&#13;") else None))))

-- the entity of a character, or the character itself if it has none
abbrev pub told : ℕ → List ℕ
told c = unwrap_or (entity c) (encode_utf8 c)

abbrev pub escaped : List ℕ → List ℕ
escaped text = flat_map told (chars text)

-- a text in tags with a class
abbrev pub span : List ℕ → List ℕ → List ℕ
span class text = codes "<span class=\"" ++ (escaped class ++ (codes "\">" ++ (escaped text ++ codes "</span>")))

abbrev pub mark : List ℕ → List ℕ
mark text = codes "<mark>" ++ (escaped text ++ codes "</mark>")

-- a piece of a text: a token with the name of its rule, or a fault
abbrev pub marked : List (List ℕ) → Piece → List ℕ
marked names (Token token) = span (unwrap_or (slice_get names token.index) []) token.slice.now
marked names (Skipped token) = escaped token.slice.now
marked names (Fault start slice) = mark slice.now

-- ---- what is markup: tags and entities

-- a tag of a span or a mark; a class has no quote, no `<` and no `>`
abbrev pub IsTag : List ℕ → Type 0
IsTag tag =
    ((class : List ℕ) × ((tag ≡ codes "<span class=\"" ++ (class ++ codes "\">")) × (LacksByte 34 class × (LacksByte 60 class × LacksByte 62 class))))
    ⊎ ((tag ≡ codes "</span>") ⊎ ((tag ≡ codes "<mark>") ⊎ (tag ≡ codes "</mark>")))

abbrev pub IsEntity : List ℕ → Type 0
IsEntity text = (c : ℕ) × (entity c ≡ Some text)

-- ---- reading: the text of HTML is what is outside tags, with entities decoded

-- what the entity of this name stands for: nothing, if it is none of these
abbrev pub bytes_of : List ℕ → List ℕ
bytes_of name =
    if bytes_eq name (codes "lt") then 60 ∷ [] else (
    if bytes_eq name (codes "gt") then 62 ∷ [] else (
    if bytes_eq name (codes "amp") then 38 ∷ [] else (
    if bytes_eq name (codes "quot") then 34 ∷ [] else (
    if bytes_eq name (codes "#13") then 13 ∷ [] else []))))

abbrev mutual
  -- outside tags: `<` begins one, and `&` an entity; a carriage return that is no entity is lost
  pub outside : List ℕ → List ℕ
  outside [] = []
  outside (b ∷ bs) =
      elim (b == 60) [
        | true ↦ inside bs
        | false ↦
            elim (b == 38) [
              | true ↦ entity_from [] bs
              | false ↦
                  elim (b == 13) [ true ↦ outside bs | false ↦ b ∷ outside bs ]
            ]
      ]

  -- inside a tag, which `>` ends
  pub inside : List ℕ → List ℕ
  inside [] = []
  inside (b ∷ bs) = elim (b == 62) [ true ↦ outside bs | false ↦ inside bs ]

  -- inside an entity, which `;` ends, and whose name is this so far
  pub entity_from : List ℕ → List ℕ → List ℕ
  entity_from name [] = []
  entity_from name (b ∷ bs) = elim (b == 59) [ true ↦ bytes_of name ++ outside bs | false ↦ entity_from (name ++ b ∷ []) bs ]
