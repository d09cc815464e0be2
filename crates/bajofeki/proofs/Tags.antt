-- A page of HTML has no `<`, `>` and `&` but those of its tags and entities.
use Rattle.std.proofs.Common.{◌≡◌, ◌≢◌, ℕ, ◌⊎◌, inl, inr, true, false, List, [], ◌∷◌, ◌++◌, zero, suc, refl, sym, ap, subst, ◌∙◌, arith, append_assoc, flat_map, codes, Bool}
use Rattle.std.specs.Prelude.{Some, nat_eq, slice_get, unwrap_or, ◌||◌}
use Rattle.std.specs.Str.{chars}
use Rattle.std.specs.Str.Iter.{LacksByte}
use Rattle.std.specs.Char.{encode_utf8}
use Rattle.std.proofs.lemmas.Bool.{eqb-false}
use Rattle.std.proofs.lemmas.Bool.Decides.{eqb_tells}
use Rattle.lalrpop_rules.specs.declared.piece.Piece.{Piece}
use Rattle.lalrpop_rules.specs.declared.piece.Piece.TheVariants.{Token, Skipped, Fault}
use Rattle.bajofeki.specs.Markup.{entity, told, escaped, span, mark, marked, IsTag, IsEntity}
use Rattle.bajofeki.specs.Places.{EachBegins, EachEnds}
use Rattle.bajofeki.proofs.Characters.{Lacks, lacks_char}
use Rattle.bajofeki.proofs.Readings.{by_entity}
use Rattle.bajofeki.proofs.PlaceLaws.{lacks_append, lacks_flat_map, begins_append, begins_nowhere, begins_whole, ends_append, ends_nowhere, ends_whole, of_all}

-- each `<` begins a tag, each `>` ends one, and each `&` begins an entity
pub record IsMarkup (page : List ℕ) : Type 0 where
  pub opening : EachBegins 60 IsTag page
  pub closing : EachEnds 62 IsTag page
  pub entities : EachBegins 38 IsEntity page

join : (xs ys : List ℕ) → IsMarkup xs → IsMarkup ys → IsMarkup (xs ++ ys)
join xs ys one two = record {
  opening = begins_append 60 IsTag xs ys one.opening two.opening;
  closing = ends_append 62 IsTag xs ys one.closing two.closing;
  entities = begins_append 38 IsEntity xs ys one.entities two.entities;
}

-- ---- bytes that are written out

abbrev stands : ℕ → List ℕ → Bool
stands c [] = false
stands c (b ∷ bs) = nat_eq b c || stands c bs

lacks : (c : ℕ) (bs : List ℕ) → stands c bs ≡ false → Lacks c bs
lacks c [] none = tt
lacks c (b ∷ bs) none = by (lacks c bs) (eqb_tells b c)
  where
    by : (stands c bs ≡ false → Lacks c bs) → ((nat_eq b c ≡ true) × (b ≡ c)) ⊎ ((nat_eq b c ≡ false) × (b ≢ c)) → Lacks c (b ∷ bs)
    by later (inl same) = let clash : true ≡ false = rw same.0 at none in absurd (cc)
    by later (inr other) = let none_later : stands c bs ≡ false = rw other.0 at none in (other.1, later none_later)

plain : (bs : List ℕ) → Lacks 60 bs → Lacks 62 bs → Lacks 38 bs → IsMarkup bs
plain bs no_opening no_closing no_entity = record {
  opening = begins_nowhere 60 IsTag bs no_opening;
  closing = ends_nowhere 62 IsTag bs no_closing;
  entities = begins_nowhere 38 IsEntity bs no_entity;
}

empty : IsMarkup []
empty = plain [] tt tt tt

-- ---- characters

an_entity : (c : ℕ) (name : List ℕ) → entity c ≡ Some (38 ∷ name) → Lacks 60 name → Lacks 62 name → Lacks 38 name → IsMarkup (38 ∷ name)
an_entity c name is no_opening no_closing no_entity = record {
  opening = begins_nowhere 60 IsTag (38 ∷ name) (eqb-false 38 60 refl, no_opening);
  closing = ends_nowhere 62 IsTag (38 ∷ name) (eqb-false 38 62 refl, no_closing);
  entities = begins_whole 38 38 IsEntity name (c, is) no_entity;
}

told_is_markup : (c : ℕ) → IsMarkup (told c)
told_is_markup =
    by_entity (λ d. IsMarkup (told d))
    (an_entity 60 (codes "lt;") refl (lacks 60 (codes "lt;") refl) (lacks 62 (codes "lt;") refl) (lacks 38 (codes "lt;") refl))
    (an_entity 62 (codes "gt;") refl (lacks 60 (codes "gt;") refl) (lacks 62 (codes "gt;") refl) (lacks 38 (codes "gt;") refl))
    (an_entity 38 (codes "amp;") refl (lacks 60 (codes "amp;") refl) (lacks 62 (codes "amp;") refl) (lacks 38 (codes "amp;") refl))
    (an_entity 34 (codes "quot;") refl (lacks 60 (codes "quot;") refl) (lacks 62 (codes "quot;") refl) (lacks 38 (codes "quot;") refl))
    (an_entity 13 (codes "#13;") refl (lacks 60 (codes "#13;") refl) (lacks 62 (codes "#13;") refl) (lacks 38 (codes "#13;") refl))
    (λ d no_opening no_closing no_entity no_quote no_return is.
    subst IsMarkup (sym is) (plain (encode_utf8 d) (lacks_char 60 d (omega arith) no_opening) (lacks_char 62 d (omega arith) no_closing) (lacks_char 38 d (omega arith) no_entity)))

escaped_is_markup : (text : List ℕ) → IsMarkup (escaped text)
escaped_is_markup text = of_all IsMarkup told empty join told_is_markup (chars text)

-- ---- a class

no_opening_in : (c : ℕ) → Lacks 60 (told c)
no_opening_in =
    by_entity (λ d. Lacks 60 (told d))
    (lacks 60 (codes "&lt;") refl) (lacks 60 (codes "&gt;") refl) (lacks 60 (codes "&amp;") refl) (lacks 60 (codes "&quot;") refl) (lacks 60 (codes "&#13;") refl)
    (λ d no_opening no_closing no_entity no_quote no_return is. subst (Lacks 60) (sym is) (lacks_char 60 d (omega arith) no_opening))

no_closing_in : (c : ℕ) → Lacks 62 (told c)
no_closing_in =
    by_entity (λ d. Lacks 62 (told d))
    (lacks 62 (codes "&lt;") refl) (lacks 62 (codes "&gt;") refl) (lacks 62 (codes "&amp;") refl) (lacks 62 (codes "&quot;") refl) (lacks 62 (codes "&#13;") refl)
    (λ d no_opening no_closing no_entity no_quote no_return is. subst (Lacks 62) (sym is) (lacks_char 62 d (omega arith) no_closing))

no_quote_in : (c : ℕ) → Lacks 34 (told c)
no_quote_in =
    by_entity (λ d. Lacks 34 (told d))
    (lacks 34 (codes "&lt;") refl) (lacks 34 (codes "&gt;") refl) (lacks 34 (codes "&amp;") refl) (lacks 34 (codes "&quot;") refl) (lacks 34 (codes "&#13;") refl)
    (λ d no_opening no_closing no_entity no_quote no_return is. subst (Lacks 34) (sym is) (lacks_char 34 d (omega arith) no_quote))

lacks_byte : (c : ℕ) (bs : List ℕ) → Lacks c bs → LacksByte c bs
lacks_byte c [] none k within = absurd (omega (arith, within))
lacks_byte c (b ∷ bs) none zero within = none.0
lacks_byte c (b ∷ bs) none (suc k) within = lacks_byte c bs none.1 k (omega (arith, within))

-- ---- tags

-- bytes that begin with `<`, end with `>` and have neither between
a_tag : (inner : List ℕ) → IsTag (60 ∷ (inner ++ 62 ∷ [])) → Lacks 60 inner → Lacks 62 inner → EachBegins 38 IsEntity inner → IsMarkup (60 ∷ (inner ++ 62 ∷ []))
a_tag inner is no_opening no_closing entities = record {
  opening = begins_whole 60 60 IsTag (inner ++ 62 ∷ []) is (lacks_append 60 inner (62 ∷ []) no_opening (eqb-false 62 60 refl, tt));
  closing = ends_whole 62 IsTag (60 ∷ inner) is (eqb-false 60 62 refl, no_closing);
  entities =
      begins_append 38 IsEntity (60 ∷ inner) (62 ∷ [])
      (begins_append 38 IsEntity (60 ∷ []) inner (begins_nowhere 38 IsEntity (60 ∷ []) (eqb-false 60 38 refl, tt)) entities)
      (begins_nowhere 38 IsEntity (62 ∷ []) (eqb-false 62 38 refl, tt));
}

-- `span class="..."`
abbrev inner_of : List ℕ → List ℕ
inner_of name = codes "span class=\"" ++ (escaped name ++ codes "\"")

opening_tag : (name : List ℕ) → IsMarkup (60 ∷ (inner_of name ++ 62 ∷ []))
opening_tag name =
    let text : List ℕ = escaped name in
    let whole : 60 ∷ (inner_of name ++ 62 ∷ []) ≡ codes "<span class=\"" ++ (text ++ codes "\">") =
    ap (λ (l : List ℕ). codes "<span class=\"" ++ l) (append_assoc text (codes "\"") (62 ∷ [])) in
    let lack : (c : ℕ) → Lacks c (codes "span class=\"") → Lacks c text → Lacks c (codes "\"") → Lacks c (inner_of name) =
    λ c front middle end. lacks_append c (codes "span class=\"") (text ++ codes "\"") front (lacks_append c text (codes "\"") middle end) in
    let none : (c : ℕ) → ((d : ℕ) → Lacks c (told d)) → Lacks c text = λ c each. lacks_flat_map c told each (chars name) in
    a_tag (inner_of name)
    (inl (text, (whole, (lacks_byte 34 text (none 34 no_quote_in), (lacks_byte 60 text (none 60 no_opening_in), lacks_byte 62 text (none 62 no_closing_in))))))
    (lack 60 (lacks 60 (codes "span class=\"") refl) (none 60 no_opening_in) (lacks 60 (codes "\"") refl))
    (lack 62 (lacks 62 (codes "span class=\"") refl) (none 62 no_closing_in) (lacks 62 (codes "\"") refl))
    (begins_append 38 IsEntity (codes "span class=\"") (text ++ codes "\"")
    (begins_nowhere 38 IsEntity (codes "span class=\"") (lacks 38 (codes "span class=\"") refl))
    (begins_append 38 IsEntity text (codes "\"") (escaped_is_markup name).entities (begins_nowhere 38 IsEntity (codes "\"") (lacks 38 (codes "\"") refl))))

other_tag : (inner : List ℕ) → IsTag (60 ∷ (inner ++ 62 ∷ [])) → stands 60 inner ≡ false → stands 62 inner ≡ false → stands 38 inner ≡ false → IsMarkup (60 ∷ (inner ++ 62 ∷ []))
other_tag inner is no_opening no_closing no_entity =
    a_tag inner is (lacks 60 inner no_opening) (lacks 62 inner no_closing) (begins_nowhere 38 IsEntity inner (lacks 38 inner no_entity))

end_of_span : IsMarkup (codes "</span>")
end_of_span = other_tag (codes "/span") (inr (inl refl)) refl refl refl

begin_of_mark : IsMarkup (codes "<mark>")
begin_of_mark = other_tag (codes "mark") (inr (inr (inl refl))) refl refl refl

end_of_mark : IsMarkup (codes "</mark>")
end_of_mark = other_tag (codes "/mark") (inr (inr (inr refl))) refl refl refl

-- ---- pieces

span_is_markup : (class text : List ℕ) → IsMarkup (span class text)
span_is_markup class text =
    let behind : List ℕ = escaped text ++ codes "</span>" in
    let tag : List ℕ = 60 ∷ (inner_of class ++ 62 ∷ []) in
    let parts : tag ++ behind ≡ span class text =
    ap (λ (l : List ℕ). codes "<span class=\"" ++ l) (append_assoc (escaped class ++ codes "\"") (62 ∷ []) behind ∙ append_assoc (escaped class) (codes "\"") (62 ∷ behind)) in
    subst IsMarkup parts
    (join tag behind (opening_tag class) (join (escaped text) (codes "</span>") (escaped_is_markup text) end_of_span))

mark_is_markup : (text : List ℕ) → IsMarkup (mark text)
mark_is_markup text = join (codes "<mark>") (escaped text ++ codes "</mark>") begin_of_mark (join (escaped text) (codes "</mark>") (escaped_is_markup text) end_of_mark)

marked_is_markup : (names : List (List ℕ)) (x : Piece) → IsMarkup (marked names x)
marked_is_markup names (Token token) = span_is_markup (unwrap_or (slice_get names token.index) []) token.slice.now
marked_is_markup names (Skipped token) = escaped_is_markup token.slice.now
marked_is_markup names (Fault start slice) = mark_is_markup slice.now

pub page_is_markup : (names : List (List ℕ)) (xs : List Piece) → IsMarkup (flat_map (marked names) xs)
page_is_markup names xs = of_all IsMarkup (marked names) empty join (marked_is_markup names) xs
