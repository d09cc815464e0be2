-- One character of a text with escapes, and the loop over them.
use Rattle.std.proofs.Common.{◌≡◌, ◌↔◌, ℕ, Bool, true, false, ◌==◌, List, [], ◌∷◌, ◌++◌, length, Some, None, refl, sym, ap, ◌∙◌, subst, append_assoc, encode_utf8, encode_utf8_all}
use Rattle.std.proofs.Math.Utf8.{scalar, scalars}
use Rattle.std.specs.Str.{chars}
use Rattle.std.proofs.lemmas.Str.{chars-encodes, encodes-append}
use Rattle.std.proofs.lemmas.List.{append-nil}
use Rattle.std.proofs.lemmas.Bool.{and_parts, and_from}
use Rattle.lalrpop_hir.specs.Range.{Range}
use Rattle.lalrpop_re.specs.Text.{Text}
use Rattle.lalrpop_re.specs.Escape.{Escaped, character, set, assertion}
use Rattle.lalrpop_re.specs.declared.error.RegexError.{RegexError}
use Rattle.lalrpop_re.specs.declared.error.RegexError.TheVariants.{Syntax, OutOfMemory}
use Rattle.lalrpop_re.specs.Unescaped.{Unescapes, at_end}
use Rattle.lalrpop_re.specs.Internal.Reading.{primary}
use Rattle.lalrpop_re.proofs.Steps.{bind_some, some_is}
use Rattle.lalrpop_re.proofs.UnescapedLaws.{Says, says_nothing, says_first, says_next}
use Rattle.lalrpop_hir.specs.declared.look.Look.{Look}
use Rattle.lalrpop_re.specs.declared.escape_sequence.EscapedPart.TheVariants as code
use Rattle.lalrpop_re.specs.Refusal.{SaysNoText}
use Rattle.lalrpop_re.specs.Internal.Views.{StandsForEscaped, Refuses}
use Rattle.lalrpop_re.specs.Internal.Characters.{alone, character_at}

-- ---- one character

pub character_found : (t : Text) (c : ℕ) (e : Escaped) (r : Text) → primary t ≡ Some (e, r) → StandsForEscaped (code.Character c) e → character_at t ≡ Some (c, r)
unfolding character_at
character_found t c (character d) r h s = rw (h, s) refl
character_found t c (set p negated) r h s = absurd s
character_found t c (assertion l) r h s = absurd s

pub set_refused : (t : Text) (class : List Range) (negated : Bool) (e : Escaped) (r : Text) → primary t ≡ Some (e, r) → StandsForEscaped (code.Set class negated) e → character_at t ≡ None
unfolding character_at
set_refused t class negated (character d) r h s = absurd s
set_refused t class negated (set p n) r h s = rw h refl
set_refused t class negated (assertion l) r h s = absurd s

pub assertion_refused : (t : Text) (look : Look) (e : Escaped) (r : Text) → primary t ≡ Some (e, r) → StandsForEscaped (code.Assertion look) e → character_at t ≡ None
unfolding character_at
assertion_refused t look (character d) r h s = absurd s
assertion_refused t look (set p n) r h s = absurd s
assertion_refused t look (assertion l) r h s = rw h refl

pub none_refused : (t : Text) → primary t ≡ None → character_at t ≡ None
unfolding character_at
none_refused t h = rw h refl

-- ---- the loop

-- after the characters `seen`, the rest says what follows them
pub record IsLeft (all : Text) (seen : List ℕ) (bytes : List ℕ) (rest : Text) : Type 0 where
  pub good : scalars seen ≡ true
  pub written : bytes ≡ encode_utf8_all seen
  pub on : (cs : List ℕ) → Unescapes rest cs → Unescapes all (seen ++ cs)
  pub back : (cs : List ℕ) → Unescapes all cs → (ds : List ℕ) × (cs ≡ seen ++ ds) × Unescapes rest ds

pub left_first : (t : Text) → IsLeft t [] [] t
left_first t = record { good = refl; written = refl; on = λ cs u. u; back = λ cs u. (cs, refl, u) }

to_primary : (t r : Text) (c : ℕ) → character_at t ≡ Some (c, r) → primary t ≡ Some (character c, r)
unfolding character_at
to_primary t r c h =
    let p = bind_some (primary t) (λ x. alone x.0 x.1) (c, r) h in
    p.1 ∙ ap (λ (x : Escaped × Text). Some x) (same p.0.0 p.0.1 p.2)
  where
    same : (e : Escaped) (u : Text) → alone e u ≡ Some (c, r) → ◌≡◌ {A = Escaped × Text} (e, u) (character c, r)
    same (character d) u k = ap (λ (x : ℕ × Text). (character x.0, x.1)) (some_is {A = ℕ × Text} (d, u) (c, r) k)
    same (set s negated) u k = absurd cc
    same (assertion l) u k = absurd cc

from_says : (t : Text) (cs : List ℕ) (c : ℕ) (r : Text) → character_at t ≡ Some (c, r) → Says t cs → (ds : List ℕ) × (cs ≡ c ∷ ds) × Unescapes r ds
from_says t cs c r h s =
    let same = some_is {A = Escaped × Text} (character s.first, s.rest) (character c, r) (sym s.read ∙ to_primary t r c h) in
    let characters : character s.first ≡ character c = ap (λ (x : Escaped × Text). x.0) same in
    let one : s.first ≡ c = cc in
    let behind : s.rest ≡ r = ap (λ (x : Escaped × Text). x.1) same in
    (s.others, s.is ∙ ap (λ d. d ∷ s.others) one, subst (λ u. Unescapes u s.others) behind s.later)

one_back : (t : Text) (cs : List ℕ) (c : ℕ) (r : Text) → character_at t ≡ Some (c, r) → Unescapes t cs → (ds : List ℕ) × (cs ≡ c ∷ ds) × Unescapes r ds
unfolding character_at primary
one_back [] cs c r h u = absurd cc
one_back (d ∷ t) cs c r h u = from_says (d ∷ t) cs c r h (says_first d t cs u)

scalars_more : (v : List ℕ) (c : ℕ) → scalars v ≡ true → scalar c ≡ true → scalars (v ++ c ∷ []) ≡ true
scalars_more [] c h k = rw k refl
scalars_more (d ∷ v) c h k = let both = and_parts (scalar d) _ h in and_from _ _ both.0 (scalars_more v c both.1 k)

pub left_next : (all t r : Text) (seen bytes more : List ℕ) (c : ℕ) → scalar c ≡ true → character_at t ≡ Some (c, r) → more ≡ bytes ++ encode_utf8 c → IsLeft all seen bytes t → IsLeft all (seen ++ c ∷ []) more r
left_next all t r seen bytes more c good h e k = record {
  good = scalars_more seen c k.good good;
  written = e ∙ ap (λ (b : List ℕ). b ++ encode_utf8 c) k.written ∙ ap (λ (b : List ℕ). encode_utf8_all seen ++ b) (sym (append-nil (encode_utf8 c))) ∙ sym (encodes-append seen (c ∷ []));
  on = λ cs u. subst (Unescapes all) (sym (append_assoc seen (c ∷ []) cs)) (k.on (c ∷ cs) (says_next t r c cs (to_primary t r c h) u));
  back = λ cs u.
      let p = k.back cs u in
      let q = one_back t p.0 c r h p.2 in
      (q.0, p.1 ∙ ap (λ (b : List ℕ). seen ++ b) q.1 ∙ sym (append_assoc seen (c ∷ []) q.0), q.2);
}

pub left_end : (all rest : Text) (seen bytes : List ℕ) → rest ≡ [] → IsLeft all seen bytes rest → (cs : List ℕ) → Unescapes all cs ↔ (cs ≡ chars bytes)
left_end all rest seen bytes e k cs =
    let is : chars bytes ≡ seen = ap chars k.written ∙ chars-encodes seen k.good in (
      λ u. let p = k.back cs u in p.1 ∙ ap (λ (b : List ℕ). seen ++ b) (says_nothing p.0 (subst (λ (s : Text). Unescapes s p.0) e p.2)) ∙ append-nil seen ∙ sym is,
      λ h. subst (Unescapes all) (append-nil seen ∙ sym is ∙ sym h) (k.on [] (subst (λ (s : Text). Unescapes s []) (sym e) at_end)),
    )

not_none : (x : ℕ × Text) → Some x ≡ None → ⊥
not_none x e = absurd (cc)

-- where a character is missing, no text is said
nothing_said : (t : Text) → (length t ≡ 0 → ⊥) → character_at t ≡ None → (cs : List ℕ) → Unescapes t cs → ⊥
nothing_said [] n h cs u = n refl
nothing_said (d ∷ t) n h cs u =
    let s = says_first d t cs u in not_none (s.first, s.rest) (sym (character_found (d ∷ t) s.first (character s.first) s.rest s.read refl) ∙ h)

pub left_refused : (all t : Text) (seen bytes : List ℕ) (e : RegexError) → (length t ≡ 0 → ⊥) → IsLeft all seen bytes t → Refuses e (character_at t) → SaysNoText all e
left_refused all t seen bytes (Syntax position kind) n k h = λ cs u. let p = k.back cs u in nothing_said t n h p.0 p.2
left_refused all t seen bytes OutOfMemory n k h = tt

pub not_empty : (t : Text) → (length t == 0) ≡ false → length t ≡ 0 → ⊥
not_empty [] h e = absurd cc
not_empty (d ∷ t) h e = absurd cc
