-- The lines of parts: how far they are read, and where they stop.
use Rattle.std.proofs.Common.{◌≡◌, ◌≢◌, ℕ, false, List, [], ◌∷◌, ◌++◌, codes, refl, sym, subst, ◌∙◌, arith, inl, inr, Result, Ok, Err, Some}
use Rattle.std.specs.Prelude.{IfOk, IfErr}
use Rattle.std.proofs.lemmas.Bool.{false≢true}
use Rattle.lalrpop_rule_file.specs.Words.{IsSpan, Lacks, begins, is_blank}
use Rattle.lalrpop_rule_file.specs.RuleLine.{WrittenPart, part_of as written_part, Part, Defining, Defines, Defined, Lexeme, a_blank, its_equals, its_pattern, an_open_pattern, Reads, nothing, lexeme_then}
use Rattle.lalrpop_rule_file.specs.RuleFault.{StopsBefore, fault_at}
use Rattle.lalrpop_rule_file.specs.Internal.Stops.{IsClosed, IsNotClosed}
use Rattle.lalrpop_rule_file.specs.Internal.Values.{HasPattern, part_of}
use Rattle.lalrpop_rule_file.specs.declared.error.LineFault.{LineFault}
use Rattle.lalrpop_rule_file.specs.declared.error.LineFault.TheVariants.{NoEquals, NoPattern, NotClosed}
use Rattle.lalrpop_rule_file.specs.declared.stop.Stop.{Stop}
use Rattle.lalrpop_rule_file.specs.declared.written.LinePart.{LinePart}
use Rattle.lalrpop_rule_file.proofs.Lexemes.{joined, span_read}
use Rattle.lalrpop_rule_file.proofs.Stopping.{Ends, all_blanks, ends_behind, open_stops, some_left, stops_behind}

-- ---- the `=`

no_equals_here : {name : List ℕ} {q : Part} {text rest : List ℕ} → begins is_blank text ≡ false → ((right : List ℕ) → text ≢ codes "=" ++ right) → ¬ Lexeme (Defining name) text q rest
no_equals_here blank none (a_blank h) = false≢true (sym blank ∙ h)
no_equals_here blank none (its_equals {rest = rest}) = none rest refl

pub part_without_equals : (name text lead here rest : List ℕ) (fault : LineFault) → IsSpan is_blank text lead here → ((right : List ℕ) → here ≢ codes "=" ++ right) → (fault ≡ NoEquals) × (rest ≡ here)
    → StopsBefore (Defining name) text rest fault
part_without_equals name text lead here rest fault span none is =
    let stops : StopsBefore (Defining name) text here NoEquals =
    record { part = Defining name; reads = span_read (Defining name) text lead here span; stuck = λ q behind. no_equals_here span.stops none; is_fault = refl } in
    subst (λ (f : LineFault). StopsBefore (Defining name) text rest f) (sym is.0) (subst (λ (x : List ℕ). StopsBefore (Defining name) text x NoEquals) (sym is.1) stops)

pub part_equals : (name text lead here right : List ℕ) → IsSpan is_blank text lead here → here ≡ codes "=" ++ right → Reads (Defining name) text (Defines name) right
part_equals name text lead here right span parts =
    joined (span_read (Defining name) text lead here span) (subst (λ (x : List ℕ). Reads (Defining name) x (Defines name) right) (sym parts) (lexeme_then its_equals nothing))

-- ---- the pattern

no_slash_here : {name : List ℕ} {q : Part} {text rest : List ℕ} → begins is_blank text ≡ false → ((inner : List ℕ) → text ≢ 47 ∷ inner) → ¬ Lexeme (Defines name) text q rest
no_slash_here blank none (a_blank h) = false≢true (sym blank ∙ h)
no_slash_here blank none (its_pattern {inner = inner} {rest = rest} lacks) = none (inner ++ (codes "/" ++ rest)) refl
no_slash_here blank none (an_open_pattern {inner = inner} lacks) = none inner refl

pub no_pattern : (name text lead here : List ℕ) → IsSpan is_blank text lead here → ((inner : List ℕ) → here ≢ 47 ∷ inner) → StopsBefore (Defines name) text here NoPattern
no_pattern name text lead here span none =
    record { part = Defines name; reads = span_read (Defines name) text lead here span; stuck = λ q rest. no_slash_here span.stops none; is_fault = refl }

slashed_here : (name inner pattern trail : List ℕ) → inner ≡ pattern ++ (47 ∷ trail) → Lacks 47 trail → Reads (Defines name) (codes "/" ++ inner) (Defined (written_part name pattern)) trail
slashed_here name inner pattern trail parts lacks =
    subst (λ (x : List ℕ). Reads (Defines name) (codes "/" ++ x) (Defined (written_part name pattern)) trail) (sym parts) (lexeme_then (its_pattern lacks) nothing)

pub slashed : (name inner pattern : List ℕ) → IsClosed 47 inner pattern → Reads (Defines name) (codes "/" ++ inner) (Defined (written_part name pattern)) []
slashed name inner pattern (trail, (parts, lacks, blanks)) =
    joined (slashed_here name inner pattern trail parts lacks) (all_blanks (Defined (written_part name pattern)) trail blanks)

no_blank_here : {part : WrittenPart} {q : Part} {text rest : List ℕ} → begins is_blank text ≡ false → ¬ Lexeme (Defined part) text q rest
no_blank_here blank (a_blank h) = false≢true (sym blank ∙ h)

pub not_slashed : (name inner rest : List ℕ) → IsNotClosed 47 inner rest → StopsBefore (Defines name) (codes "/" ++ inner) rest NotClosed
not_slashed name inner rest (inl (lacks, none)) = open_stops (Defines name) (codes "/" ++ inner) rest (lexeme_then (an_open_pattern lacks) nothing) none
not_slashed name inner rest (inr (pattern, (trail, (gap, (parts, lacks, blanks, some))))) =
    let part = written_part name pattern in
    record {
      part = Defined part;
      reads = joined (slashed_here name inner pattern trail parts lacks) (span_read (Defined part) trail gap rest blanks);
      stuck = λ q behind. no_blank_here blanks.stops;
      is_fault = some_left rest (λ x. fault_at (Defined part) x ≡ Some NotClosed) (λ b bs. refl) (λ e. omega (arith, e, some));
    }

-- ---- after what stands before them

pub slash_reads : (name right lead here inner : List ℕ) (r : Result LinePart Stop) → IsSpan is_blank right lead here → here ≡ 47 ∷ inner → IfOk r (λ p. Reads (Defines name) (codes "/" ++ inner) (Defined (part_of p)) [])
    → IfOk r (λ p. Reads (Defines name) right (Defined (part_of p)) [])
slash_reads name right lead here inner (Ok p) span parts reads =
    joined (span_read (Defines name) right lead here span) (subst (λ (x : List ℕ). Reads (Defines name) x (Defined (part_of p)) []) (sym parts) reads)
slash_reads name right lead here inner (Err e) span parts reads = tt

pub slash_stops : (name right lead here inner : List ℕ) (r : Result LinePart Stop) → IsSpan is_blank right lead here → here ≡ 47 ∷ inner → IfErr r (λ s. StopsBefore (Defines name) (codes "/" ++ inner) s.rest.now s.fault)
    → IfErr r (λ s. StopsBefore (Defines name) right s.rest.now s.fault)
slash_stops name right lead here inner (Ok p) span parts stops = tt
slash_stops name right lead here inner (Err e) span parts stops =
    stops_behind (span_read (Defines name) right lead here span) (subst (λ (x : List ℕ). StopsBefore (Defines name) x e.rest.now e.fault) (sym parts) stops)

pub part_reads : (name text right : List ℕ) (r : Result LinePart Stop) → Reads (Defining name) text (Defines name) right → IfOk r (λ p. Reads (Defines name) right (Defined (part_of p)) [])
    → IfOk r (λ p. Reads (Defining name) text (Defined (part_of p)) [])
part_reads name text right (Ok p) before reads = joined before reads
part_reads name text right (Err e) before reads = tt

pub part_stops : (name text right : List ℕ) (r : Result LinePart Stop) → Reads (Defining name) text (Defines name) right → IfErr r (λ s. StopsBefore (Defines name) right s.rest.now s.fault)
    → IfErr r (λ s. StopsBefore (Defining name) text s.rest.now s.fault)
part_stops name text right (Ok p) before stops = tt
part_stops name text right (Err e) before stops = stops_behind before stops

-- the pattern ends what it stands in, too
pub pattern_in : (line text : List ℕ) (p : LinePart) → Ends line text → HasPattern text p → HasPattern line p
pattern_in line text p (front, parts) (own, (is, begins_text)) = let all = ends_behind front text p.here.now line parts (own, is) in (all.0, (all.1, begins_text))

pub pattern_behind : (line text : List ℕ) (r : Result LinePart Stop) → Ends line text → IfOk r (HasPattern text) → IfOk r (HasPattern line)
pattern_behind line text (Ok p) ends has = pattern_in line text p ends has
pattern_behind line text (Err e) ends has = tt

pub ends_slashed : (text lead here inner : List ℕ) → IsSpan is_blank text lead here → here ≡ 47 ∷ inner → Ends text inner
ends_slashed text lead here inner span parts = ends_behind lead here inner text span.parts (codes "/", parts)
