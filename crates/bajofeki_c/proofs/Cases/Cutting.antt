-- Cases of specs/Cutting.antt.
use Rattle.std.proofs.Common.{◌≡◌, ℕ, [], refl}
use Rattle.std.specs.Prelude.{Ok, Err}
use Rattle.lalrpop_emit.specs.ByteCut.{ByteCut}
use Rattle.bajofeki_c.specs.Cutting.{IsBegun, WasBegun, begin_code}
use Rattle.bajofeki_c.specs.declared.cutting.BeginError.TheVariants.{NoLexer, OutOfMemory}
use Rattle.bajofeki_c.specs.declared.held.BuildError.TheVariants.{Freed}
use Rattle.bajofeki_c.specs.declared.held.BuiltLexer.{BuiltLexer}

there_is_a_cut : (c : ByteCut) → begin_code (record { cutter = Ok c }) ≡ 0
there_is_a_cut c = refl

memory_refused : begin_code (record { cutter = Err OutOfMemory }) ≡ 7
memory_refused = refl

no_lexer : begin_code (record { cutter = Err NoLexer }) ≡ 9
no_lexer = refl

none_begins_without_a_lexer : (size : ℕ) → IsBegun (record { made = Err Freed }) size (record { cutter = Err NoLexer })
none_begins_without_a_lexer size = refl

no_cut_without_a_lexer : (size : ℕ) (c : ByteCut) → ¬ IsBegun (record { made = Err Freed }) size (record { cutter = Ok c })
no_cut_without_a_lexer size c begun = begun

-- memory can be refused at any lexer
memory_refused_at_a_lexer : (l : BuiltLexer) (size : ℕ) → IsBegun (record { made = Ok l }) size (record { cutter = Err OutOfMemory })
memory_refused_at_a_lexer l size = refl

-- another text can begin where one has
what_begins_was_begun : (l : BuiltLexer) (size : ℕ) (c : ByteCut) → IsBegun (record { made = Ok l }) size (record { cutter = Ok c }) → WasBegun (record { cutter = Ok c })
what_begins_was_begun l size c begun = (l.numbers, ([], begun.cut []))

none_was_begun : WasBegun (record { cutter = Err OutOfMemory })
none_was_begun = tt
