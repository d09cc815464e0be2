-- cases: proofs/Cases/Cutting.antt
-- How the cut of a text begins.
use Rattle.std.specs.Prelude.{◌≡◌, ℕ, List, Result, Ok, Err}
use Rattle.lalrpop_emit.specs.ByteCut.{ByteCut, HasMemoFor, IsCutOf, place_of, stack_in}
use Rattle.lalrpop_emit.specs.NumberedRules.{NumberedRules}
use Rattle.bajofeki_rules.specs.Stack.{start}
use Rattle.bajofeki_c.specs.declared.cutting.BeginError.{BeginError}
use Rattle.bajofeki_c.specs.declared.cutting.BeginError.TheVariants.{NoLexer, OutOfMemory}
use Rattle.bajofeki_c.specs.declared.cutting.Cutting.{Cutting}
use Rattle.bajofeki_c.specs.declared.held.BuildError.{BuildError}
use Rattle.bajofeki_c.specs.declared.held.BuiltLexer.{BuiltLexer}
use Rattle.bajofeki_c.specs.declared.held.Held.{Held}

-- before the first piece of any text, with a memo for one of this size
pub record IsBefore (n : NumberedRules) (size : ℕ) (c : ByteCut) : Type 0 where
  pub place : place_of c ≡ 0
  pub stack : stack_in c ≡ start
  pub cut : (text : List ℕ) → IsCutOf n text c
  pub memo : HasMemoFor n size c

-- by a lexer it begins, or memory was refused; else there is no lexer
abbrev pub Begins : Result BuiltLexer BuildError → ℕ → Result ByteCut BeginError → Type 0
Begins (Ok l) size (Ok c) = IsBefore l.numbers size c
Begins (Ok l) size (Err e) = e ≡ OutOfMemory
Begins (Err f) size (Ok c) = ⊥
Begins (Err f) size (Err e) = e ≡ NoLexer

abbrev pub IsBegun : Held → ℕ → Cutting → Type 0
IsBegun h size c = Begins h.made size c.cutter

-- it is the cut of some text, by some numbers, if there is one
abbrev pub IsOfSome : Result ByteCut BeginError → Type 0
IsOfSome (Ok c) = (n : NumberedRules) × ((text : List ℕ) × IsCutOf n text c)
IsOfSome (Err e) = Unit {0}

abbrev pub WasBegun : Cutting → Type 0
WasBegun c = IsOfSome c.cutter

abbrev pub code_in : Result ByteCut BeginError → ℕ
code_in (Ok c) = 0
code_in (Err OutOfMemory) = 7
code_in (Err NoLexer) = 9

-- how it began, in a number
abbrev pub begin_code : Cutting → ℕ
begin_code c = code_in c.cutter
