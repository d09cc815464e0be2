-- What holds of the trees that programs make: characters are code values, the ranges of classes are canonical, and
-- the least number of repetitions is at most the greatest.
use Rattle.std.specs.Prelude.{◌≡◌, true, ℕ, zero, suc, ◌≤◌, List, [], ◌∷◌, Option, Some, None}
use Rattle.lalrpop_hir.specs.Runs.{IsCanonical, AreByteRuns}
use Rattle.lalrpop_hir.specs.Counts.{AreOrdered}
use Rattle.lalrpop_hir.specs.Tree.{Class, unicode, bytes, Tree, empty, literal, class, look, repetition, capture, concat, alternation, Trees, none, also}

abbrev pub AreCodeValues : List ℕ → Type 0
AreCodeValues [] = Unit {0}
AreCodeValues (c ∷ cs) = (c ≤ 1114111) × AreCodeValues cs

abbrev pub IsValidClass : Class → Type 0
IsValidClass (unicode rs) = IsCanonical rs
IsValidClass (bytes rs) = AreByteRuns rs

-- a sub that is never repeated may be anything, since it isn't compiled
abbrev pub IsValidRepeated : Option ℕ → Type 0 → Type 0
IsValidRepeated None S = S
IsValidRepeated (Some zero) S = Unit {0}
IsValidRepeated (Some (suc n)) S = S

abbrev mutual
  pub IsValid : Tree → Type 0
  IsValid empty = Unit {0}
  IsValid (literal cs) = AreCodeValues cs
  IsValid (class a) = IsValidClass a
  IsValid (look l) = Unit {0}
  IsValid (repetition min max greedy t) = AreOrdered min max × IsValidRepeated max (IsValid t)
  IsValid (capture name t) = IsValid t
  IsValid (concat ts) = AreValid ts
  IsValid (alternation ts) = AreValid ts

  pub AreValid : Trees → Type 0
  AreValid none = Unit {0}
  AreValid (also t ts) = IsValid t × AreValid ts

-- what is not refused at the top of the tree: anything but a look, a lazy repetition and a named group
abbrev pub IsPlain : Tree → Type 0
IsPlain empty = Unit {0}
IsPlain (literal cs) = Unit {0}
IsPlain (class a) = Unit {0}
IsPlain (look l) = ⊥
IsPlain (repetition min max greedy t) = greedy ≡ true
IsPlain (capture name t) = name ≡ None
IsPlain (concat ts) = Unit {0}
IsPlain (alternation ts) = Unit {0}
