-- Cases of specs/Stream.antt.
use Rattle.std.proofs.Common.{◌≡◌, [], ◌∷◌, false, true, inl, inr, refl, ap, arith}
use Rattle.std.specs.Prelude.{None, Some, Err}
use Rattle.bajofeki.specs.Chunked.{Chunked, nothing_come}
use Rattle.lalrpop_rules.specs.Modes.{ModeRules}
use Rattle.bajofeki_c.specs.Document.{count_told}
use Rattle.bajofeki_c.specs.Stream.{GivesAll, GivesOn, IsFed, IsFedOpen, IsStreamBegun}
use Rattle.bajofeki_c.specs.declared.held.BuildError.TheVariants.{Freed}
use Rattle.bajofeki_c.specs.declared.document.Count.{Count}
use Rattle.bajofeki_c.specs.declared.stream.Stream.{Stream}

-- any bytes come
bytes_come : (r : ModeRules) → IsFedOpen (nothing_come r) (255 ∷ []) true 0 (record (nothing_come r) { rest = 255 ∷ []; is_ended = true })
bytes_come r = inl (refl, (refl, refl))

-- and none after the last ones
ended : (r : ModeRules) (c : Chunked) → c ≡ record (nothing_come r) { is_ended = true } → IsFedOpen c (97 ∷ []) true 8 c
ended r c is = inr (inr (ap (λ (d : Chunked). d.is_ended) is, (refl, refl)))

nothing_is_given : (c : Chunked) → GivesAll c [] c
nothing_is_given c = refl

-- without a lexer
abbrev none : Stream
none = record { going = None }

no_stream : IsStreamBegun (record { made = Err Freed }) none
no_stream = refl

nothing_comes : IsFed none [] true 9 none
nothing_comes = (refl, refl)

none_gives_nothing : GivesOn none [] (count_told 9 0) [] none
none_gives_nothing = (refl, (refl, refl))

none_is_not_through : ¬ GivesOn none [] (count_told 0 0) [] none
none_is_not_through given = let n : 0 ≡ 9 = ap (λ (c : Count). c.code) given.0 in omega (arith, n)
