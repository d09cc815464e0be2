-- Pieces that a stream gives one after another.
use Rattle.std.proofs.Common.{List, [], ◌∷◌, ◌++◌, refl, subst}
use Rattle.std.specs.Prelude.{Some}
use Rattle.lalrpop_rules.specs.declared.piece.Piece.{Piece}
use Rattle.bajofeki.specs.Chunked.{Chunked, GivesFinal}
use Rattle.bajofeki_c.specs.Stream.{GivesAll}

-- one piece more
pub gives_more : (c : Chunked) (xs : List Piece) (d : Chunked) (x : Piece) (e : Chunked) → GivesAll c xs d → GivesFinal d (Some x) e → GivesAll c (xs ++ x ∷ []) e
gives_more c [] d x e is more = (e, (subst (λ (z : Chunked). GivesFinal z (Some x) e) is more, refl))
gives_more c (y ∷ ys) d x e is more = (is.0, (is.1.0, gives_more is.0 ys d x e is.1.1 more))
