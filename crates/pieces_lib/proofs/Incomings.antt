-- Laws of a text that is read as it comes, one read after another.
use Rattle.std.proofs.Common.{ℕ, inr, List, [], ◌++◌, refl, subst, sym, append-nil}
use Rattle.std.specs.Prelude.{Result, Ok, Err, OnErr}
use Rattle.bajofeki.specs.Chunked.{Chunked}
use Rattle.lexdfa_lib.specs.Streams.{Stream, Reads, ReadEnd}
use Rattle.pieces_lib.specs.Internal.Incoming.{GrowsBy, IsFed, IsIncoming, ReadsOn}
use Rattle.pieces_lib.specs.declared.incoming.Incoming.{Incoming}

pub fed_none : (c : Chunked) → IsFed c [] c
fed_none c = inr (refl, refl)

pub grows_none : (i : Incoming) → GrowsBy i [] i
grows_none i = ([], (fed_none i.chunks, same))
  where
    same : (bytes text : List ℕ) → IsIncoming bytes text i → IsIncoming (bytes ++ []) (text ++ []) i
    same bytes text is = subst (λ (b : List ℕ). IsIncoming b (text ++ []) i) (sym (append-nil bytes)) (subst (λ (t : List ℕ). IsIncoming bytes t i) (sym (append-nil text)) is)

-- nothing comes
pub on_with_nothing : (s t : Stream) (end : ReadEnd) (i : Incoming) → Reads s t (record { bytes = []; end = end }) → ReadsOn s t end i i
on_with_nothing s t end i reads = ([], (reads, grows_none i))

pub on_err : {T E X : Type 0} (result : Result T E) → X → OnErr result X
on_err (Ok told) x = tt
on_err (Err error) x = x
