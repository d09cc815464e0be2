-- A text that is read as it comes, and cut.
use Rattle.std.specs.Prelude.{◌≡◌, ◌<◌, ◌⊎◌, ◌+◌, ℕ, true, false, if◌then◌else◌, List, [], ◌∷◌, ◌++◌, length, take}
use Rattle.bajofeki.specs.Chunked.{Chunked}
use Rattle.lalrpop_rule_file.specs.RuleFile.{without_mark}
use Rattle.lexdfa_lib.specs.Streams.{Stream, Reads, ReadEnd, AtEnd, Failed, LeftOff}
use Rattle.pieces_lib.specs.declared.incoming.Brought.{Brought}
use Rattle.pieces_lib.specs.declared.incoming.Brought.TheVariants.{More, Nothing, Failure}
use Rattle.pieces_lib.specs.declared.incoming.Incoming.{Incoming}

-- a byte order mark
abbrev pub mark : List ℕ
mark = 239 ∷ 187 ∷ 191 ∷ []

-- these bytes are its beginning, and not all of it
abbrev pub BeginsMark : List ℕ → Type 0
BeginsMark front = (length front < 3) × (front ≡ take (length front) mark)

-- more bytes make no mark of these
abbrev pub IsSettled : List ℕ → Type 0
IsSettled front = (more : List ℕ) → without_mark (front ++ more) ≡ without_mark front ++ more

-- these bytes were read, and this text has come: nothing while all of them may be the beginning of a byte order mark, and are held back; then
-- all but a mark, whatever comes
pub record IsIncoming (bytes text : List ℕ) (i : Incoming) : Type 0 where
  pub back : i.has_begun ≡ false → (text ≡ []) × ((bytes ≡ i.front.items) × BeginsMark i.front.items)
  pub begun : i.has_begun ≡ true → (more : List ℕ) → without_mark (bytes ++ more) ≡ text ++ more

-- a part of the text comes to these chunks, if any does
abbrev pub IsFed : Chunked → List ℕ → Chunked → Type 0
IsFed old chunk new = (new ≡ record old { last = []; rest = old.rest ++ chunk }) ⊎ ((chunk ≡ []) × (new ≡ old))

-- these bytes are read, and a part of the text comes, whatever was read before
abbrev pub GrowsBy : Incoming → List ℕ → Incoming → Type 0
GrowsBy old more new = (chunk : List ℕ) × (IsFed old.chunks chunk new.chunks
    × ((bytes text : List ℕ) → IsIncoming bytes text old → IsIncoming (bytes ++ more) (text ++ chunk) new))

-- no more are read, and what is left of the text comes
abbrev pub EndsBy : Incoming → Incoming → Type 0
EndsBy old new = (chunk : List ℕ) × (IsFed old.chunks chunk new.chunks
    × ((bytes text : List ℕ) → IsIncoming bytes text old → without_mark bytes ≡ text ++ chunk))

-- so reading goes on, by bytes that a stream gives, up to this end
abbrev pub ReadsOn : Stream → Stream → ReadEnd → Incoming → Incoming → Type 0
ReadsOn s t end old new = (more : List ℕ) × (Reads s t (record { bytes = more; end = end }) × GrowsBy old more new)

-- the end of reading that brought this
abbrev pub end_of : Brought → ReadEnd
end_of More = LeftOff
end_of Nothing = AtEnd
end_of Failure = Failed

-- how many bytes are held: those of the text that are in no piece, those that are held back, and those of a byte order mark
abbrev pub held : Incoming → ℕ
held i = length i.chunks.rest + length i.front.items + (if i.has_begun then 3 else 0)
