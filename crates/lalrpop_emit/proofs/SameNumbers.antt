-- When the numbers of two lexers are the same, and which of them are below 2 ^ 64.
use Rattle.std.proofs.Common.{◌≡◌, ℕ, ◌<◌, ◌^◌, List, [], ◌∷◌, length, map, refl, ap, ◌∙◌, arith, true, false, Bool, lit<}
use Rattle.std.specs.List.{All}
use Rattle.std.proofs.lemmas.List.{append_cancel_left}
use Rattle.std.proofs.lemmas.List.Elements.{All-cons, All-nil}
use Rattle.lalrpop_dense.specs.DenseTable.{TableNumbers}
use Rattle.lalrpop_emit.specs.Ahead.{AheadNumbers}
use Rattle.lalrpop_emit.specs.CSource.{flags}

pub below : (k : ℕ) (xs : List ℕ) → 2 ^ k < 2 ^ 64 → All (λ n. n < 2 ^ k) xs → All (λ n. n < 2 ^ 64) xs
below k xs small all i d l = omega (arith, all i d l, small)

-- ---- flags

pub flags_below : (bs : List Bool) → All (λ n. n < 2 ^ 64) (flags bs)
flags_below [] = All-nil (λ n. n < 2 ^ 64)
flags_below (true ∷ bs) = All-cons (λ n. n < 2 ^ 64) 1 (flags bs) (lit< tt) (flags_below bs)
flags_below (false ∷ bs) = All-cons (λ n. n < 2 ^ 64) 0 (flags bs) (lit< tt) (flags_below bs)

pub count_flags : (bs : List Bool) → length (flags bs) ≡ length bs
count_flags [] = refl
count_flags (b ∷ bs) = omega (arith, count_flags bs)

abbrev leading : List ℕ → ℕ
leading [] = 0
leading (x ∷ xs) = x

pub flags_same : (bs cs : List Bool) → flags bs ≡ flags cs → bs ≡ cs
flags_same [] [] e = refl
flags_same [] (c ∷ cs) e = absurd (omega (arith, ap length e))
flags_same (b ∷ bs) [] e = absurd (omega (arith, ap length e))
flags_same (true ∷ bs) (true ∷ cs) e = ap (λ (x : List Bool). true ∷ x) (flags_same bs cs (append_cancel_left (1 ∷ []) (flags bs) (flags cs) e))
flags_same (false ∷ bs) (false ∷ cs) e = ap (λ (x : List Bool). false ∷ x) (flags_same bs cs (append_cancel_left (0 ∷ []) (flags bs) (flags cs) e))
flags_same (true ∷ bs) (false ∷ cs) e = absurd (omega (arith, ap leading e))
flags_same (false ∷ bs) (true ∷ cs) e = absurd (omega (arith, ap leading e))

-- ---- tables

-- the lists of two tables that a source file has are the same
pub record SameLists (t u : TableNumbers) : Type 0 where
  pub blocks : t.blocks ≡ u.blocks
  pub pages : t.pages ≡ u.pages

-- there are as many tables, and each has the lists of that which stands at its place
abbrev pub HaveSameLists : List TableNumbers → List TableNumbers → Type 0
HaveSameLists [] [] = Unit {0}
HaveSameLists [] (u ∷ us) = ⊥
HaveSameLists (t ∷ ts) [] = ⊥
HaveSameLists (t ∷ ts) (u ∷ us) = SameLists t u × HaveSameLists ts us

abbrev blocks_of : List TableNumbers → List (List ℕ)
blocks_of ts = map (λ (t : TableNumbers). t.blocks) ts

abbrev pages_of : List TableNumbers → List (List ℕ)
pages_of ts = map (λ (t : TableNumbers). t.pages) ts

pub same_blocks : (ts us : List TableNumbers) → HaveSameLists ts us → map (λ (t : TableNumbers). t.blocks) ts ≡ map (λ (t : TableNumbers). t.blocks) us
same_blocks [] [] same = refl
same_blocks [] (u ∷ us) same = absurd same
same_blocks (t ∷ ts) [] same = absurd same
same_blocks (t ∷ ts) (u ∷ us) same =
    ap (λ (x : List ℕ). x ∷ blocks_of ts) same.0.blocks ∙ ap (λ (xs : List (List ℕ)). u.blocks ∷ xs) (same_blocks ts us same.1)

pub same_pages : (ts us : List TableNumbers) → HaveSameLists ts us → map (λ (t : TableNumbers). t.pages) ts ≡ map (λ (t : TableNumbers). t.pages) us
same_pages [] [] same = refl
same_pages [] (u ∷ us) same = absurd same
same_pages (t ∷ ts) [] same = absurd same
same_pages (t ∷ ts) (u ∷ us) same =
    ap (λ (x : List ℕ). x ∷ pages_of ts) same.0.pages ∙ ap (λ (xs : List (List ℕ)). u.pages ∷ xs) (same_pages ts us same.1)

pub same_ahead : (a b : AheadNumbers) → a.start ≡ b.start → a.width ≡ b.width → a.ends ≡ b.ends → a.waiting ≡ b.waiting → a.before ≡ b.before → a.cells ≡ b.cells → a ≡ b
same_ahead a b s w e n f c =
    ap (λ (x : ℕ). record a { start = x }) s
    ∙ ap (λ (x : ℕ). record a { start = b.start; width = x }) w
    ∙ ap (λ (x : ℕ). record a { start = b.start; width = b.width; ends = x }) e
    ∙ ap (λ (x : ℕ). record b { waiting = x; before = a.before; cells = a.cells }) n
    ∙ ap (λ (x : ℕ). record b { before = x; cells = a.cells }) f
    ∙ ap (λ (x : List ℕ). record b { cells = x }) c
