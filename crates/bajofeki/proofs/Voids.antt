-- A front of a text at which nothing matches, whatever comes after the text.
use Rattle.std.proofs.Common.{◌≡◌, ℕ, ◌+◌, ◌<◌, ◌≤◌, List, ◌++◌, length, take, drop, arith, sym, ap, subst, ◌∙◌, length-drop}
use Rattle.std.specs.Str.{IsUtf8, IsCharBoundary}
use Rattle.std.proofs.lemmas.List.{take-append-le, drop-append-le}
use Rattle.std.proofs.lemmas.Str.{IsCharBoundary-start}
use Rattle.lalrpop_hir.specs.Tree.{Tree}
use Rattle.lalrpop_hir.specs.Longest.{IsMatch}
use Rattle.lalrpop_rules.specs.Found.{MatchesAt, NoMatchBefore}
use Rattle.lalrpop_rules.proofs.FirstMatches.{match_begins}
use Rattle.bajofeki.specs.Internal.Parts.{IsVoidTo}
use Rattle.bajofeki.proofs.BytesLaws.{boundary_text}
use Rattle.bajofeki.proofs.Fronts.{AreRead}
use Rattle.bajofeki.proofs.Settling.{settled_match}

-- nothing was read
pub void_none : (ts : List Tree) (text : List ℕ) → IsUtf8 text → IsVoidTo ts text 0
void_none ts text u = record { begins = IsCharBoundary-start text u; nothing = λ tail n less. absurd (omega (arith, less)) }

-- nothing matches up to the place, and no more was read than the text
pub void_there : (ts : List Tree) (text : List ℕ) (at reach n : ℕ) → IsUtf8 text → IsCharBoundary text at → NoMatchBefore ts text at → AreRead ts text at reach
    → reach ≤ length text → n ≡ at → IsVoidTo ts text n
void_there ts text at reach n u begins before read near same = subst (IsVoidTo ts text) (sym same) (record { begins = begins; nothing = nothing })
  where
    nothing : (tail : List ℕ) → NoMatchBefore ts (text ++ tail) at
    nothing tail k less m =
        let within : k < length text = omega (arith, less, begins.0) in
        let here : IsCharBoundary text k = boundary_text text tail k within (match_begins ts (text ++ tail) k m) in
        let settled = read k less here in
        let alike : take settled.0 (drop k text) ≡ take settled.0 (drop k (text ++ tail)) =
        sym (ap (take settled.0) (drop-append-le k text tail (omega arith)) ∙ take-append-le settled.0 (drop k text) tail (omega (arith, length-drop k text, settled.1.0, near, within))) in
        before k less (m.0, settled_match ts (drop k text) (drop k (text ++ tail)) m.0 settled.0 settled.1.1 alike m.1)
