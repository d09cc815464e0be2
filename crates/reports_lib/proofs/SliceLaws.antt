-- How a slice is told: as text, or byte by byte.
use Rattle.std.proofs.Common.{◌≡◌, ℕ, Bool, true, false, List, ◌++◌, IsUtf8, codes, flat_map, refl, ap}
use Rattle.std.specs.Prelude.{if◌then◌else◌}
use Rattle.std.specs.Str.{is_utf8}
use Rattle.std.proofs.lemmas.Str.{IsUtf8-from_is_utf8, is_utf8-from_IsUtf8}
use Rattle.bajofeki_rules.specs.Quoted.{quoted}
use Rattle.reports_lib.specs.PieceLines.{byte_told, slice_told}

pub text_told : (slice : List ℕ) → IsUtf8 slice → slice_told slice ≡ quoted slice
text_told slice utf8 = ap (λ (t : Bool). if t then quoted slice else (codes "\"" ++ (flat_map byte_told slice ++ codes "\""))) (is_utf8-from_IsUtf8 slice utf8)

pub bytes_told : (slice : List ℕ) → ¬ IsUtf8 slice → slice_told slice ≡ codes "\"" ++ (flat_map byte_told slice ++ codes "\"")
bytes_told slice none = by (is_utf8 slice) refl
  where
    by : (t : Bool) → is_utf8 slice ≡ t
        → (if t then quoted slice else (codes "\"" ++ (flat_map byte_told slice ++ codes "\""))) ≡ codes "\"" ++ (flat_map byte_told slice ++ codes "\"")
    by true is = absurd (none (IsUtf8-from_is_utf8 slice is))
    by false is = refl
