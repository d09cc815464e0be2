-- Identifiers are ASCII.
use Rattle.std.proofs.Common.{◌≡◌, ◌<◌, ℕ, List, true, arith}
use Rattle.std.proofs.lemmas.Grind.{common_steps}
use Rattle.std.proofs.lemmas.Bool.Decides.{nat_tests}
use Rattle.std.specs.Str.{IsUtf8}
use Rattle.std.proofs.lemmas.List.Elements.{All-weaker}
use Rattle.std.proofs.lemmas.List.Sums.{AllPass-from_list_all}
use Rattle.std.proofs.lemmas.Str.{IsUtf8-from_ascii}
use Rattle.std.proofs.lemmas.Str.Ascii.{IsAscii-from_all}
use Rattle.lalrpop_emit.specs.Names.{IsIdentifier, is_name_byte}

name_byte_is_ascii : (b : ℕ) → is_name_byte b ≡ true → b < 128
name_byte_is_ascii b is = grind (arith, common_steps, nat_tests, is)

pub identifier_is_utf8 : (name : List ℕ) → IsIdentifier name → IsUtf8 name
identifier_is_utf8 name is =
    IsUtf8-from_ascii name (IsAscii-from_all name (All-weaker (λ b. is_name_byte b ≡ true) (λ b. b < 128) name_byte_is_ascii name
    (AllPass-from_list_all is_name_byte name is.part.bytes)))
