-- Cases of specs/Given.antt.
use Rattle.std.proofs.Common.{◌≡◌, true, false, List, ℕ, refl}
use Rattle.std.specs.Prelude.{Some, None}
use Rattle.std.specs.Borrow.{Bor}
use Rattle.lalrpop_rules.specs.declared.piece.Piece.TheVariants.{Token, Skipped, Fault}
use Rattle.bajofeki.specs.Given.{item_by, piece_of}

token_of_rule_2 : (slice : Bor (List ℕ)) → item_by (Some 2) false 7 slice ≡ Token (record { index = 2; slice = slice; start = 7 })
token_of_rule_2 slice = refl

skipped_by_rule_0 : (slice : Bor (List ℕ)) → item_by (Some 0) true 7 slice ≡ Skipped (record { index = 0; slice = slice; start = 7 })
skipped_by_rule_0 slice = refl

no_fault_is_skipped : (slice : Bor (List ℕ)) → piece_of (record { rule = None; is_skipped = true; start = 7 }) slice ≡ Fault 7 slice
no_fault_is_skipped slice = refl
