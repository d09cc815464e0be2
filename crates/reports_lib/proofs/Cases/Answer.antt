-- Cases of specs/Answer.antt.
use Rattle.std.proofs.Common.{◌≡◌, [], codes, refl}
use Rattle.reports_lib.specs.Answer.{refusal, remark, followed, about}

-- of two statuses the greater one, in either order
greater_status : ((followed (refusal 6 []) (refusal 1 [])).status ≡ 6) × ((followed (refusal 1 []) (refusal 6 [])).status ≡ 6)
greater_status = (refl, refl)

-- what both say, in order
both_said : (followed (refusal 6 (codes "a")) (refusal 1 (codes "b"))).err ≡ codes "ab"
both_said = refl

message : about (codes "f") (codes "the file is empty") ≡ codes "tokens: f: the file is empty\n"
message = refl

-- what is said first, and the status of what comes after it
said_first : followed (remark (codes "a")) (refusal 6 (codes "b")) ≡ refusal 6 (codes "ab")
said_first = refl
