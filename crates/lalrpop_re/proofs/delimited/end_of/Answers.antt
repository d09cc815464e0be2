use Rattle.std.proofs.Common.{◌≡◌, ◌≢◌, false, eqb, List, ℕ, [], length, ap, sym, ◌∙◌, rules, arith}
use Rattle.std.specs.Str.{chars}
use Rattle.std.proofs.lemmas.Bool.{false≢true}
use Rattle.std.proofs.lemmas.Bool.Decides.{Decides-eqb}
use Rattle.std.proofs.lemmas.Str.{chars-nil, chars_from_encodes}
use Rattle.std.proofs.lemmas.List.{nil_from_length}
use Rattle.lalrpop_re.proofs.delimited.end_of.Goals as goal

pub returns-then-is_empty-clause-long : goal.returns-then-is_empty-clause-long
returns-then-is_empty-clause-long c =
    let none : c.args.to.now ≡ [] = nil_from_length c.args.to.now ((Decides-eqb (length c.args.to.now) 0).0 (sym c.if-is_empty.ensures)) in
    let short : length (chars c.args.to.now) ≡ 0 = ap (λ l. length (chars l)) none ∙ ap length chars-nil in
    (λ e. absurd (cc), λ h. absurd (omega arith))

pub returns-clause-end : goal.returns-clause-end
returns-clause-end c = search (rules, chars_from_encodes)
