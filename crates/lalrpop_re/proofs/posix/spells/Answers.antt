use Rattle.std.proofs.Common.{◌≡◌, sym, ap, ◌∙◌, ext_get_or, arith, bytes_eq}
use Rattle.std.proofs.lemmas.Bool.Decides.{nat_tests}
use Rattle.std.proofs.lemmas.Grind.{common_steps}
use Rattle.lalrpop_re.proofs.PosixLaws.{same_bytes}
use Rattle.lalrpop_re.proofs.posix.spells.Goals as goal

pub returns : goal.returns
returns c =
    let e : c.args.name.now ≡ c.args.word.now = ext_get_or 0 c.args.name.now c.args.word.now (grind (arith, nat_tests, common_steps)) (λ i h. grind (arith, nat_tests, common_steps, c.loop-i.invariant i)) in
    sym (ap (λ l. bytes_eq l c.args.word.now) e ∙ same_bytes c.args.word.now)
