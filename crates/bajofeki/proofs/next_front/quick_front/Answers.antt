use Rattle.std.proofs.Common.{◌≡◌, ℕ, List, false, arith, inr, subst}
use Rattle.std.proofs.lemmas.Option.{IfSome_then}
use Rattle.lalrpop_rules.specs.Modes.{trees_in}
use Rattle.bajofeki.specs.declared.parts.Told.TheVariants.{Whole}
use Rattle.bajofeki.specs.Internal.Ahead.{LeadOnAfter}
use Rattle.bajofeki.specs.Internal.Parts.{Tells}
use Rattle.bajofeki.proofs.PartLaws.{token_given}
use Rattle.bajofeki.proofs.next_front.quick_front.Goals as goal

pub returns-clause-given : goal.returns-clause-given
returns-clause-given c =
    let r = c.args.lexer.now in
    let ts = trees_in r c.args.mode in
    let bytes = c.args.bytes.now in
    let p = c.args.part.now in
    let first : p.from ≡ 0 = omega (arith, c.if-part-gt0.false) in
    IfSome_then c.quick_token.result c.quick_token.ensures.told
    (λ f told. token_given ts r.precedences bytes p c.args.is_ended false c.requires.part (λ is. absurd (cc)) f.rule f.size
    (subst (λ (t : List ℕ). Tells ts r.precedences t false (Whole f)) c.text.ensures.text told) first)

pub returns-clause-found : goal.returns-clause-found
returns-clause-found c =
    let r = c.args.lexer.now in
    let p = c.args.part.now in
    let first : p.from ≡ 0 = omega (arith, c.if-part-gt0.false) in
    IfSome_then c.quick_token.result c.quick_token.ensures.found
    (λ f found. inr (first, subst (λ (t : List ℕ). LeadOnAfter r c.args.mode t f.size c.quick_token.new.ahead) c.text.ensures.text found))
