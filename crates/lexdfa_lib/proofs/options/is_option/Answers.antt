use Rattle.std.proofs.Common.{◌≡◌, ◌&&◌, not, true, false, codes, sym, ap, ◌∙◌}
use Rattle.std.specs.List.{starts_with}
use Rattle.std.specs.Prelude.{◌==◌}
use Rattle.std.specs.Str.{bytes_eq}
use Rattle.std.proofs.lemmas.Str.Pattern.{starts_text}
use Rattle.lexdfa_lib.proofs.options.is_option.Goals as goal

pub returns-then-starts_with : goal.returns-then-starts_with
returns-then-starts_with c =
    let begins : starts_with ◌==◌ c.args.word.now (codes "-") ≡ true = sym (starts_text _ (codes "-") c.args.word.now c.starts_with.ensures.cases) ∙ c.if-starts_with.true in
    c.ne.ensures ∙ sym (ap (λ b. b && not (bytes_eq c.args.word.now (codes "-"))) begins)

pub returns-else-starts_with : goal.returns-else-starts_with
returns-else-starts_with c =
    let begins : starts_with ◌==◌ c.args.word.now (codes "-") ≡ false = sym (starts_text _ (codes "-") c.args.word.now c.starts_with.ensures.cases) ∙ c.if-starts_with.false in
    c.if-starts_with.false ∙ sym (ap (λ b. b && not (bytes_eq c.args.word.now (codes "-"))) begins)
