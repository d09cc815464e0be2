use Rattle.std.proofs.Common.{◌∙◌, ◌≡◌, ap, sym, length}
use Rattle.std.specs.List.{list_all}
use Rattle.std.proofs.lemmas.Bool.{eqb-false}
use Rattle.lalrpop_emit.specs.Names.{is_name_byte}
use Rattle.lalrpop_emit.proofs.naming.is_name.Goals as goal

pub returns-then-not-is_empty : goal.returns-then-not-is_empty
returns-then-not-is_empty c =
    let bytes : c.are_name_bytes.result ≡ list_all is_name_byte c.args.name.now = c.are_name_bytes.ensures ∙ ap (list_all is_name_byte) c.as_bytes.ensures.value in (
      (λ t. record { some = λ e. eqb-false (length c.args.name.now) 0 (sym c.is_empty.ensures ∙ c.if-not-is_empty.true) (ap length e); bytes = sym bytes ∙ t }),
      λ h. bytes ∙ h.bytes,
    )
