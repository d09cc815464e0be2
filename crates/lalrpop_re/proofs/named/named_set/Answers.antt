use Rattle.std.proofs.Common.{◌≡◌, true, false, codes, bytes_eq, sym, subst, ◌∙◌}
use Rattle.unicode.specs.Sets.{in_set}
use Rattle.unicode.specs.Rows.{AreRanges, HasExactly}
use Rattle.lalrpop_re.proofs.SetNameLaws.{named-any, named-ascii, named-found, named-unknown}
use Rattle.lalrpop_re.proofs.named.named_set.Goals as goal

pub class_of_codes-requires : goal.class_of_codes-requires
class_of_codes-requires c = subst AreRanges (sym c.deref-in-Ok.ensures.value) c.in_ok-ranges-in-Ok.ensures.valid

pub returns-then-eq : goal.returns-then-eq
returns-then-eq c =
    let any : bytes_eq c.in_ok-name.name.items (codes "any") ≡ true = rw (← c.as_slice.ensures.value, ← c.as_slice-2.ensures) (sym c.eq.ensures ∙ c.if-eq.true) in
    record { found = named-any c.args.name.now c.in_ok-name.name.items c.in_ok-range_class.field-0 c.in_ok-name.ensures any c.in_ok-range_class.ensures.runs }

pub returns-then-eq-2 : goal.returns-then-eq-2
returns-then-eq-2 c =
    let any : bytes_eq c.in_ok-name.name.items (codes "any") ≡ false = rw (← c.as_slice.ensures.value, ← c.as_slice-2.ensures) (sym c.eq.ensures ∙ c.if-eq.false) in
    let ascii : bytes_eq c.in_ok-name.name.items (codes "ascii") ≡ true = rw (← c.as_slice-3.ensures.value, ← c.as_slice-4.ensures) (sym c.eq-2.ensures ∙ c.if-eq-2.true) in
    record { found = named-ascii c.args.name.now c.in_ok-name.name.items c.in_ok-range_class-2.field-0 c.in_ok-name.ensures any ascii c.in_ok-range_class-2.ensures.runs }

pub returns-in-Ok : goal.returns-in-Ok
returns-in-Ok c =
    let any : bytes_eq c.in_ok-name.name.items (codes "any") ≡ false = rw (← c.as_slice.ensures.value, ← c.as_slice-2.ensures) (sym c.eq.ensures ∙ c.if-eq.false) in
    let ascii : bytes_eq c.in_ok-name.name.items (codes "ascii") ≡ false = rw (← c.as_slice-3.ensures.value, ← c.as_slice-4.ensures) (sym c.eq-2.ensures ∙ c.if-eq-2.false) in
    let exact : HasExactly c.deref-in-Ok.result.now (in_set c.in-Ok.set) = subst (λ l. HasExactly l (in_set c.in-Ok.set)) (sym c.deref-in-Ok.ensures.value) c.in_ok-ranges-in-Ok.ensures.members in
    record {
      found = named-found c.args.name.now c.in_ok-name.name.items c.in_ok-class_of_codes-in-Ok.field-0 c.in-Ok.set c.deref-in-Ok.result.now c.in_ok-name.ensures any ascii
          (rw (← c.deref.ensures.value) c.in-Ok.ensures.found) exact c.in_ok-class_of_codes-in-Ok.ensures;
    }

pub returns : goal.returns
returns c =
    let any : bytes_eq c.in_ok-name.name.items (codes "any") ≡ false = rw (← c.as_slice.ensures.value, ← c.as_slice-2.ensures) (sym c.eq.ensures ∙ c.if-eq.false) in
    let ascii : bytes_eq c.in_ok-name.name.items (codes "ascii") ≡ false = rw (← c.as_slice-3.ensures.value, ← c.as_slice-4.ensures) (sym c.eq-2.ensures ∙ c.if-eq-2.false) in
    record { found = named-unknown c.args.name.now c.in_ok-name.name.items c.in_ok-name.ensures any ascii (rw (← c.deref.ensures.value) c.in-Err.ensures.found) }
