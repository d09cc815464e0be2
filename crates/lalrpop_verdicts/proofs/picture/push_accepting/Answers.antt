use Rattle.std.proofs.Common.{◌≡◌, ◌++◌, ◌∙◌, ℕ, List, map, string_bytes, ap, append_assoc}
use Rattle.std.specs.Prelude.{codes, decimal}
use Rattle.lalrpop_verdicts.specs.Picture.{accepting_line, name_text}
use Rattle.lalrpop_verdicts.proofs.picture.push_accepting.Goals as goal

pub returns : goal.returns
unfolding accepting_line
returns c =
    let number = decimal c.args.number in
    let name = name_text (map string_bytes c.args.names.now) c.args.pattern in
    let begun : string_bytes c.write.new.self ≡ string_bytes c.args.text.now ++ (codes "  " ++ (number ++ (codes " [shape=doublecircle, label=\"" ++ (number ++ codes "\\n")))) =
    c.in_ok-write.ensures.bytes in
    c.in_ok-push_str.ensures.bytes ∙ ap (λ (t : List ℕ). t ++ codes "\"];\n") (c.in_ok-push_name.ensures ∙ ap (λ (t : List ℕ). t ++ name) begun) ∙ simp append_assoc
