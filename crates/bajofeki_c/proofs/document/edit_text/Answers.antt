use Rattle.std.proofs.Common.{inl, rules}
use Rattle.bajofeki_c.proofs.document.edit_text.Goals as goal

pub returns-in-Ok-edit : goal.returns-in-Ok-edit
returns-in-Ok-edit c = record {
  edited = inl (record {
    change = c.in-Ok-edit.change;
    is_told = search rules;
    utf8 = search rules;
    range = search rules;
    text = search rules;
    pieces = search rules;
    earliest = search rules;
    first = search rules;
  });
}
