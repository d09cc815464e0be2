use Rattle.std.proofs.Common.{codes}
use Rattle.std.proofs.lemmas.Str.Pattern.{contains_text}
use Rattle.uses_rules.proofs.Pages.{never, no_script, no_end_of_comment, no_bare_ampersand}
use Rattle.uses_rules.proofs.show_a_text.is_unsafe.Goals as goal

pub returns : goal.returns
returns c = record {
  no_script = never c.contains.result _ _ (codes "<script") (contains_text _ (codes "<script") _ c.contains.ensures.cases) c.as_str-page.ensures.value (no_script _ c.in_ok-page.ensures.tags.0);
  no_end = never c.contains-2.result _ _ (codes "-->") (contains_text _ (codes "-->") _ c.contains-2.ensures.cases) c.as_str-page.ensures.value (no_end_of_comment _ c.in_ok-page.ensures.tags.1);
  no_ampersand = never c.contains-3.result _ _ (codes "& ") (contains_text _ (codes "& ") _ c.contains-3.ensures.cases) c.as_str-page.ensures.value (no_bare_ampersand _ c.in_ok-page.ensures.entities);
}
