use Rattle.std.proofs.Common.{◌∷◌, codes}
use Rattle.std.proofs.lemmas.Str.{IsUtf8-string_bytes}
use Rattle.std.proofs.lemmas.Str.Pattern.{contains_text}
use Rattle.uses_rules.proofs.Pages.{never, no_clear_screen}
use Rattle.uses_rules.proofs.show_a_text.clears_the_screen.Goals as goal

pub returns : goal.returns
returns c = record {
  never =
      never c.contains.result _ _ (27 ∷ codes "[2J") (contains_text _ (27 ∷ codes "[2J") _ c.contains.ensures.cases) c.deref.ensures
      (no_clear_screen _ (IsUtf8-string_bytes c.in_ok-page.page) c.in_ok-page.ensures.sequences);
}
