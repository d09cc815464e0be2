use Rattle.std.proofs.Common.{◌≡◌, ◌++◌, string_bytes, take}
use Rattle.std.specs.Str.{encode_utf8_all}
use Rattle.reports_lib.specs.ShownLine.{dots}
use Rattle.reports_lib.proofs.shown_line.after_dots.Given as goal

-- the dots and the signs so far
abbrev pub invariant-loop-c : goal.invariant-loop-c
invariant-loop-c l = string_bytes l.text ≡ encode_utf8_all (dots l.before ++ take l.c-index l.signs)
