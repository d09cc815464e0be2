use Rattle.std.proofs.Common.{◌≡◌, [], ◌∷◌, ◌++◌, codes, map, take}
use Rattle.json.specs.Token.{begin_array, key, null, string}
use Rattle.reports_lib.specs.PieceLines.{name_at}
use Rattle.reviews_lib.proofs.review_json.write_unbounded.Given as goal

-- the names so far
abbrev pub invariant-loop-rule : goal.invariant-loop-rule
invariant-loop-rule l = record {
  tokens : l.writer.tokens
      ≡ (l.fn.writer.tokens ++ (key (codes "past") ∷ null ∷ key (codes "rules") ∷ begin_array ∷ [])) ++ map (λ i. string (name_at l.reported.names i)) (take l.rule-index l.rules);
  before : l.writer.before ≡ l.fn.writer.before;
}
