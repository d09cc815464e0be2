use Rattle.std.proofs.Common.{◌≡◌, [], ◌∷◌, ◌++◌, codes, flat_map, take}
use Rattle.json.specs.Token.{begin_array, key}
use Rattle.reviews_lib.specs.ReviewJson.{winner_object}
use Rattle.reviews_lib.proofs.review_json.write_winners.Given as goal

-- the winners so far
abbrev pub invariant-loop-winner : goal.invariant-loop-winner
invariant-loop-winner l = record {
  tokens : l.writer.tokens ≡ (l.fn.writer.tokens ++ (key (codes "winners") ∷ begin_array ∷ [])) ++ flat_map (winner_object l.reported) (take l.winner-index l.winners);
  before : l.writer.before ≡ l.fn.writer.before;
}
